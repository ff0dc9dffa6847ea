-- What was found goes on from what the pass knew, and the look counts.
use Rattle.std.proofs.Common.{◌≡◌, ℕ, ◌+◌, ◌++◌, List, sym, ap, ◌∙◌, subst}
use Rattle.left_right.specs.Sides.{view as client_view}
use Rattle.feed_defs.specs.declared.history.Entry.{Entry}
use Rattle.hub_history.specs.Log.{entries_of}
use Rattle.hub_history.specs.Told.{history_of}
use Rattle.hub_history.proofs.Logs.{entries_append}
use Rattle.snapshot_cell.specs.declared.shown.View.{View}
use Rattle.snapshot_cell.specs.declared.glance.Glance.{Glance}
use Rattle.snapshot_cell.specs.declared.glance.Glance.TheVariants.{Found}
use Rattle.snapshot_cell.specs.Seen.{PassSeen, Glances, at_some}
use Rattle.snapshot_cell.proofs.pass.Pass.take_look.Goals as goal

pub returns-in-Found-clause-looked : goal.returns-in-Found-clause-looked
returns-in-Found-clause-looked c =
    let seen : Glances (client_view c.in-Some.reader.place) (client_view c.look_on-reader.result.0.place) c.self.inside.line (Found c.in-Found.line c.in-Found.view) =
    subst (λ (f : Glance). Glances (client_view c.in-Some.reader.place) (client_view c.look_on-reader.result.0.place) c.self.inside.line f) c.in-Found.is c.look_on-reader.ensures in
    let known : history_of c.self.inside.line ≡ history_of c.args.self.now.line = ap (λ (p : PassSeen). history_of p.line) c.self.view_is in
    let more = seen.1 in
    let looks : (client_view c.in-Some.reader.place).reads ≡ c.args.self.now.reads =
    (λ k. at_some (c.in-Some.ensures.value k) (λ reader. (client_view reader.place).reads) 0) ∙ ap (λ (p : PassSeen). p.reads) c.self.view_is in
    record {
      goes_on = record {
        more = entries_of more.0;
        is = sym (ap entries_of more.1) ∙ entries_append c.self.inside.line.log more.0 ∙ ap (λ (es : List Entry). es ++ entries_of more.0) known;
      };
      stays = λ e. absurd (cc (e));
      found = (c.number-number.ensures, seen.3, ap (λ (v : View). v.reads) seen.0 ∙ ap (λ (n : ℕ). n + 1) looks);
    }
