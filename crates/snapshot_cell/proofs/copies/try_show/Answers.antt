-- The last operation decides, and the step keeps the rule.
use Rattle.std.proofs.Common.{◌≡◌, List, sym, ap, ◌∙◌, subst, rules}
use Rattle.std.specs.Prelude.{fold, drop}
use Rattle.std.specs.Arc.{arc_value}
use Rattle.board_defs.specs.Views.{HubKept, StandsFor}
use Rattle.hub_history.specs.Told.{Told, history_of, AreOne}
use Rattle.snapshot_cell.specs.declared.shown.Shown.{Shown}
use Rattle.snapshot_cell.specs.declared.shown.Face.{Face}
use Rattle.snapshot_cell.proofs.Steps.{applied, last_applied, puts}
use Rattle.snapshot_cell.proofs.copies.try_show.Goals as goal

pub publish_as-next-requires : goal.publish_as-next-requires
publish_as-next-requires g c next e views kept at =
    let x : Shown = c.append.new.self.desk.shown.value in
    let op : Shown = record { view = c.in-Ok.view; line = c.again.result } in
    let start : Face = record { view = arc_value x.view; line = x.line } in
    let before : List Shown = drop c.args.first.behind c.args.first.log.items in
    let face : ◌≡◌ {A = Face} (record { view = arc_value next.view; line = next.line }) (applied (fold applied start before) op) =
    e ∙ ap (λ (xs : List Shown). fold applied start xs) c.in_default-append.ensures.pending ∙ last_applied start before op in
    let seen : arc_value c.in-Ok.view ≡ arc_value c.args.shared.now = search rules in
    let next_view : arc_value next.view ≡ arc_value c.args.shared.now = ap (λ (f : Face). f.view) face ∙ seen in
    let next_line : next.line ≡ c.args.line.now = ap (λ (f : Face). f.line) face ∙ c.again.ensures in
    let stands : StandsFor (history_of next.line) (arc_value next.view) =
    subst (λ (t : Told). StandsFor (history_of t) (arc_value next.view)) (sym next_line) (subst (λ (h : HubKept). StandsFor (history_of c.args.line.now) h) (sym next_view) c.requires.stands) in
    let plans : (arc_value x.view).plans ≡ (arc_value next.view).plans =
    (λ k. (arc_value {X = HubKept} (c.in_default-append.ensures.desk k).shown.value.view).plans) ∙ c.requires.plans ∙ ap (λ (h : HubKept). h.plans) (sym next_view) in
    let hub : AreOne next.line x.line = record {
      book = ap (λ (t : Told). t.book) next_line ∙ c.requires.hub.book ∙ sym (λ k. (c.in_default-append.ensures.desk k).shown.value.line.book);
      feeds = ap (λ (t : Told). t.feeds) next_line ∙ c.requires.hub.feeds ∙ sym (λ k. (c.in_default-append.ensures.desk k).shown.value.line.feeds);
    } in
    puts x next _ _ stands plans hub views kept at
