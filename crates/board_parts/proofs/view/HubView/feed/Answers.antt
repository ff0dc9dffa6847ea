-- The overlay of each feed is the one on its timetable.
use Rattle.std.proofs.Common.{◌≡◌, ◌<◌, length, get_or, ap, sym, subst, ◌∙◌, rules, arith}
use Rattle.std.specs.Arc.{arc_value}
use Rattle.std.proofs.lemmas.List.{length-map}
use Rattle.board_defs.specs.Views.{HubKept}
use Rattle.feed_view.specs.Kept.{IsOver, kept_of, nothing_seen}
use Rattle.board_parts.specs.Whole.{timetable_of}
use Rattle.board_parts.proofs.Overs.{at_number}
use Rattle.board_parts.proofs.view.HubView.feed.Goals as goal

pub returns-clause-over : goal.returns-clause-over
returns-clause-over c = λ t of.
    let items = c.self.inside.feeds.items in
    let within : c.args.feed < length items = omega (arith, rw (← c.self.view_is) at c.requires, length-map items (λ feed. kept_of (arc_value feed))) in
    let at : arc_value (get_or items c.args.feed c.index.result.now) ≡ c.deref.result.now = search rules in
    subst (IsOver t) (sym (at_number arc_value items c.args.feed c.index.result.now nothing_seen within) ∙ at)
    (c.self.invariant.over.over c.args.feed t (ap (λ (kept : HubKept). timetable_of kept.plans c.args.feed) c.self.view_is ∙ of))
