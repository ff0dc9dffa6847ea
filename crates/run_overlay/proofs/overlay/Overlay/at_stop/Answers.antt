-- Those ahead from the first departure at the stop on.
use Rattle.std.proofs.Common.{◌≡◌, ℕ, ◌&&◌, ℤ, List, map, filter, subst, sym, ap, w64, SFits, ◌∙◌, rules}
use Rattle.std.proofs.lemmas.Int.{to_z-of_z}
use Rattle.shared_list.specs.Order.{entries_from}
use Rattle.run_overlay.specs.declared.row.LiveRow.{LiveRow}
use Rattle.run_overlay.specs.declared.row.RowKey.{RowKey}
use Rattle.run_overlay.specs.Keys.{row_cmp, row_key}
use Rattle.run_overlay.specs.Kept.{FeedOverlay, slots_in}
use Rattle.run_overlay.specs.Live.{is_at, is_between}
use Rattle.run_overlay.specs.Sought.{AreAhead, slots_ahead}
use Rattle.keyed_lists.proofs.Entries.{keyed_each}
use Rattle.run_overlay.proofs.Slots.{ahead_is, are_ahead, first_key, slots_are}
use Rattle.run_overlay.proofs.overlay.Overlay.at_stop.Goals as goal

from_there : (stop : ℕ) (start at : ℤ) (es : List (RowKey × LiveRow)) (items : List LiveRow) → at ≡ start → items ≡ map (λ e. e.1) (entries_from row_cmp (first_key stop at) es) → items ≡ map (λ e. e.1) (entries_from row_cmp (first_key stop start) es)
from_there stop start at es items same are = are ∙ ap (λ z. map (λ e. e.1) (entries_from row_cmp (first_key stop z) es)) same

pub among-requires : goal.among-requires
among-requires c =
    let fits : SFits w64 c.args.start = search rules in
    subst (AreAhead c.args.stop) (sym (from_there c.args.stop c.args.start _ c.rows.result.now c.from.result (to_z-of_z w64 c.args.start fits) c.from.ensures.items))
    (are_ahead c.args.stop c.args.start c.args.end c.rows.result.now c.from.ensures.rising (keyed_each row_key c.rows.result.now c.from.ensures.keyed))

pub returns-clause-kept : goal.returns-clause-kept
returns-clause-kept c =
    let first : SFits w64 c.args.start = search rules in
    let last : SFits w64 c.args.end = search rules in
    c.among.ensures
    ∙ ap (λ at. slots_ahead c.args.stop at c.from.result) (to_z-of_z w64 c.args.end last)
    ∙ ap (slots_ahead c.args.stop c.args.end) (from_there c.args.stop c.args.start _ c.rows.result.now c.from.result (to_z-of_z w64 c.args.start first) c.from.ensures.items)
    ∙ ahead_is c.args.stop c.args.start c.args.end c.rows.result.now (keyed_each row_key c.rows.result.now c.from.ensures.keyed)
    ∙ ap (λ (es : List (RowKey × LiveRow)). map (λ e. e.1.slot) (filter (λ e. is_at c.args.stop e.1 && is_between c.args.start c.args.end e.1.slot) es)) c.rows.ensures
    ∙ ap (λ (o : FeedOverlay). slots_in o c.args.stop c.args.start c.args.end) c.self.view_is

pub returns-clause-said : goal.returns-clause-said
returns-clause-said c = λ t entities is. returns-clause-kept c ∙ slots_are t entities c.args.self.now is c.args.stop c.args.start c.args.end
