-- The one at the place is the first from there on.
use Rattle.std.proofs.Common.{◌≡◌, Some, length, slice_get, refl, sym, ap, ◌∙◌}
use Rattle.std.proofs.lemmas.Option.{slice_get_read}
use Rattle.keyed_lists.proofs.Turned.{stands, stands_there}
use Rattle.run_overlay.specs.Turning.{same_row}
use Rattle.run_overlay.proofs.live_lists.stands_at.Goals as goal

pub returns-in-Some : goal.returns-in-Some
returns-in-Some c =
    let row = c.args.row.now in
    let others = c.args.others.now in
    let other = c.in-Some.other.now in
    let seen = c.in-Some.ensures.lookup.3 in
    let at : slice_get others c.args.place ≡ Some other = slice_get_read others (length others) c.args.place other refl seen.0 (seen.1 other) in
    c.is_same.ensures ∙ sym (stands_there same_row row others c.args.place ∙ ap (stands same_row row) at)
