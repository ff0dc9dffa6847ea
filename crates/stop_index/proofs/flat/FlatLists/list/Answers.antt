-- The part from an offset up to the next.
use Rattle.std.proofs.Common.{◌≡◌, ◌+◌, ◌-◌, ◌<◌, ◌≤◌, length, take, drop, slice_index, sym, ap, ◌∙◌, arith}
use Rattle.std.proofs.lemmas.List.{get_or_read}
use Rattle.stop_index.proofs.FlatLemmas.{list_is, no_list}
use Rattle.stop_index.proofs.flat.FlatLists.list.Goals as goal

pub returns-then-number-len : goal.returns-then-number-len
returns-then-number-len c =
    let offsets = c.self.inside.offsets.items in
    let departures = c.self.inside.departures.items in
    let within : c.args.number + 1 < length offsets = omega (arith, c.len.ensures, c.if-number-len.true) in
    let from : c.index.result.now ≡ slice_index offsets c.args.number = get_or_read offsets c.args.number c.index.result.now (omega arith) c.index.ensures 0 in
    let to : c.index-then-number-len.result.now ≡ slice_index offsets (c.args.number + 1) = get_or_read offsets (c.args.number + 1) c.index-then-number-len.result.now within c.index-then-number-len.ensures 0 in
    rw (← c.self.view_is)
    (ap (λ ds. take (c.index-then-number-len.result.now - c.index.result.now) (drop c.index.result.now ds)) c.deref.ensures.value
    ∙ ap (λ a. take (c.index-then-number-len.result.now - a) (drop a departures)) from
    ∙ ap (λ b. take (b - slice_index offsets c.args.number) (drop (slice_index offsets c.args.number) departures)) to
    ∙ sym (list_is offsets departures c.args.number within))

pub returns-else-number-len : goal.returns-else-number-len
returns-else-number-len c =
    let offsets = c.self.inside.offsets.items in
    let past : length offsets ≤ c.args.number + 1 = omega (arith, c.len.ensures, c.if-number-len.false) in
    rw (← c.self.view_is) (sym (no_list offsets c.self.inside.departures.items c.args.number past))
