-- One list more.
use Rattle.std.proofs.Common.{◌≡◌, ◌+◌, sym, arith, []}
use Rattle.std.proofs.lemmas.List.{map-append}
use Rattle.std.proofs.lemmas.List.FromFn.{map-range_with_len_more}
use Rattle.stop_index.proofs.gathering.empty_lists.Goals as goal

pub loop-preserved : goal.loop-preserved
loop-preserved c =
    let more : 0 + c.loop.counter ≡ c.loop.counter = omega arith in
    rw (c.in_ok-push.ensures.items, map-append, c.loop.invariant, c.new.ensures.items) (sym (map-range_with_len_more (λ _. []) 0 c.loop.counter c.loop.counter more))
