-- So many lists were made.
use Rattle.std.proofs.Common.{◌≡◌, map, []}
use Rattle.std.specs.List.{range_with_len}
use Rattle.stop_index.proofs.gathering.empty_lists.Given as goal

abbrev pub invariant-loop : goal.invariant-loop
invariant-loop l = map (λ v. v.items) l.lists.items ≡ map (λ _. []) (range_with_len 0 l.counter)
