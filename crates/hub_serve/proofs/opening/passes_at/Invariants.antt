-- The passes so far, and those that are left, are all, and are of the hub.
use Rattle.std.proofs.Common.{◌≡◌, ◌++◌}
use Rattle.std.specs.List.{All}
use Rattle.snapshot_cell.specs.Seen.{PassSeen}
use Rattle.hub_shared.specs.Calls.{IsFresh}
use Rattle.hub_serve.proofs.opening.passes_at.Given as goal

abbrev pub invariant-loop-pass : goal.invariant-loop-pass
invariant-loop-pass g l = record {
  all : l.same.items ++ l.pass-iterator.rest.items ≡ l.fn.passes.items;
  fresh : All (λ (pass : PassSeen). IsFresh g.H.OfHub.ties pass) l.pass-iterator.rest.items;
}
