-- What was appended of the entities that were gone over, and what is left to append, are all.
use Rattle.std.proofs.Common.{◌≡◌, ◌++◌}
use Rattle.std.specs.Io.{StartsWith}
use Rattle.std.specs.List.{flat_map}
use Rattle.feed_out.specs.Fields.{combined_field}
use Rattle.feed_out.proofs.entities.push_entities.Given as goal

abbrev pub invariant-loop-held : goal.invariant-loop-held
invariant-loop-held l = record {
  written : l.out.items ++ flat_map (combined_field l.prefix) l.held-iterator ≡ l.initial.out.items ++ flat_map (combined_field l.prefix) l.initial.held-iterator;
  begins : StartsWith l.out.items l.initial.out.items;
}
