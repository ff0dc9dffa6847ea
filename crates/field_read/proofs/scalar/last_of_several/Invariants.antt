use Rattle.std.proofs.Common.{◌≡◌}
use Rattle.std.specs.List.{filter_map, last_or}
use Rattle.feed_defs.specs.Rows.{value_under, last_of}
use Rattle.field_read.proofs.scalar.last_of_several.Given as goal

abbrev pub invariant-loop-part : goal.invariant-loop-part
invariant-loop-part g l = last_or l.found (filter_map (value_under g.S.Scalar.says l.number) l.part-iterator) ≡ last_of g.S.Scalar.says l.number l.fields
