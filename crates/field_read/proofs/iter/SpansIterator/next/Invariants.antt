use Rattle.std.proofs.Common.{◌≡◌, length}
use Rattle.feed_defs.specs.Rows.{occurrences_of, span_in}
use Rattle.field_read.proofs.iter.SpansIterator.next.Given as goal

abbrev pub invariant-parts : goal.invariant-parts
invariant-parts l = occurrences_of span_in l.self-inside.number l.self-inside.parts ≡ l.fn.self

abbrev pub decreases-parts : goal.decreases-parts
decreases-parts l = length l.self-inside.parts
