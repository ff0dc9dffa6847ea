use Rattle.std.proofs.Common.{◌≡◌}
use Rattle.feed_defs.specs.Rows.{occurrences_of, span_in, values}
use Rattle.feed_read.proofs.Numbers.{listed}
use Rattle.feed_read.proofs.nested.all.Given as goal

abbrev pub invariant-loop-bytes : goal.invariant-loop-bytes
invariant-loop-bytes g l = listed l.items.items (values g.M.Message.table l.bytes-iterator) ≡ values g.M.Message.table (occurrences_of span_in l.number l.fields)
