use Rattle.std.proofs.Common.{◌≡◌, length, min}
use Rattle.feed_defs.specs.Rows.{occurrences_of, span_in, numbered_values}
use Rattle.feed_read.proofs.Numbers.{listed}
use Rattle.feed_read.proofs.nested.numbered.Given as goal

abbrev pub invariant-loop-bytes : goal.invariant-loop-bytes
invariant-loop-bytes g l = record {
  counted : l.entity ≡ min (length l.items.items) 4294967295;
  read : listed l.items.items (numbered_values g.M.Message.table (length l.items.items) l.bytes-iterator)
      ≡ numbered_values g.M.Message.table 0 (occurrences_of span_in l.number l.fields);
}
