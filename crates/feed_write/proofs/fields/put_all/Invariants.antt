-- The messages that were gone over are written.
use Rattle.std.proofs.Common.{◌≡◌, ◌++◌, take, map}
use Rattle.std.specs.List.{flat_map}
use Rattle.pb_wire_defs.specs.Writing.{field_bytes}
use Rattle.feed_defs.specs.Rows.{write_all}
use Rattle.feed_write.proofs.fields.put_all.Given as goal

abbrev pub invariant-loop-message : goal.invariant-loop-message
invariant-loop-message g l = l.out.items ≡ l.initial.out.items ++ flat_map field_bytes (write_all l.number g.M.Message.table (map (g.M.Message.renamed l.prefix) (take l.message-index l.messages)))
