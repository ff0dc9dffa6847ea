use Rattle.std.proofs.Common.{◌≡◌, ◌++◌, map}
use Rattle.feed_defs.specs.Rows.{occurrences_of, span_in}
use Rattle.feed_read.proofs.on_threads.payloads_of.Given as goal

abbrev pub invariant-loop-bytes : goal.invariant-loop-bytes
invariant-loop-bytes l = map (λ bytes. bytes.now) l.payloads.items ++ l.bytes-iterator ≡ occurrences_of span_in l.number l.fields
