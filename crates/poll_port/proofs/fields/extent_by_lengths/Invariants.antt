use Rattle.std.proofs.Common.{◌≡◌, ◌++◌, map, drop, length, codes}
use Rattle.std.specs.Prelude.{IfSome}
use Rattle.httparse.specs.Spans.{header_bytes, IsWithin}
use Rattle.poll_port.specs.Fields.{seen_value, values_of}
use Rattle.poll_port.proofs.fields.extent_by_lengths.Given as goal

-- the values are the one that was seen and those that are left
abbrev pub invariant-loop-field : goal.invariant-loop-field
invariant-loop-field l = record {
  within : IfSome l.seen (IsWithin (length l.buf));
  values : values_of (codes "content-length") (map (header_bytes l.buf) l.fields)
      ≡ seen_value l.buf l.seen ++ values_of (codes "content-length") (map (header_bytes l.buf) (drop l.field-index l.fields));
}
