use Rattle.std.proofs.Common.{◌≡◌, map, drop}
use Rattle.std.specs.List.{list_any}
use Rattle.httparse.specs.Spans.{header_bytes}
use Rattle.poll_port.specs.Fields.{has_name}
use Rattle.poll_port.proofs.fields.has_field.Given as goal

-- what is told of all is told of those that are left
abbrev pub invariant-loop-field : goal.invariant-loop-field
invariant-loop-field l =
    list_any (has_name l.name) (map (header_bytes l.buf) (drop l.field-index l.fields))
    ≡ list_any (has_name l.name) (map (header_bytes l.buf) l.fields)
