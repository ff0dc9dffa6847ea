use Rattle.std.proofs.Common.{◌≡◌, map, drop}
use Rattle.std.specs.List.{list_any}
use Rattle.httparse.specs.Spans.{header_bytes}
use Rattle.http_defs.specs.Heads.{is_connection_with}
use Rattle.http_req.proofs.fields.any_connection.Given as goal

-- what is told of all is told of those that are left
abbrev pub invariant-loop-field : goal.invariant-loop-field
invariant-loop-field l =
    list_any (is_connection_with l.token) (map (header_bytes l.buf) (drop l.field-index l.fields))
    ≡ list_any (is_connection_with l.token) (map (header_bytes l.buf) l.fields)
