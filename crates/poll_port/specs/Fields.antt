-- What the head of a reply tells of the message behind it (RFC 9110, sections 5.1 and 8.6; RFC
-- 9112, section 6).
use Rattle.std.specs.Prelude.{ℕ, Bool, ◌==◌, if◌then◌else◌, List, [], ◌∷◌, map, codes, Option, Some, None}
use Rattle.std.specs.List.{filter, list_any}
use Rattle.std.specs.Option.{option_map}
use Rattle.std.specs.Str.{str_eq_ignore_ascii_case}
use Rattle.httparse.specs.Grammar.{ResponseHead, status_code}
use Rattle.httparse.specs.Spans.{name_and_value, span_bytes}
use Rattle.httparse.specs.declared.spans.Span.{Span}
use Rattle.text_defs.specs.Numbers.{number}
use Rattle.poll_port.specs.declared.extent.Extent.{Extent}
use Rattle.poll_port.specs.declared.extent.Extent.TheVariants.{ToEnd, Bytes}

-- a field, the pair of its name and its value
abbrev pub FieldBytes : Type 0
FieldBytes = List ℕ × List ℕ

-- a field has this name, ASCII case aside
unfoldable pub has_name : List ℕ → FieldBytes → Bool
has_name name field = str_eq_ignore_ascii_case field.0 name

-- the values of the fields of a name
abbrev pub values_of : List ℕ → List FieldBytes → List (List ℕ)
values_of name fields = map (λ field. field.1) (filter (has_name name) fields)

-- the length that the value of a Content-Length tells: 1 to 10 digits
unfoldable pub length_in : List ℕ → Option ℕ
length_in value = number 10 0 9999999999 value

-- a value that was seen, if one was
abbrev pub seen_value : List ℕ → Option Span → List (List ℕ)
seen_value buf None = []
seen_value buf (Some span) = span_bytes buf span ∷ []

-- how far the message goes by the values of Content-Length: without one to the end of the
-- connection; none where there are several
abbrev pub extent_from : List (List ℕ) → Option Extent
extent_from [] = Some ToEnd
extent_from (value ∷ []) = option_map Bytes (length_in value)
extent_from (value ∷ other ∷ values) = None

-- how far the message goes by the fields; none where it is encoded for its transfer
unfoldable pub extent_of : List FieldBytes → Option Extent
extent_of fields =
    if list_any (has_name (codes "transfer-encoding")) fields then None
    else extent_from (values_of (codes "content-length") fields)

-- the status of a reply that has what was asked for (RFC 9110, section 15.3.1)
abbrev pub success : ℕ
success = 200

-- how far the message goes behind a head of a good reply; none behind any other head
unfoldable pub extent_behind : ResponseHead → Option Extent
extent_behind head =
    if status_code head == success then extent_of (map name_and_value head.fields) else None
