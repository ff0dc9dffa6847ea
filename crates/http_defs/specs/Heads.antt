-- What the head of a request tells, where `httparse` says what a head is.
use Rattle.std.specs.Prelude.{ℕ, Bool, ◌&&◌, ◌||◌, ◌==◌, not, bytes_eq, List, map, codes}
use Rattle.std.specs.List.{list_any, slice_split}
use Rattle.std.specs.Str.{str_eq_ignore_ascii_case}
use Rattle.httparse.specs.Grammar.{RequestHead, trim_ows}
use Rattle.httparse.specs.Spans.{name_and_value}
use Rattle.http_defs.specs.declared.request.Request.{Request}

-- a comma
abbrev pub comma : ℕ
comma = 44

-- a piece of a list, without the spaces and tabs around it, is this token, ASCII case aside
unfoldable pub is_named : List ℕ → List ℕ → Bool
is_named piece token = str_eq_ignore_ascii_case (trim_ows piece) token

-- the pieces between the commas of a value have this token
unfoldable pub has_token : List ℕ → List ℕ → Bool
has_token value token =
    list_any (λ piece. is_named piece token) (slice_split (λ b. b == comma) value)

-- a field, the pair of its name and value, is a Connection that has this token
unfoldable pub is_connection_with : List ℕ → List ℕ × List ℕ → Bool
is_connection_with token field =
    str_eq_ignore_ascii_case field.0 (codes "connection") && has_token field.1 token

-- a field tells that a body may follow: any Transfer-Encoding, and a Content-Length other than `0`
unfoldable pub tells_body : List ℕ × List ℕ → Bool
tells_body field =
    str_eq_ignore_ascii_case field.0 (codes "transfer-encoding")
    || (str_eq_ignore_ascii_case field.0 (codes "content-length")
    && not (bytes_eq field.1 (codes "0")))

-- the connection is to be closed, by the minor version and the fields
unfoldable pub closes : ℕ → List (List ℕ × List ℕ) → Bool
closes minor fields =
    list_any (is_connection_with (codes "close")) fields
    || ((minor == 0) && not (list_any (is_connection_with (codes "keep-alive")) fields))

-- a body may follow
abbrev pub carries_body : List (List ℕ × List ℕ) → Bool
carries_body fields = list_any tells_body fields

-- the request of a head
abbrev pub request_of : RequestHead → Request
request_of head = record {
  method = head.method;
  target = head.target;
  close = closes head.minor (map name_and_value head.fields);
  body = carries_body (map name_and_value head.fields);
}
