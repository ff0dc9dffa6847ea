-- What a request asks. Escapes are those of `percent_encoding`, forms those of `form_urlencoded`.
use Rattle.std.specs.Prelude.{ℕ, Bool, true, false, ◌==◌, not, bytes_eq, if◌then◌else◌, List, [], ◌∷◌, slice_get, Option, Some, None, codes}
use Rattle.std.specs.List.{before_first, after_first, slice_split}
use Rattle.std.specs.Option.{option_and_then, option_map}
use Rattle.std.specs.Str.{is_utf8}
use Rattle.std.specs.Str.Lossy.{utf8_lossy}
use Rattle.percent_encoding.specs.Percent.{percent_decode}
use Rattle.form_urlencoded.specs.Form.{raw_pairs, decode}
use Rattle.text_defs.specs.Numbers.{number}
use Rattle.http_defs.specs.declared.request.Request.{Request}
use Rattle.http_defs.specs.declared.asked.RouteKind.{RouteKind}
use Rattle.http_defs.specs.declared.asked.RouteKind.TheVariants.{Board as BoardRoute, Alerts as AlertsRoute, Feed as FeedRoute, Unmatched as UnmatchedRoute, Status as StatusRoute}
use Rattle.http_defs.specs.declared.asked.Choices.{Choices}
use Rattle.http_defs.specs.declared.asked.Query.{Query}
use Rattle.http_defs.specs.declared.asked.Query.TheVariants.{Board, Alerts, Feed, Unmatched, Status, Refused}
use Rattle.http_defs.specs.Routes.{routes, kind_at}

abbrev pub is_slash : ℕ → Bool
is_slash b = b == 47

abbrev pub is_question_mark : ℕ → Bool
is_question_mark b = b == 63

-- the target has the form of a path, and not that of `*` or of a whole URI (RFC 9112, section 3.2)
abbrev pub begins_with_slash : List ℕ → Bool
begins_with_slash [] = false
begins_with_slash (b ∷ bytes) = is_slash b

-- a target's path, and what stands behind its first question mark
abbrev pub path_in : List ℕ → List ℕ
path_in target = before_first is_question_mark target

abbrev pub form_in : List ℕ → List ℕ
form_in target = after_first is_question_mark target

-- the text of a segment: its escapes are undone, and then it must be UTF-8
abbrev pub text_of : List ℕ → Option (List ℕ)
text_of segment = if is_utf8 (percent_decode segment) then Some (percent_decode segment) else None

-- the text of the segment at a place of a path; the one in front of the first slash has place 0
unfoldable pub text_at : List ℕ → ℕ → Option (List ℕ)
text_at path place = option_and_then text_of (slice_get (slice_split is_slash path) place)

-- the text of a pair of a form: escapes are undone, `+` is a space, and what is no UTF-8 is U+FFFD
abbrev pub text_pair : List ℕ × List ℕ → List ℕ × List ℕ
text_pair pair = (utf8_lossy (decode pair.0), utf8_lossy (decode pair.1))

-- the value of the first of these pairs that has the name
abbrev pub value_in : List ℕ → List (List ℕ × List ℕ) → Option (List ℕ)
value_in name [] = None
value_in name (pair ∷ pairs) =
    if bytes_eq (text_pair pair).0 name then Some (text_pair pair).1 else value_in name pairs

-- the value of the first pair of a form that has the name
unfoldable pub first_value : List ℕ → List ℕ → Option (List ℕ)
first_value name form = value_in name (raw_pairs form)

-- a number of 1 to 5 digits from 1 to `high`, or the one that stands for an absent value
abbrev pub number_or : ℕ → ℕ → Option (List ℕ) → Option ℕ
number_or absent high None = Some absent
number_or absent high (Some value) = number 5 1 high value

-- whether a format is JSON; it is text where it is absent
abbrev pub is_json : Option (List ℕ) → Option Bool
is_json None = Some false
is_json (Some value) =
    if bytes_eq value (codes "text") then Some false
    else (if bytes_eq value (codes "json") then Some true else None)

-- the seconds that are asked for, an hour where none are, and a day at most
abbrev pub span_in : List ℕ → Option ℕ
span_in form = number_or 3600 86400 (first_value (codes "span") form)

-- the most rows that are asked for, 50 where none are, and 1000 at most
abbrev pub limit_in : List ℕ → Option ℕ
limit_in form = number_or 50 1000 (first_value (codes "limit") form)

-- whether JSON is asked for
abbrev pub json_in : List ℕ → Option Bool
json_in form = is_json (first_value (codes "format") form)

-- the choices of a form; none where one of its values has another form or is out of range
unfoldable pub choices_in : List ℕ → Option Choices
choices_in form =
    option_and_then (λ span.
    option_and_then (λ limit.
    option_map (λ json. record { span = span; limit = limit; json = json }) (json_in form))
    (limit_in form))
    (span_in form)

-- the greatest number of a look: the last one of 64 bits
abbrev pub last_look : ℕ
last_look = 18446744073709551615

-- the number of a look, of 1 to 20 digits, that a value asks to go back to, or that none does
abbrev pub look_or_none : Option (List ℕ) → Option (Option ℕ)
look_or_none None = Some None
look_or_none (Some value) = option_map (λ look. Some look) (number 20 0 last_look value)

-- the look since which changes are asked for, if one is; none at all where the value has another
-- form or is out of range
unfoldable pub since_in : List ℕ → Option (Option ℕ)
since_in form = look_or_none (first_value (codes "since") form)

-- a query, or the refusal of a bad request
abbrev pub or_bad : Option Query → Query
or_bad None = Refused 400
or_bad (Some query) = query

-- the query of a board or of alerts
abbrev pub stop_query : (List ℕ → List ℕ → ℕ → ℕ → Bool → Query) → List ℕ → List ℕ → Option Query
stop_query query path form =
    option_and_then (λ schedule.
    option_and_then (λ stop.
    option_map (λ asked. query schedule stop asked.span asked.limit asked.json) (choices_in form))
    (text_at path 3))
    (text_at path 2)

-- the query of the feed of a schedule
abbrev pub feed_query : List ℕ → List ℕ → Option Query
feed_query path form =
    option_and_then (λ schedule. option_map (λ since. Feed schedule since) (since_in form))
    (text_at path 2)

-- the query of a path by its route
abbrev pub query_by : Option RouteKind → List ℕ → List ℕ → Query
query_by None path form = Refused 404
query_by (Some BoardRoute) path form = or_bad (stop_query Board path form)
query_by (Some AlertsRoute) path form = or_bad (stop_query Alerts path form)
query_by (Some FeedRoute) path form = or_bad (feed_query path form)
query_by (Some UnmatchedRoute) path form =
    or_bad (option_map (λ schedule. Unmatched schedule) (text_at path 2))
query_by (Some StatusRoute) path form = Status

-- the query of a path and a form
unfoldable pub query_at : List ℕ → List ℕ → Query
query_at path form = if is_utf8 path then query_by (kind_at routes path) path form else Refused 404

-- The query of a request. The first of these that applies refuses it: another method than GET is
-- 405, a body is 400, a target that is no path is 400, a path without a route is 404, and a segment
-- or a value that has not its form is 400.
unfoldable pub query_of : Request → Query
query_of r =
    if not (bytes_eq r.method (codes "GET")) then Refused 405
    else (if r.body then Refused 400
    else (if not (begins_with_slash r.target) then Refused 400
    else query_at (path_in r.target) (form_in r.target)))
