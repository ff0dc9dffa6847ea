-- What requests ask is what may be asked.
use Rattle.std.proofs.Common.{◌≡◌, ℕ, ◌≤◌, Bool, true, false, not, bytes_eq, codes, List, [], Option, Some, None, refl, arith}
use Rattle.std.specs.Prelude.{if◌then◌else◌, ◌&&◌, nat_le, ⊤}
use Rattle.std.specs.Option.{option_and_then, option_map}
use Rattle.std.specs.Str.{is_utf8}
use Rattle.std.proofs.lemmas.Bool.Decides.{nat_tests}
use Rattle.text_defs.specs.Numbers.{number, digits, within}
use Rattle.http_defs.specs.declared.request.Request.{Request}
use Rattle.http_defs.specs.declared.asked.RouteKind.{RouteKind}
use Rattle.http_defs.specs.declared.asked.RouteKind.TheVariants.{Board as BoardRoute, Alerts as AlertsRoute, Feed as FeedRoute, Unmatched as UnmatchedRoute, Status as StatusRoute}
use Rattle.http_defs.specs.declared.asked.Choices.{Choices}
use Rattle.http_defs.specs.declared.asked.Query.{Query}
use Rattle.http_defs.specs.declared.asked.Query.TheVariants.{Board, Alerts, Feed, Unmatched, Status, Refused}
use Rattle.http_defs.specs.Routes.{routes, kind_at}
use Rattle.http_defs.specs.Targets.{begins_with_slash, path_in, form_in, text_at, first_value, number_or, span_in, limit_in, json_in, choices_in, since_in, or_bad, query_by, query_at, query_of}
use Rattle.http_serve_defs.specs.Questions.{AreChoices, IsAskable}
use Rattle.http_serve_defs.specs.Answers.{since_view, feed_since}

-- a number is one of its range
pub record InRange (low high n : ℕ) : Type 0 where
  pub least : low ≤ n
  pub most : n ≤ high

-- a value that is there has the property
abbrev Each : {A : Type 0} → (A → Type 0) → Option A → Type 0
Each P None = ⊤
Each P (Some x) = P x

each_then : {A B : Type 0} (P : B → Type 0) (f : A → Option B) (o : Option A) → ((x : A) → Each P (f x))
    → Each P (option_and_then f o)
each_then P f None all = tt
each_then P f (Some x) all = all x

within_range : (low high value : ℕ) → Each (InRange low high) (within low high value)
within_range low high value = by (nat_le low value && nat_le value high) refl
  where
    by : (t : Bool) → (nat_le low value && nat_le value high) ≡ t
        → Each (InRange low high) (if t then Some value else None)
    by false e = tt
    by true e = record { least = grind (arith, nat_tests); most = grind (arith, nat_tests) }

number_range : (most low high : ℕ) (bytes : List ℕ) → Each (InRange low high) (number most low high bytes)
unfolding number
number_range most low high bytes =
    each_then (InRange low high) (within low high) (digits 1 most bytes) (within_range low high)

number_or_range : (absent high : ℕ) (value : Option (List ℕ)) → 1 ≤ absent → absent ≤ high
    → Each (InRange 1 high) (number_or absent high value)
number_or_range absent high None least most = record { least = least; most = most }
number_or_range absent high (Some value) least most = number_range 5 1 high value

-- choices are within their ranges
abbrev IsChoice : Choices → Type 0
IsChoice c = AreChoices c.span c.limit

choices_range : (form : List ℕ) → Each IsChoice (choices_in form)
unfolding choices_in
choices_range form =
    by_span (span_in form) (number_or_range 3600 86400 (first_value (codes "span") form) (omega arith) (omega arith))
  where
    by_json : (span limit : ℕ) (json : Option Bool) → InRange 1 86400 span → InRange 1 1000 limit
        → Each IsChoice (option_map (λ j. record { span = span; limit = limit; json = j }) json)
    by_json span limit None s l = tt
    by_json span limit (Some j) s l =
        record { some_span = s.least; day_at_most = s.most; some_rows = l.least; thousand_at_most = l.most }

    by_limit : (span : ℕ) (limit : Option ℕ) → InRange 1 86400 span → Each (InRange 1 1000) limit
        → Each IsChoice (option_and_then (λ l. option_map (λ j. record { span = span; limit = l; json = j }) (json_in form)) limit)
    by_limit span None s each = tt
    by_limit span (Some l) s each = by_json span l (json_in form) s each

    by_span : (span : Option ℕ) → Each (InRange 1 86400) span
        → Each IsChoice (option_and_then (λ s. option_and_then (λ l. option_map (λ j. record { span = s; limit = l; json = j }) (json_in form)) (limit_in form)) span)
    by_span None each = tt
    by_span (Some s) each =
        by_limit s (limit_in form) each (number_or_range 50 1000 (first_value (codes "limit") form) (omega arith) (omega arith))

board_askable : (schedule stop : Option (List ℕ)) (choices : Option Choices) → Each IsChoice choices
    → IsAskable (or_bad (option_and_then (λ a. option_and_then (λ b. option_map (λ c. Board a b c.span c.limit c.json) choices) stop) schedule))
board_askable None stop choices each = refl
board_askable (Some a) None choices each = refl
board_askable (Some a) (Some b) None each = refl
board_askable (Some a) (Some b) (Some c) each = each

alerts_askable : (schedule stop : Option (List ℕ)) (choices : Option Choices) → Each IsChoice choices
    → IsAskable (or_bad (option_and_then (λ a. option_and_then (λ b. option_map (λ c. Alerts a b c.span c.limit c.json) choices) stop) schedule))
alerts_askable None stop choices each = refl
alerts_askable (Some a) None choices each = refl
alerts_askable (Some a) (Some b) None each = refl
alerts_askable (Some a) (Some b) (Some c) each = each

feed_askable : (schedule : Option (List ℕ)) (since : Option (Option ℕ))
    → IsAskable (or_bad (option_and_then (λ a. option_map (λ look. Feed a look) since) schedule))
feed_askable None since = refl
feed_askable (Some a) None = refl
feed_askable (Some a) (Some look) = tt

unmatched_askable : (schedule : Option (List ℕ)) → IsAskable (or_bad (option_map (λ a. Unmatched a) schedule))
unmatched_askable None = refl
unmatched_askable (Some a) = tt

route_askable : (kind : Option RouteKind) (path form : List ℕ) → IsAskable (query_by kind path form)
route_askable None path form = refl
route_askable (Some BoardRoute) path form =
    board_askable (text_at path 2) (text_at path 3) (choices_in form) (choices_range form)
route_askable (Some AlertsRoute) path form =
    alerts_askable (text_at path 2) (text_at path 3) (choices_in form) (choices_range form)
route_askable (Some FeedRoute) path form = feed_askable (text_at path 2) (since_in form)
route_askable (Some UnmatchedRoute) path form = unmatched_askable (text_at path 2)
route_askable (Some StatusRoute) path form = tt

-- one of two queries
either_askable : (test : Bool) (a b : Query) → IsAskable a → IsAskable b → IsAskable (if test then a else b)
either_askable true a b x y = x
either_askable false a b x y = y

path_askable : (path form : List ℕ) → IsAskable (query_at path form)
unfolding query_at
path_askable path form =
    either_askable (is_utf8 path) (query_by (kind_at routes path) path form) (Refused 404)
    (route_askable (kind_at routes path) path form) refl

-- what a request asks may be asked
pub request_askable : (r : Request) → IsAskable (query_of r)
unfolding query_of
request_askable r =
    either_askable (not (bytes_eq r.method (codes "GET"))) (Refused 405) _ refl
    (either_askable r.body (Refused 400) _ refl
    (either_askable (not (begins_with_slash r.target)) (Refused 400) _ refl
    (path_askable (path_in r.target) (form_in r.target))))

-- ---- no views

-- where no view is kept, nothing is asked for since one
none_since : (schedule : List ℕ) (since : Option ℕ) → since_view schedule since [] ≡ None
none_since schedule None = refl
none_since schedule (Some look) = refl

none_kept : (query : Query) → feed_since query [] ≡ None
none_kept (Feed schedule since) = none_since schedule since
none_kept (Board schedule stop span limit json) = refl
none_kept (Alerts schedule stop span limit json) = refl
none_kept (Unmatched schedule) = refl
none_kept Status = refl
none_kept (Refused code) = refl
