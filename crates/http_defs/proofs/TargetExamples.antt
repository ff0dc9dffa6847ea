-- What targets ask, computed.
use Rattle.std.specs.Prelude.{◌≡◌, refl, ℕ, Bool, true, false, List, [], ◌∷◌, ◌++◌, None, Some, codes}
use Prim.Native.String.{String}
use Rattle.http_defs.specs.declared.asked.Query.{Query}
use Rattle.http_defs.specs.declared.asked.Query.TheVariants.{Board, Alerts, Feed, Unmatched, Status, Refused}
use Rattle.http_defs.specs.Targets.{query_of}
use Rattle.http_defs.proofs.OnLiterals.{http_on_literals}

-- what a GET with no body asks
abbrev get : List ℕ → Query
get target = query_of (record { method = codes "GET"; target = target; close = false; body = false })

abbrev asked : String → Query
asked target = get (codes target)

-- the board of `b` in `a`, with a span, a limit and whether it is JSON
abbrev board : ℕ → ℕ → Bool → Query
board span limit json = Board (codes "a") (codes "b") span limit json

pub plain_board : asked "/board/a/b" ≡ board 3600 50 false
unfolding http_on_literals
plain_board = refl

pub all_choices : asked "/board/a/b?span=60&limit=5&format=json" ≡ board 60 5 true
unfolding http_on_literals
all_choices = refl

pub choices_in_any_order : asked "/board/a/b?format=text&limit=1000&span=86400" ≡ board 86400 1000 false
unfolding http_on_literals
choices_in_any_order = refl

pub least_choices : asked "/board/a/b?span=1&limit=1" ≡ board 1 1 false
unfolding http_on_literals
least_choices = refl

pub alerts : asked "/alerts/a/b?limit=9" ≡ Alerts (codes "a") (codes "b") 3600 9 false
unfolding http_on_literals
alerts = refl

pub feed : asked "/feed/a" ≡ Feed (codes "a") None
unfolding http_on_literals
feed = refl

pub unmatched : asked "/unmatched/a" ≡ Unmatched (codes "a")
unfolding http_on_literals
unmatched = refl

pub state : asked "/status" ≡ Status
unfolding http_on_literals
state = refl

pub state_with_form : asked "/status?span=0" ≡ Status
unfolding http_on_literals
state_with_form = refl

pub no_path : asked "" ≡ Refused 400
unfolding http_on_literals
no_path = refl

pub asterisk : asked "*" ≡ Refused 400
unfolding http_on_literals
asterisk = refl

pub whole_uri : asked "http://hub/status" ≡ Refused 400
unfolding http_on_literals
whole_uri = refl

pub root : asked "/" ≡ Refused 404
unfolding http_on_literals
root = refl

pub state_with_slash : asked "/status/" ≡ Refused 404
unfolding http_on_literals
state_with_slash = refl

pub doubled_slash : asked "//status" ≡ Refused 404
unfolding http_on_literals
doubled_slash = refl

pub other_case : asked "/Status" ≡ Refused 404
unfolding http_on_literals
other_case = refl

pub empty_schedule : asked "/board//b" ≡ Refused 404
unfolding http_on_literals
empty_schedule = refl

pub empty_stop : asked "/board/a/" ≡ Refused 404
unfolding http_on_literals
empty_stop = refl

pub no_stop : asked "/board/a" ≡ Refused 404
unfolding http_on_literals
no_stop = refl

pub segment_too_many : asked "/board/a/b/c" ≡ Refused 404
unfolding http_on_literals
segment_too_many = refl

pub empty_feed : asked "/feed/" ≡ Refused 404
unfolding http_on_literals
empty_feed = refl

pub escaped_slash : asked "/board/a%2Fb/c" ≡ Board (codes "a/b") (codes "c") 3600 50 false
unfolding http_on_literals
escaped_slash = refl

pub escaped_slash_alone : asked "/feed/a%2fb" ≡ Feed (codes "a/b") None
unfolding http_on_literals
escaped_slash_alone = refl

pub escaped_letters : asked "/board/%61/%62" ≡ board 3600 50 false
unfolding http_on_literals
escaped_letters = refl

pub no_text : asked "/feed/%FF" ≡ Refused 400
unfolding http_on_literals
no_text = refl

pub half_a_character : asked "/feed/%C3" ≡ Refused 400
unfolding http_on_literals
half_a_character = refl

pub whole_character : asked "/feed/%C3%BC" ≡ Feed (195 ∷ 188 ∷ []) None
unfolding http_on_literals
whole_character = refl

pub plus_stays : asked "/feed/a+b" ≡ Feed (codes "a+b") None
unfolding http_on_literals
plus_stays = refl

pub no_escape_stays : asked "/feed/%zz" ≡ Feed (codes "%zz") None
unfolding http_on_literals
no_escape_stays = refl

pub second_question_mark : asked "/feed/a?x?span=0" ≡ Feed (codes "a") None
unfolding http_on_literals
second_question_mark = refl

pub choice_behind_second_mark : asked "/board/a/b?x?&limit=7" ≡ board 3600 7 false
unfolding http_on_literals
choice_behind_second_mark = refl

pub first_of_equal_names : asked "/board/a/b?limit=5&limit=0" ≡ board 3600 5 false
unfolding http_on_literals
first_of_equal_names = refl

pub bad_first_of_equal_names : asked "/board/a/b?limit=0&limit=5" ≡ Refused 400
unfolding http_on_literals
bad_first_of_equal_names = refl

pub limit_zero : asked "/board/a/b?limit=0" ≡ Refused 400
unfolding http_on_literals
limit_zero = refl

pub limit_too_high : asked "/board/a/b?limit=1001" ≡ Refused 400
unfolding http_on_literals
limit_too_high = refl

pub span_zero : asked "/board/a/b?span=0" ≡ Refused 400
unfolding http_on_literals
span_zero = refl

pub span_too_high : asked "/board/a/b?span=86401" ≡ Refused 400
unfolding http_on_literals
span_too_high = refl

pub five_digits : asked "/board/a/b?span=00060" ≡ board 60 50 false
unfolding http_on_literals
five_digits = refl

pub six_digits : asked "/board/a/b?span=000060" ≡ Refused 400
unfolding http_on_literals
six_digits = refl

pub signed_number : asked "/board/a/b?span=+5" ≡ Refused 400
unfolding http_on_literals
signed_number = refl

pub span_without_value : asked "/board/a/b?span" ≡ Refused 400
unfolding http_on_literals
span_without_value = refl

pub no_ampersand : asked "/board/a/b?span=60?limit=5" ≡ Refused 400
unfolding http_on_literals
no_ampersand = refl

pub other_format : asked "/board/a/b?format=xml" ≡ Refused 400
unfolding http_on_literals
other_format = refl

pub format_of_other_case : asked "/board/a/b?format=JSON" ≡ Refused 400
unfolding http_on_literals
format_of_other_case = refl

pub format_no_text : asked "/board/a/b?format=json%FF" ≡ Refused 400
unfolding http_on_literals
format_no_text = refl

pub escaped_name : asked "/board/a/b?sp%61n=7" ≡ board 7 50 false
unfolding http_on_literals
escaped_name = refl

pub escaped_value : asked "/board/a/b?span=%37" ≡ board 7 50 false
unfolding http_on_literals
escaped_value = refl

pub other_names : asked "/board/a/b?&&x=1&Span=0&=9" ≡ board 3600 50 false
unfolding http_on_literals
other_names = refl

-- ---- what changed since a look

-- the feed of `a` since a look
abbrev feed_since : ℕ → Query
feed_since look = Feed (codes "a") (Some look)

pub since_the_first_look : asked "/feed/a?since=0" ≡ feed_since 0
unfolding http_on_literals
since_the_first_look = refl

pub twenty_digits : asked "/feed/a?since=00000000000000000065" ≡ feed_since 65
unfolding http_on_literals
twenty_digits = refl

pub digit_too_many : asked "/feed/a?since=000000000000000000065" ≡ Refused 400
unfolding http_on_literals
digit_too_many = refl

pub greatest_look : asked "/feed/a?since=18446744073709551615" ≡ feed_since 18446744073709551615
unfolding http_on_literals
greatest_look = refl

pub look_too_high : asked "/feed/a?since=18446744073709551616" ≡ Refused 400
unfolding http_on_literals
look_too_high = refl

pub look_far_too_high : asked "/feed/a?since=99999999999999999999" ≡ Refused 400
unfolding http_on_literals
look_far_too_high = refl

pub look_no_number : asked "/feed/a?since=x" ≡ Refused 400
unfolding http_on_literals
look_no_number = refl

pub signed_look : asked "/feed/a?since=+5" ≡ Refused 400
unfolding http_on_literals
signed_look = refl

pub empty_look : asked "/feed/a?since=" ≡ Refused 400
unfolding http_on_literals
empty_look = refl

pub look_without_value : asked "/feed/a?since" ≡ Refused 400
unfolding http_on_literals
look_without_value = refl

pub first_of_two_looks : asked "/feed/a?since=5&since=x" ≡ feed_since 5
unfolding http_on_literals
first_of_two_looks = refl

pub bad_first_of_two_looks : asked "/feed/a?since=x&since=5" ≡ Refused 400
unfolding http_on_literals
bad_first_of_two_looks = refl

pub escaped_look : asked "/feed/a?s%69nce=%37" ≡ feed_since 7
unfolding http_on_literals
escaped_look = refl

pub look_of_other_case : asked "/feed/a?Since=5" ≡ Feed (codes "a") None
unfolding http_on_literals
look_of_other_case = refl

pub feed_takes_no_span : asked "/feed/a?span=0&limit=x&since=7" ≡ feed_since 7
unfolding http_on_literals
feed_takes_no_span = refl

pub board_takes_no_look : asked "/board/a/b?since=x" ≡ board 3600 50 false
unfolding http_on_literals
board_takes_no_look = refl

pub alerts_take_no_look : asked "/alerts/a/b?since=x" ≡ Alerts (codes "a") (codes "b") 3600 50 false
unfolding http_on_literals
alerts_take_no_look = refl

pub unmatched_takes_no_look : asked "/unmatched/a?since=x" ≡ Unmatched (codes "a")
unfolding http_on_literals
unmatched_takes_no_look = refl

pub state_takes_no_look : asked "/status?since=x" ≡ Status
unfolding http_on_literals
state_takes_no_look = refl

-- a byte that is no text has no route
pub byte_above_all : get (codes "/feed/" ++ 255 ∷ []) ≡ Refused 404
unfolding http_on_literals
byte_above_all = refl

-- other methods, and requests with a body
pub head_is_refused : query_of (record { method = codes "HEAD"; target = codes "/status"; close = false; body = true }) ≡ Refused 405
unfolding http_on_literals
head_is_refused = refl

pub small_get_is_refused : query_of (record { method = codes "get"; target = codes "/status"; close = false; body = false }) ≡ Refused 405
unfolding http_on_literals
small_get_is_refused = refl

pub body_is_refused : query_of (record { method = codes "GET"; target = codes "/nowhere"; close = false; body = true }) ≡ Refused 400
unfolding http_on_literals
body_is_refused = refl
