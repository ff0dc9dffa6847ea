-- A message for a feed, by its payload.
use Rattle.std.proofs.Common.{◌≡◌, ◌≢◌, ℕ, zero, suc, ◌+◌, ◌≤◌, ◌<◌, List, [], ◌∷◌, ◌++◌, length, take, drop, Option, Some, None, Bool, true, false, refl, sym, ap, ◌∙◌, arith, append-nil, length-drop, length-append, Result}
use Rattle.std.specs.Prelude.{slice_get, ◌==◌, Err}
use Rattle.std.proofs.lemmas.Bool.Decides.{nat_tests}
use Rattle.std.proofs.lemmas.List.{take-append-le, drop-append-le, drop-drop, length-take-le}
use Rattle.std.proofs.lemmas.List.Elements.{All-nil}
use Rattle.std.proofs.lemmas.Option.{slice_get_past, slice_get_within}
use Rattle.feed_defs.specs.declared.history.Entry.{Entry}
use Rattle.feed_defs.specs.History.{Refusal, offer_outcome, outcome_of_judgement, judgement_of, last_stamp, longest_message}
use Rattle.feed_defs.specs.History.Refusal.{TooLong}
use Rattle.feed_defs.proofs.WellFormed.{too_long}
use Rattle.http_serve_defs.specs.Connections.{IsServed}
use Rattle.hub_replay_defs.specs.Record.{Hub, payload_at, payload_waits, reply_line, serving}
use Rattle.answer_defs.specs.Choices.{only_if}
use Rattle.hub_replay_defs.proofs.Payloads.{payload_is, get_more, no_payload, fed_within, is_fed as is_line_end}
use Rattle.board_text_defs.specs.Answers.{feed_number}
use Rattle.hub_replay_defs.proofs.Opens.{payload_short}
use Rattle.hub_replay_defs.specs.Lines.Head.{Message}
use Rattle.rt_types.specs.declared.message.FeedMessage.{FeedMessage}
use Rattle.hub_core.specs.declared.refusal.Refusal.{Refusal as Answer}
use Rattle.hub_replay.specs.Feeds.{Answers, RefusesFor}
use Rattle.hub_replay.specs.Records.{Did, numbered_turn, long_turn, is_fed}
use Rattle.script_lines.specs.Replies.{IsRefusalLine, IsReplyLine}

fed_same : (o : Option ℕ) → is_line_end o ≡ is_fed o
fed_same o = grind arith

-- a byte of what stands behind a place
get_behind : (at n : ℕ) (xs : List ℕ) → slice_get (drop at xs) n ≡ slice_get xs (at + n)
get_behind zero n xs = let e : 0 + n ≡ n = omega arith in rw e refl
get_behind (suc at) n [] = slice_get_past [] n (omega arith) ∙ sym (slice_get_past [] (suc at + n) (omega arith))
get_behind (suc at) n (x ∷ xs) = let e : suc at + n ≡ suc (at + n) = omega arith in rw e (get_behind at n xs)

-- what stands behind the byte after a place
further : (n at : ℕ) (xs : List ℕ) → drop (n + 1) (drop at xs) ≡ drop (at + n + 1) xs
further n at xs = let sum : at + (n + 1) ≡ at + n + 1 = omega arith in drop-drop (n + 1) at xs ∙ ap (λ k. drop k xs) sum

-- a message longer than any may be is refused for its length alone
refused_long : (feed : ℕ) (bytes : List ℕ) (history : List Entry) → longest_message < length bytes → offer_outcome feed bytes history ≡ record { reply = Err (TooLong (length bytes)); history = history }
refused_long feed bytes history long = rw (too_long bytes long) refl

abbrev found_in : ℕ → List ℕ → Option (List ℕ × List ℕ)
found_in n xs = only_if (is_fed (slice_get xs n)) (take n xs, drop (n + 1) xs)

payload_in : (n : ℕ) (xs : List ℕ) → payload_at n xs ≡ found_in n xs
payload_in n xs = payload_is n xs ∙ ap (λ test. only_if test (take n xs, drop (n + 1) xs)) (fed_same (slice_get xs n))

long_from : (hub : Hub) (feed n : ℕ) (xs : List ℕ) (test : Bool) → is_line_end (slice_get xs n) ≡ test → longest_message < n
    → numbered_turn hub feed (only_if test (take n xs, drop (n + 1) xs))
    ≡ only_if test (record { said = reply_line (Err (TooLong n)); hub = record hub { begun = true }; rest = drop (n + 1) xs; ended = false })
long_from hub feed n xs test fed long = grind (arith, fed_within, length-take-le, refused_long)

-- a message too long to be looked at
pub long_message : (hub : Hub) (feed n behind : ℕ) (bytes more : List ℕ) → behind ≤ length bytes → longest_message < n
    → numbered_turn hub feed (payload_at n (drop behind bytes ++ more)) ≡ long_turn (behind + n) n hub (bytes ++ more)
long_message hub feed n behind bytes more within long =
    let xs = drop behind (bytes ++ more) in
    let same : drop behind bytes ++ more ≡ xs = sym (drop-append-le behind bytes more within) in
    let place = get_behind behind n (bytes ++ more) in
    let end = further n behind (bytes ++ more) in
    rw same (ap (numbered_turn hub feed) (payload_is n xs) ∙ long_from hub feed n xs (is_line_end (slice_get xs n)) refl long ∙ rw (fed_same (slice_get xs n), place, end) refl)

-- the payload of a message whose last byte and LF are there
pub there : (n behind : ℕ) (bytes more : List ℕ) (b : ℕ) → behind ≤ length bytes → slice_get bytes (behind + n) ≡ Some b
    → payload_at n (drop behind bytes ++ more) ≡ only_if (b == 10) (take n (drop behind bytes), drop (behind + n + 1) bytes ++ more)
there n behind bytes more b within at =
    let rest = drop behind bytes in
    let inside = slice_get_within bytes (behind + n) b at in
    let size = length-drop behind bytes in
    let short : n < length rest = omega arith in
    let front : n ≤ length rest = omega arith in
    let next : n + 1 ≤ length rest = omega arith in
    let fed : slice_get (rest ++ more) n ≡ Some b = get_more rest more n short ∙ get_behind behind n bytes ∙ at in
    let end = further n behind bytes in
    payload_in n (rest ++ more) ∙ rw (fed, take-append-le n rest more front, drop-append-le (n + 1) rest more next, end) refl

-- a message that is offered
pub offered_message : (hub new : Hub) (feed n behind : ℕ) (bytes payload said said' : List ℕ) → behind ≤ length bytes → slice_get bytes (behind + n) ≡ Some 10 → payload ≡ take n (drop behind bytes)
    → said' ≡ said ++ reply_line (offer_outcome feed payload hub.history).reply → new ≡ record hub { history = (offer_outcome feed payload hub.history).history; begun = true }
    → Did (λ later more. numbered_turn (serving later hub) feed (payload_at n (drop behind bytes ++ more))) new bytes said said' (behind + n + 1)
offered_message hub new feed n behind bytes payload said said' within at is says hub_is =
    let inside = slice_get_within bytes (behind + n) 10 at in
    record {
      reply = reply_line (offer_outcome feed payload hub.history).reply;
      says = says;
      within = omega arith;
      served = [];
      are_served = All-nil IsServed;
      is = λ later more. rw (there n behind bytes more 10 within at, hub_is, is) refl;
    }

-- a payload with no LF behind it
pub no_line_feed : (hub : Hub) (feed n behind : ℕ) (bytes more : List ℕ) (b : ℕ) → behind ≤ length bytes → slice_get bytes (behind + n) ≡ Some b → (b == 10) ≡ false
    → numbered_turn hub feed (payload_at n (drop behind bytes ++ more)) ≡ None
no_line_feed hub feed n behind bytes more b within at other = rw (there n behind bytes more b within at, other) refl

-- a payload that isn't whole yet
pub no_payload_yet : (hub : Hub) (feed n behind : ℕ) (bytes : List ℕ) → length bytes ≤ behind + n → numbered_turn hub feed (payload_at n (drop behind bytes ++ [])) ≡ None
no_payload_yet hub feed n behind bytes short = grind (arith, length-drop, append-nil, no_payload)

pub not_line_feed : (b : ℕ) → b ≢ 10 → (b == 10) ≡ false
not_line_feed b h = grind (arith, nat_tests, h)

-- no byte stands past the end
pub nothing_there : (bytes : List ℕ) (place : ℕ) → slice_get bytes place ≡ None → length bytes ≤ place
nothing_there [] place h = omega arith
nothing_there (b ∷ bs) zero h = cc
nothing_there (b ∷ bs) (suc place) h = let later = nothing_there bs place h in omega arith

-- a message whose payload isn't whole waits
pub message_waits : (hub : Hub) (name : List ℕ) (feed n behind : ℕ) (bytes more : List ℕ) → feed_number hub.plans name ≡ Some feed → behind ≤ length bytes
    → length (bytes ++ more) ≤ behind + n → payload_waits hub (Message name n) (drop behind bytes ++ more) ≡ true
message_waits hub name feed n behind bytes more found within few =
    grind (arith, length-append, length-drop, payload_short)

-- a message that was refused leaves the history as it was
stays_refused : (feed : ℕ) (history : List Entry) (judgement : Result FeedMessage Refusal) (cause : Refusal) → (outcome_of_judgement feed history judgement).reply ≡ Err cause
    → (outcome_of_judgement feed history judgement).history ≡ history
stays_refused feed history judgement cause h = grind arith

pub refusal_stays : (feed : ℕ) (bytes : List ℕ) (history : List Entry) (cause : Refusal) → (offer_outcome feed bytes history).reply ≡ Err cause → (offer_outcome feed bytes history).history ≡ history
refusal_stays feed bytes history cause h = stays_refused feed history (judgement_of (last_stamp feed history) bytes) cause h

-- the line of a refusal was said
refuses : (feed : ℕ) (bytes text said said' : List ℕ) (old new : Hub) (cause : Option Refusal) → RefusesFor feed bytes old new cause → IsRefusalLine cause text → said' ≡ said ++ text
    → (said' ≡ said ++ reply_line (offer_outcome feed bytes old.history).reply) × (new ≡ record old { history = (offer_outcome feed bytes old.history).history; begun = true })
refuses feed bytes text said said' old new cause answers line says = grind (arith, refusal_stays)

-- the line of an answer was said
pub offers_to : (feed : ℕ) (bytes text said said' : List ℕ) (old new : Hub) (reply : Result ℕ Answer) → Answers feed bytes old new reply → IsReplyLine reply text → said' ≡ said ++ text
    → (said' ≡ said ++ reply_line (offer_outcome feed bytes old.history).reply) × (new ≡ record old { history = (offer_outcome feed bytes old.history).history; begun = true })
offers_to feed bytes text said said' old new reply answers line says = grind (arith, refuses)
