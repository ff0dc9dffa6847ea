-- That `waits` tells apart what more bytes may make a record and what stays none, whatever follows.
use Rattle.std.proofs.Common.{◌≡◌, ℕ, zero, suc, ◌+◌, ◌-◌, ◌≤◌, ◌<◌, List, [], ◌∷◌, ◌++◌, length, take, drop, Option, Some, None, Bool, true, false, refl, ap, ◌∙◌, subst, arith}
use Rattle.std.specs.Prelude.{◌&&◌, nat_lt, nat_le, replicate, slice_get}
use Rattle.std.specs.Option.{is_some}
use Rattle.std.proofs.lemmas.Bool.Decides.{nat_tests}
use Rattle.answer_defs.specs.Choices.{only_if}
use Rattle.board_text_defs.specs.Answers.{feed_number}
use Rattle.hub_replay_defs.specs.Lines.{Head, head_of, line_within, longest_line}
use Rattle.hub_replay_defs.specs.Lines.Head.{Feed, Message, Ask, Connection, End}
use Rattle.hub_replay_defs.specs.Optional.{◌>>=◌}
use Rattle.hub_replay_defs.specs.Record.{Hub, Turn, act, connection_of, head_waits, line_waits, offered_turn, payload_at, payload_waits, served_turn, turn, waits}
use Rattle.hub_replay_defs.proofs.Options.{bind_at, bind_none}
use Rattle.hub_replay_defs.proofs.Payloads.{get_more, is_fed, payload_is}
use Rattle.hub_replay_defs.proofs.Turns.{no_line_turn, turn_line}

-- a value that a test held back
held_back : {A : Type 0} (test : Bool) (x : A) → only_if test x ≡ None → test ≡ false
held_back test x h = grind arith

-- a step behind one that gave nothing
gone : {A B : Type 0} (r : Option A) (f : A → B) → (r >>= λ x. Some (f x)) ≡ None → r ≡ None
gone r f h = grind arith

-- where another byte than LF stands behind a payload, none is there when bytes follow
no_payload_later : (n : ℕ) (rest more : List ℕ) → n < length rest → payload_at n rest ≡ None
    → payload_at n (rest ++ more) ≡ None
no_payload_later n rest more within none = grind (arith, get_more, held_back, is_fed, payload_is)

-- so no message stands there either, nor a connection
no_message_later : (hub : Hub) (o : Option ℕ) (n : ℕ) (rest more : List ℕ)
    → (o >>= λ k. payload_at n rest >>= λ found. Some (offered_turn hub k found)) ≡ None
    → (is_some o && nat_le (length rest) n) ≡ false
    → (o >>= λ k. payload_at n (rest ++ more) >>= λ found. Some (offered_turn hub k found)) ≡ None
no_message_later hub o n rest more none whole = grind (arith, bind_none, gone, no_payload_later, nat_tests)

-- the record of a line that doesn't wait for its payload, and isn't whole, is none when bytes follow
no_act_later : (hub : Hub) (head : Head) (rest more : List ℕ) → act hub head rest ≡ None
    → payload_waits hub head rest ≡ false → act hub head (rest ++ more) ≡ None
no_act_later hub head rest more none whole = grind (arith, bind_none, gone, held_back, nat_tests, no_message_later, no_payload_later)

no_head_later : (hub : Hub) (o : Option Head) (rest more : List ℕ)
    → (o >>= λ head. act hub head rest) ≡ None → head_waits hub o rest ≡ false
    → (o >>= λ head. act hub head (rest ++ more)) ≡ None
no_head_later hub o rest more none whole = grind (arith, no_act_later)

no_turn_later : (hub : Hub) (bytes more : List ℕ) (found : Option (List ℕ × List ℕ))
    → line_within longest_line bytes ≡ found → turn hub bytes ≡ None → waits hub bytes ≡ false
    → turn hub (bytes ++ more) ≡ None
unfolding turn waits
no_turn_later hub bytes more None there none whole =
    let e : nat_lt (length bytes) longest_line ≡ false =
    subst (λ line. line_waits hub line bytes ≡ false) there whole in
    no_line_turn hub bytes (grind (arith, nat_tests, e)) there more
no_turn_later hub bytes more (Some line) there none whole =
    let is_none : (head_of line.0 >>= λ head. act hub head line.1) ≡ None =
    subst (λ found. (found >>= λ one. head_of one.0 >>= λ head. act hub head one.1) ≡ None) there none in
    let is_whole : head_waits hub (head_of line.0) line.1 ≡ false =
    subst (λ found. line_waits hub found bytes ≡ false) there whole in
    turn_line hub bytes more line.0 line.1 there ∙ no_head_later hub (head_of line.0) line.1 more is_none is_whole

-- What is no record, and doesn't wait, is none whatever follows.
pub never_a_record : (hub : Hub) (bytes : List ℕ) → turn hub bytes ≡ None → waits hub bytes ≡ false
    → (more : List ℕ) → turn hub (bytes ++ more) ≡ None
never_a_record hub bytes none whole more = grind (arith, no_turn_later)

behind : (xs ys : List ℕ) (n : ℕ) → slice_get (xs ++ ys) (n + length xs) ≡ slice_get ys n
behind [] ys n = ap (slice_get ys) (omega arith)
behind (x ∷ xs) ys n = grind (arith, behind xs ys n)

last_of_same : (n : ℕ) → slice_get {X = ℕ} (replicate (suc n) 10) n ≡ Some 10
last_of_same zero = refl
last_of_same (suc n) = last_of_same n

-- a payload that isn't whole is there once enough bytes follow, of which the last is LF
payload_later : (n : ℕ) (rest : List ℕ) → length rest ≤ n
    → (more : List ℕ) × (found : List ℕ × List ℕ) × (payload_at n (rest ++ more) ≡ Some found)
payload_later n rest short =
    let left = n - length rest in
    let more : List ℕ = replicate (suc left) 10 in
    let whole : left + length rest ≡ n = omega arith in
    let ends : slice_get (rest ++ more) n ≡ Some 10 =
    subst (λ i. slice_get (rest ++ more) i ≡ Some 10) whole (behind rest more left ∙ last_of_same left) in
    (more, (take n (rest ++ more), drop (n + 1) (rest ++ more)), payload_is n (rest ++ more) ∙ rw ends refl)

message_later : (hub : Hub) (o : Option ℕ) (n : ℕ) (rest : List ℕ) → (is_some o && nat_le (length rest) n) ≡ true
    → (more : List ℕ) × (t : Turn)
    × ((o >>= λ k. payload_at n (rest ++ more) >>= λ found. Some (offered_turn hub k found)) ≡ Some t)
message_later hub None n rest waiting = cc
message_later hub (Some k) n rest waiting =
    let (more, found, there) = payload_later n rest (grind (arith, nat_tests, waiting)) in
    (more, offered_turn hub k found, bind_at (payload_at n (rest ++ more)) _ found there)

-- What waits for its payload is a record once enough bytes follow.
pub once_a_record : (hub : Hub) (head : Head) (rest : List ℕ) → payload_waits hub head rest ≡ true
    → (more : List ℕ) × (t : Turn) × (act hub head (rest ++ more) ≡ Some t)
once_a_record hub (Feed name) rest waiting = cc
once_a_record hub (Message feed n) rest waiting =
    message_later hub (feed_number hub.plans feed) n rest waiting
once_a_record hub (Ask question) rest waiting = cc
once_a_record hub (Connection moment n) rest waiting =
    let (more, found, there) = payload_later n rest (grind (arith, nat_tests, waiting)) in
    (more, served_turn hub moment (connection_of found.0 hub.given) found.1, bind_at (payload_at n (rest ++ more)) _ found there)
once_a_record hub End rest waiting = cc
