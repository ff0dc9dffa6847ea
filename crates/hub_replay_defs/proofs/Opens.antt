-- Which scripts go on behind their bytes, one record at a time.
use Rattle.std.proofs.Common.{◌≡◌, ℕ, zero, suc, ◌+◌, ◌≤◌, ◌<◌, List, ◌++◌, length, Option, Some, None, Bool, true, false, refl, sym, ◌∙◌, arith}
use Rattle.std.specs.Prelude.{if◌then◌else◌, nat_lt}
use Rattle.std.proofs.lemmas.Bool.Decides.{nat_tests}
use Rattle.board_text_defs.specs.Answers.{feed_number}
use Rattle.hub_replay_defs.specs.Lines.{Head, head_of, line_within, longest_line}
use Rattle.hub_replay_defs.specs.Record.{Hub, Turn, payload_waits, turn, waits}
use Rattle.hub_replay_defs.specs.Lines.Head.{Message, Connection}
use Rattle.hub_replay_defs.specs.Output.{is_open_within, is_open}
use Rattle.hub_replay_defs.proofs.Lines.{line_more}
use Rattle.hub_replay_defs.proofs.Turns.{turn_rest}

-- behind the record in front, if there is one, and else where what stands there waits
abbrev step : Option Turn → Bool → (Hub → List ℕ → Bool) → Bool
step None waiting later = waiting
step (Some t) waiting later = if t.ended then false else later t.hub t.rest

open_unfolds_at : (most : ℕ) (hub : Hub) (bytes : List ℕ) (o : Option Turn) → turn hub bytes ≡ o
    → is_open_within (suc most) hub bytes ≡ step o (waits hub bytes) (is_open_within most)
unfolding is_open_within
open_unfolds_at most hub bytes o h = grind arith

open_unfolds : (most : ℕ) (hub : Hub) (bytes : List ℕ)
    → is_open_within (suc most) hub bytes ≡ step (turn hub bytes) (waits hub bytes) (is_open_within most)
open_unfolds most hub bytes = open_unfolds_at most hub bytes (turn hub bytes) refl

step_same : (o : Option Turn) (waiting : Bool) (f g : Hub → List ℕ → Bool)
    → ((t : Turn) → o ≡ Some t → f t.hub t.rest ≡ g t.hub t.rest) → step o waiting f ≡ step o waiting g
step_same o waiting f g same = grind arith

-- as many records as there are bytes are enough
open_enough : (m n : ℕ) (hub : Hub) (bytes : List ℕ) → length bytes < m → length bytes < n
    → is_open_within m hub bytes ≡ is_open_within n hub bytes
open_enough zero n hub bytes p q = absurd (omega arith)
open_enough (suc m) zero hub bytes p q = absurd (omega arith)
open_enough (suc m) (suc n) hub bytes p q =
    let same : (t : Turn) → turn hub bytes ≡ Some t → is_open_within m t.hub t.rest ≡ is_open_within n t.hub t.rest =
    λ t h. let short = turn_rest hub bytes t h in open_enough m n t.hub t.rest (omega arith) (omega arith) in
    open_unfolds m hub bytes
    ∙ step_same (turn hub bytes) (waits hub bytes) (is_open_within m) (is_open_within n) same ∙ sym (open_unfolds n hub bytes)

open_turned : (hub : Hub) (bytes : List ℕ) → is_open hub bytes ≡ step (turn hub bytes) (waits hub bytes) is_open
unfolding is_open
open_turned hub bytes = grind (arith, open_enough, open_unfolds, step_same, turn_rest)

-- where no whole record stands in front, a script goes on if what stands there waits
pub open_none : (hub : Hub) (bytes : List ℕ) → turn hub bytes ≡ None → is_open hub bytes ≡ waits hub bytes
open_none hub bytes h = open_turned hub bytes ∙ rw h refl

-- behind a whole record it goes on as from there
pub open_step : (hub : Hub) (bytes : List ℕ) (t : Turn) → turn hub bytes ≡ Some t → t.ended ≡ false
    → is_open hub bytes ≡ is_open t.hub t.rest
open_step hub bytes t h e = open_turned hub bytes ∙ rw (h, e) refl

-- fewer bytes than a line may have, with no line among them, wait
pub short_waits : (hub : Hub) (bytes : List ℕ) → line_within longest_line bytes ≡ None → length bytes < longest_line
    → waits hub bytes ≡ true
unfolding waits
short_waits hub bytes none few = let e : nat_lt (length bytes) longest_line ≡ true = grind (arith, nat_tests, few) in rw none e

-- what waits behind the line in front waits by what that line says
pub waits_by_line : (hub : Hub) (bytes more line rest : List ℕ) (head : Head)
    → line_within longest_line bytes ≡ Some (line, rest) → head_of line ≡ Some head
    → waits hub (bytes ++ more) ≡ payload_waits hub head (rest ++ more)
unfolding waits
waits_by_line hub bytes more line rest head there is = grind (arith, line_more)

-- a message for a feed that is declared waits until its payload and the byte behind it are there
pub payload_short : (hub : Hub) (name rest : List ℕ) (feed n : ℕ)
    → feed_number hub.plans name ≡ Some feed → length rest ≤ n
    → payload_waits hub (Message name n) rest ≡ true
payload_short hub name rest feed n found few = grind (arith, nat_tests)

-- a connection waits until its input and the byte behind it are there
pub input_short : (hub : Hub) (moment n : ℕ) (rest : List ℕ) → length rest ≤ n → payload_waits hub (Connection moment n) rest ≡ true
input_short hub moment n rest few = grind (arith, nat_tests, few)
