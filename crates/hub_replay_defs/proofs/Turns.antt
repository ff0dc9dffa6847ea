-- Whole records in front of some bytes.
use Rattle.std.proofs.Common.{◌≡◌, ℕ, ◌≤◌, ◌<◌, List, ◌++◌, length, Some, None, Bool, ◌∙◌, arith}
use Rattle.hub_replay_defs.specs.Lines.{Head, head_of, line_within, longest_line}
use Rattle.hub_replay_defs.specs.Optional.{◌>>=◌}
use Rattle.hub_replay_defs.specs.Record.{Hub, Turn, turn, act}
use Rattle.answer_defs.specs.Choices.{only_if}
use Rattle.hub_replay_defs.proofs.Options.{bind_some, bind_at, bind_none}
use Rattle.hub_replay_defs.proofs.Lines.{line_more, line_rest, no_line_more}
use Rattle.hub_replay_defs.proofs.Payloads.{payload_more, payload_rest}

-- the record, with more bytes behind it
abbrev pub followed : Turn → List ℕ → Turn
followed t more = record t { rest = t.rest ++ more }

only_more : (test : Bool) (short long t : Turn) (more : List ℕ) → long ≡ followed short more → only_if test short ≡ Some t → only_if test long ≡ Some (followed t more)
only_more test short long t more e h = grind arith

act_more : (hub : Hub) (head : Head) (rest more : List ℕ) (t : Turn) → act hub head rest ≡ Some t → act hub head (rest ++ more) ≡ Some (followed t more)
act_more hub head rest more t h = grind (arith, bind_some, only_more, payload_more)

-- what follows from the line in front: its record acts on what stands behind it
pub turn_line : (hub : Hub) (bytes more line rest : List ℕ) → line_within longest_line bytes ≡ Some (line, rest)
    → turn hub (bytes ++ more) ≡ (head_of line >>= λ head. act hub head (rest ++ more))
unfolding turn
turn_line hub bytes more line rest h = bind_at (line_within longest_line (bytes ++ more)) _ (line, rest ++ more) (line_more longest_line bytes more line rest h)

-- a whole record stays the same record when bytes follow
pub turn_more : (hub : Hub) (bytes more : List ℕ) (t : Turn) → turn hub bytes ≡ Some t → turn hub (bytes ++ more) ≡ Some (followed t more)
unfolding turn
turn_more hub bytes more t h =
    let (line, there, h2) = bind_some (line_within longest_line bytes) _ t h in
    let (head, said, h3) = bind_some (head_of line.0) _ t h2 in
    turn_line hub bytes more line.0 line.1 there ∙ rw said (act_more hub head line.1 more t h3)

only_rest : (test : Bool) (short t : Turn) (rest : List ℕ) → short.rest ≡ rest → only_if test short ≡ Some t → length t.rest ≤ length rest
only_rest test short t rest e h = grind arith

act_rest : (hub : Hub) (head : Head) (rest : List ℕ) (t : Turn) → act hub head rest ≡ Some t → length t.rest ≤ length rest
act_rest hub head rest t h = grind (arith, bind_some, only_rest, payload_rest)

-- a record takes a byte at least
pub turn_rest : (hub : Hub) (bytes : List ℕ) (t : Turn) → turn hub bytes ≡ Some t → length t.rest < length bytes
unfolding turn
turn_rest hub bytes t h = grind (arith, act_rest, bind_some, line_rest)

-- no record begins with bytes that have no line in front, as many as a line may have
pub no_line_turn : (hub : Hub) (bytes : List ℕ) → longest_line ≤ length bytes → line_within longest_line bytes ≡ None → (more : List ℕ) → turn hub (bytes ++ more) ≡ None
unfolding turn
no_line_turn hub bytes long h more = bind_none (line_within longest_line (bytes ++ more)) _ (no_line_more longest_line bytes more long h)

-- no whole record stands where no line does
pub no_line_here : (hub : Hub) (bytes : List ℕ) → line_within longest_line bytes ≡ None → turn hub bytes ≡ None
unfolding turn
no_line_here hub bytes h = bind_none (line_within longest_line bytes) _ h
