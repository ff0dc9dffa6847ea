-- What the replay of a script prints, and its status.
use Rattle.std.specs.Prelude.{ℕ, zero, suc, ◌+◌, ◌-◌, List, [], ◌++◌, length, take, Some, None, Bool, true, false, codes, if◌then◌else◌}
use Rattle.std.specs.Fmt.{decimal}
use Rattle.hub_replay_defs.specs.Record.{Hub, turn, waits}
use Rattle.text_defs.specs.Cleaned.{line_feed}

-- the most bytes of a script
abbrev pub longest_script : ℕ
longest_script = 1099511627776

-- the whole records of a script: what they print, the bytes that they take, and whether the last
-- one ends it
pub record Run : Type 0 where
  pub out : List ℕ
  pub taken : ℕ
  pub ended : Bool

-- a run behind a record that printed and took something
abbrev pub behind : List ℕ → ℕ → Run → Run
behind said taken run = record {
  out = said ++ run.out;
  taken = taken + run.taken;
  ended = run.ended;
}

-- at most so many records, from the front of the bytes
unfoldable pub run_within : ℕ → Hub → List ℕ → Run
run_within zero hub bytes = record { out = []; taken = 0; ended = false }
run_within (suc most) hub bytes = elim (turn hub bytes) [
  | None ↦ record { out = []; taken = 0; ended = false }
  | Some t ↦ if t.ended then record {
    out = t.said;
    taken = length bytes - length t.rest;
    ended = true;
  }
      else behind t.said (length bytes - length t.rest) (run_within most t.hub t.rest)
]

-- all whole records up to E, or up to the first that isn't one; each takes a byte at least
unfoldable pub run : Hub → List ℕ → Run
run hub bytes = run_within (length bytes + 1) hub bytes

-- the record behind the whole ones waits for more bytes, among at most so many records
unfoldable pub is_open_within : ℕ → Hub → List ℕ → Bool
is_open_within zero hub bytes = false
is_open_within (suc most) hub bytes = elim (turn hub bytes) [
  | None ↦ waits hub bytes
  | Some t ↦ if t.ended then false else is_open_within most t.hub t.rest
]

-- The script goes on behind the bytes: none of its whole records ended it, and what stands behind
-- them isn't refused, but waits for more bytes.
unfoldable pub is_open : Hub → List ℕ → Bool
is_open hub bytes = is_open_within (length bytes + 1) hub bytes

-- what is written, and the status
pub record Output : Type 0 where
  pub written : List ℕ
  pub status : ℕ

-- a script is refused at the first byte of the record that isn't one
abbrev pub refused_line : ℕ → List ℕ
refused_line place = codes "hub: script refused at " ++ decimal place ++ line_feed

abbrev pub fault_line : List ℕ
fault_line = codes "hub: input fault" ++ line_feed

abbrev pub output_of : Run → Output
output_of run = if run.ended then record { written = run.out; status = 0 }
    else record { written = run.out ++ refused_line run.taken; status = 7 }

-- what the replay of a script on a hub prints, and its status
unfoldable pub replayed : Hub → List ℕ → Output
replayed hub script = output_of (run hub (take longest_script script))
