-- Runs, one record at a time.
use Rattle.std.proofs.Common.{◌≡◌, ℕ, zero, suc, ◌+◌, ◌-◌, ◌<◌, List, [], ◌++◌, length, Option, Some, None, true, false, refl, sym, ◌∙◌, arith, append_assoc, add_assoc}
use Rattle.std.specs.Prelude.{if◌then◌else◌}
use Rattle.hub_replay_defs.specs.Record.{Hub, Turn, turn}
use Rattle.hub_replay_defs.specs.Output.{Run, behind, run_within, run}
use Rattle.hub_replay_defs.proofs.Turns.{turn_rest}

abbrev nothing : Run
nothing = record { out = []; taken = 0; ended = false }

-- the run of a whole record in front, if there is one, and of what stands behind it
abbrev step : Option Turn → ℕ → (Hub → List ℕ → Run) → Run
step None long later = nothing
step (Some t) long later = if t.ended then record { out = t.said; taken = long - length t.rest; ended = true } else behind t.said (long - length t.rest) (later t.hub t.rest)

run_unfolds_at : (most : ℕ) (hub : Hub) (bytes : List ℕ) (o : Option Turn) → turn hub bytes ≡ o → run_within (suc most) hub bytes ≡ step o (length bytes) (run_within most)
unfolding run_within
run_unfolds_at most hub bytes o h = grind arith

run_unfolds : (most : ℕ) (hub : Hub) (bytes : List ℕ) → run_within (suc most) hub bytes ≡ step (turn hub bytes) (length bytes) (run_within most)
run_unfolds most hub bytes = run_unfolds_at most hub bytes (turn hub bytes) refl

step_same : (o : Option Turn) (long : ℕ) (f g : Hub → List ℕ → Run) → ((t : Turn) → o ≡ Some t → f t.hub t.rest ≡ g t.hub t.rest) → step o long f ≡ step o long g
step_same o long f g same = grind arith

-- a run has an end: as many records as there are bytes are enough
run_enough : (m n : ℕ) (hub : Hub) (bytes : List ℕ) → length bytes < m → length bytes < n → run_within m hub bytes ≡ run_within n hub bytes
run_enough zero n hub bytes p q = absurd (omega arith)
run_enough (suc m) zero hub bytes p q = absurd (omega arith)
run_enough (suc m) (suc n) hub bytes p q =
    let same : (t : Turn) → turn hub bytes ≡ Some t → run_within m t.hub t.rest ≡ run_within n t.hub t.rest =
    λ t h. let short = turn_rest hub bytes t h in run_enough m n t.hub t.rest (omega arith) (omega arith) in
    run_unfolds m hub bytes ∙ step_same (turn hub bytes) (length bytes) (run_within m) (run_within n) same ∙ sym (run_unfolds n hub bytes)

-- a run is its first record and then the run of what stands behind it
pub run_turned : (hub : Hub) (bytes : List ℕ) → run hub bytes ≡ step (turn hub bytes) (length bytes) run
unfolding run
run_turned hub bytes = grind (arith, run_enough, run_unfolds, step_same, turn_rest)

pub run_none : (hub : Hub) (bytes : List ℕ) → turn hub bytes ≡ None → run hub bytes ≡ record { out = []; taken = 0; ended = false }
run_none hub bytes h = run_turned hub bytes ∙ rw h refl

pub run_step : (hub : Hub) (bytes : List ℕ) (t : Turn) → turn hub bytes ≡ Some t → t.ended ≡ false → run hub bytes ≡ behind t.said (length bytes - length t.rest) (run t.hub t.rest)
run_step hub bytes t h e = run_turned hub bytes ∙ rw (h, e) refl

pub run_end : (hub : Hub) (bytes : List ℕ) (t : Turn) → turn hub bytes ≡ Some t → t.ended ≡ true → run hub bytes ≡ record { out = t.said; taken = length bytes - length t.rest; ended = true }
run_end hub bytes t h e = run_turned hub bytes ∙ rw (h, e) refl

-- what stands behind two records stands behind both
pub behind_behind : (first second : List ℕ) (m n : ℕ) (r : Run) → behind first m (behind second n r) ≡ behind (first ++ second) (m + n) r
behind_behind first second m n r = rw (append_assoc first second r.out, add_assoc m n r.taken) refl
