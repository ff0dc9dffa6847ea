-- The calls of a form in memory: how many there were, and which of them fail.
use Rattle.std.specs.Prelude.{ℕ, ◌==◌, min, max, Bool, List, slice_get, if◌then◌else◌}
use Rattle.std.specs.List.{list_any}
use Rattle.std.specs.Option.{option_map_or}
use Rattle.hub_outside.specs.Count.{one_more}

-- the numbers, from 1 on, of the calls that fail, how many calls there were, and how many faults
pub record CallCounts : Type 0 where
  pub failing : List ℕ
  pub calls : ℕ
  pub faults : ℕ

-- no call yet, and these fail
abbrev pub no_calls : List ℕ → CallCounts
no_calls failing = record { failing = failing; calls = 0; faults = 0 }

-- whether the next call fails: whether its number is listed
abbrev pub is_failing : CallCounts → Bool
is_failing c = list_any (λ n. n == one_more c.calls) c.failing

-- the calls after one more that went well
abbrev pub with_call : CallCounts → CallCounts
with_call c = record { failing = c.failing; calls = one_more c.calls; faults = c.faults }

-- the calls after one more that was a fault
abbrev pub with_fault : CallCounts → CallCounts
with_fault c = record { failing = c.failing; calls = one_more c.calls; faults = one_more c.faults }

-- the calls after one more, which was a fault where it is listed
abbrev pub after_call : CallCounts → CallCounts
after_call c = if is_failing c then with_fault c else with_call c

-- how many of `most` bytes the next call moves: its piece size caps them, where 0 counts as 1, and
-- past the list of sizes nothing does
abbrev pub cut_at : List ℕ → ℕ → ℕ → ℕ
cut_at pieces calls most =
    option_map_or (λ size. min (max size 1) most) (slice_get pieces calls) most
