-- Counts that rose.
use Rattle.std.proofs.Common.{◌≡◌, ℕ, ◌≤◌, ◌<◌, inl, inr, arith}
use Rattle.std.specs.Prelude.{◌⊎◌}
use Rattle.std.proofs.lemmas.Bool.{cases_lt}
use Rattle.hub_outside.specs.Count.{Rose, last_count}

-- a count that rose is above the one before, or both are the last value
pub rose_or_last : (before after : ℕ) → Rose before after
    → (before < after) ⊎ (before ≡ last_count) × (after ≡ last_count)
rose_or_last before after rose = split (cases_lt before after)
  where
    split : (before < after) ⊎ (after ≤ before) → (before < after) ⊎ (before ≡ last_count) × (after ≡ last_count)
    split (inl above) = inl above
    split (inr not_above) =
        let same : before ≡ after = let least = rose.0 in omega arith in
        let last : before ≡ last_count = rose.1 same in
        inr (last, omega arith)

-- what rose later rose since before that
pub rose_later : (first before after : ℕ) → first ≤ before → Rose before after → Rose first after
rose_later first before after earlier rose =
    let least = rose.0 in (omega arith, λ same. let between : before ≡ after = omega arith in let last = rose.1 between in omega arith)

-- what rose has risen, whatever comes behind it
pub rose_before : (before after last : ℕ) → Rose before after → after ≤ last → Rose before last
rose_before before after last rose later =
    let least = rose.0 in (omega arith, λ same. let between : before ≡ after = omega arith in rose.1 between)
