-- How far a text was written.
use Rattle.std.specs.Prelude.{◌≡◌, ℕ, ◌≤◌, ◌<◌, List, ◌++◌, length, take, Option}
use Rattle.std.specs.Io.KnownBytes.{Appends}
use Rattle.hub_outside.specs.Count.{Rose}
use Rattle.serve_lines.specs.declared.pieces.Writing.{Writing}
use Rattle.serve_lines.specs.declared.pieces.Writing.TheVariants.{Whole, Cut}

-- from a start on the text was written, or a proper front of it where the output failed
abbrev pub Wrote : Writing → Option (List ℕ) → Option (List ℕ) → List ℕ → Type 0
Wrote Whole start now text = Appends start now text
Wrote Cut start now text = (n : ℕ) × (n < length text) × Appends start now (take n text)

-- whatever was written so far has the piece behind it
abbrev pub Puts : Writing → Writing → Option (List ℕ) → Option (List ℕ) → List ℕ → Type 0
Puts old new before after piece = (start : Option (List ℕ)) (text : List ℕ)
    → Wrote old start before text → Wrote new start after (text ++ piece)

-- the output's count of faults did not fall, and rose where it failed; what was cut stays cut
abbrev pub HasCause : Writing → Writing → ℕ → ℕ → Type 0
HasCause Whole Whole before after = before ≤ after
HasCause Whole Cut before after = Rose before after
HasCause Cut Whole before after = ⊥
HasCause Cut Cut before after = before ≤ after
