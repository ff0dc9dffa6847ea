-- The texts of a TripDescriptor.
use Rattle.std.specs.Prelude.{ℕ, Option, Some, None, List, [], ◌∷◌}

-- a text that is present but empty counts as absent; this is a rule of this project
abbrev pub text_given : Option (List ℕ) → Option (List ℕ)
text_given None = None
text_given (Some []) = None
text_given (Some (b ∷ bytes)) = Some (b ∷ bytes)
