-- The forms of fields, after the field types of the GTFS Schedule Reference, and their values.
use Rattle.std.specs.Prelude.{ℕ, List, [], ◌∷◌, Option, Some, None, option_map, option_and_then}
use Rattle.text_defs.specs.Dates.{date_in}
use Rattle.text_defs.specs.Numbers as numbers
use Rattle.text_defs.specs.Numbers.{within}

-- an id: a text that isn't empty
abbrev pub id_text : List ℕ → Option (List ℕ)
id_text [] = None
id_text (b ∷ bytes) = Some (b ∷ bytes)

-- any text, which may be empty
abbrev pub any_text : List ℕ → Option (List ℕ)
any_text bytes = Some bytes

-- a number in a range, written in ten digits at most
unfoldable pub number : ℕ → ℕ → List ℕ → Option ℕ
number low high bytes = numbers.number 10 low high bytes

-- an empty field, or one of another form
abbrev pub or_empty : {A : Type 0} → (List ℕ → Option A) → List ℕ → Option (Option A)
or_empty form [] = Some None
or_empty form (b ∷ bytes) = option_map (λ x. Some x) (form (b ∷ bytes))

-- a day of the years 1900 to 2999
unfoldable pub date : List ℕ → Option ℕ
date bytes = option_and_then (within 19000101 29991231) (date_in bytes)
