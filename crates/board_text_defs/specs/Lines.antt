-- Lines of fields, as every list of a hub is printed. Their form is this project's.
use Rattle.std.specs.Prelude.{ℕ, List, [], ◌∷◌, ◌++◌, Option, Some, None, ℤ, codes}
use Rattle.std.specs.Fmt.{decimal, signed_decimal}
use Rattle.text_defs.specs.Cleaned.{cleaned_text, line_feed}

-- what parts two fields
abbrev pub tab : List ℕ
tab = 9 ∷ []

-- the fields, each without control characters, with a tab between any two
unfoldable pub between_tabs : List (List ℕ) → List ℕ
between_tabs [] = []
between_tabs (field ∷ []) = cleaned_text field
between_tabs (field ∷ next ∷ more) = cleaned_text field ++ tab ++ between_tabs (next ∷ more)

-- a line of fields
abbrev pub line_of_fields : List (List ℕ) → List ℕ
line_of_fields fields = between_tabs fields ++ line_feed

-- a number that may be absent, as a field
abbrev pub number_or_dash : Option ℤ → List ℕ
number_or_dash None = codes "-"
number_or_dash (Some n) = signed_decimal n
