-- Texts of others in lines of our own.
use Rattle.std.specs.Prelude.{ℕ, ◌||◌, ◌==◌, nat_lt, if◌then◌else◌, List, [], ◌∷◌, map}

-- a space in place of a control character, which would break its line
abbrev pub clean_byte : ℕ → ℕ
clean_byte b = if nat_lt b 32 || (b == 127) then 32 else b

-- a text without control characters
abbrev pub cleaned_text : List ℕ → List ℕ
cleaned_text text = map clean_byte text

-- what ends a line
abbrev pub line_feed : List ℕ
line_feed = 10 ∷ []
