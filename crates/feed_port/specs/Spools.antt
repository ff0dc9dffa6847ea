-- A folder of messages: the files 000001.pb, 000002.pb and so on, up to the first that is absent.
use Rattle.std.specs.Prelude.{ℕ, zero, suc, ◌+◌, ◌/◌, ◌%◌, List, [], ◌∷◌, ◌++◌, map, codes, Option, Some, None}
use Rattle.hub_outside.specs.Files.{file_at}

-- the number behind that of the last file that may be there
abbrev pub past_last : ℕ
past_last = 1000000

-- the digit of a number that is worth so much
abbrev pub digit_at : ℕ → ℕ → ℕ
digit_at number worth = 48 + number / worth % 10

-- what the six digits are worth
abbrev pub worths : List ℕ
worths = 100000 ∷ 10000 ∷ 1000 ∷ 100 ∷ 10 ∷ 1 ∷ []

-- the path of the file with that number
abbrev pub path_in : List ℕ → ℕ → List ℕ
path_in folder number =
    ((folder ++ codes "/") ++ map (digit_at number) worths) ++ codes ".pb"

-- a file, if it is there, and those behind it
abbrev pub by_file : Option (List ℕ) → List (List ℕ) → List (List ℕ)
by_file None others = []
by_file (Some bytes) others = bytes ∷ others

-- the files from a number on, at most so many, up to the first that is absent
unfoldable pub files_from : List (List ℕ × List ℕ) → List ℕ → ℕ → ℕ → List (List ℕ)
files_from files folder number zero = []
files_from files folder number (suc most) =
    by_file (file_at files (path_in folder number)) (files_from files folder (number + 1) most)

-- a folder, and the path that was written last
pub record PathState : Type 0 where
  pub folder : List ℕ
  pub written : List ℕ
