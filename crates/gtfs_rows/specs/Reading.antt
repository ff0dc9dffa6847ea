-- What a reader of `csv` over known bytes has left.
use Rattle.std.specs.Prelude.{ℕ, ◌≡◌, ◌+◌, Bool, true, false, List, [], ◌∷◌, length, Option, Some, None}
use Rattle.std.specs.Borrow.{Bor}
use Rattle.csv.specs.Machine.{ends_at_end}
use Rattle.csv.specs.Reading.{Ready, default_config, is_flexible, reader_config, reader_state, reader_trim, records_from, source_of}
use Rattle.csv.specs.declared.parser.State.{State}
use Rattle.csv.specs.declared.reader.Reader.{Reader}
use Rattle.csv.specs.declared.reader.Trim.TheVariants as trim

-- the bytes that a reader of a slice has left, if it hasn't failed
abbrev pub bytes_left : Reader (Bor (List ℕ)) → Option (List ℕ)
bytes_left reader = source_of (λ s. Some s.now) reader

-- the records of the bytes that are left, from a state between two records
abbrev pub records_of : State → Option (List ℕ) → List (List (List ℕ))
records_of s None = []
records_of s (Some bytes) = records_from default_config (length bytes + 1) s bytes

-- the records that a reader has left
abbrev pub records_left : Reader (Bor (List ℕ)) → List (List (List ℕ))
records_left reader = records_of (reader_state reader) (bytes_left reader)

-- a reader with `csv`'s defaults, but for the header row, that stands between two records of known
-- bytes
pub record IsReading (reader : Reader (Bor (List ℕ))) : Type 0 where
  pub trim : reader_trim reader ≡ trim.None
  pub ready : Ready reader
  pub config : reader_config reader ≡ default_config
  -- records may have any length
  pub flexible : is_flexible reader ≡ true
  pub between : ends_at_end (reader_state reader) ≡ false
  pub known : (bytes : List ℕ) × (bytes_left reader ≡ Some bytes)

-- a read that found a record, or that found none left
abbrev pub Advances : Reader (Bor (List ℕ)) → Bool → List (List ℕ) → Reader (Bor (List ℕ)) → Type 0
Advances before true fields after = IsReading after
    × (records_left before ≡ fields ∷ records_left after)
Advances before false fields after = records_left before ≡ []

-- the header of records, which is empty where there are none, and a reader of those behind it
abbrev pub HeaderIs : List (List (List ℕ)) → Bool → List (List ℕ) → Reader (Bor (List ℕ)) → Type 0
HeaderIs recs true header after = IsReading after × (recs ≡ header ∷ records_left after)
HeaderIs recs false header after = (recs ≡ []) × (header ≡ [])
