-- The rows of the records, one at a time.
use Rattle.std.proofs.Common.{Bor, if◌then◌else◌, ◌≡◌, ℕ, ◌+◌, Bool, true, false, List, [], ◌∷◌, ◌++◌, map, get_or, None, Some, refl, sym, ap, ◌∙◌}
use mathlib.Core.Path.{fun_ext}
use Rattle.std.specs.Prelude.{Result, Ok, Err, nat_le}
use Rattle.std.proofs.lemmas.List.{append-nil, append_assoc}
use Rattle.answer_defs.specs.Defined.{AsDefined, IsCause}
use Rattle.answer_defs.specs.Steps.{◌>>=◌}
use Rattle.gtfs_rows.specs.Names.{all_columns, slot_of}
use Rattle.gtfs_rows.specs.Tables.{Columns}
use Rattle.gtfs_rows.specs.Files.{cause_of, cell_of, field_in, first_missing, place_of, rows_from, rows_of, rows_of_records, rows_under, trimmed_text, unless_missing}
use Rattle.gtfs_rows.specs.Layout.{cell_at, places_in}
use Rattle.gtfs_rows.specs.Reading.{HeaderIs, records_left}
use Rattle.csv.specs.Reading.{default_config, records, strip_bom}
use Rattle.csv.specs.declared.reader.Reader.{Reader}
use Rattle.gtfs_rows.specs.declared.column.Column.{Column}
use Rattle.gtfs_rows.specs.declared.column.Column.TheVariants as column
use Rattle.gtfs_rows.specs.declared.fault.RowFault.{RowFault}
use Rattle.gtfs_rows.specs.declared.fault.RowFault.TheVariants as fault

-- rows behind others; a fault stays
abbrev pub behind : {R : Type 0} → List R → Result (List R) RowFault → Result (List R) RowFault
behind done told = ◌>>=◌ told (λ more. Ok (done ++ more))

-- where no record is left
pub rows-none : {R : Type 0} (columns : Columns R) (cells : List (List ℕ) → Column → List ℕ) (row : ℕ) (done : List R)
    → behind done (rows_from columns cells row []) ≡ Ok done
unfolding rows_from
rows-none columns cells row done = ap (λ rows. Ok rows) (append-nil done)

-- a record whose row is read
behind-next : {R : Type 0} (done : List R) (x : R) (told : Result (List R) RowFault)
    → behind done (◌>>=◌ told (λ xs. Ok (x ∷ xs))) ≡ behind (done ++ x ∷ []) told
behind-next done x (Ok rows) = ap (λ all. Ok all) (sym (append_assoc done (x ∷ []) rows))
behind-next done x (Err e) = refl

pub rows-next : {R : Type 0} (columns : Columns R) (cells : List (List ℕ) → Column → List ℕ) (row : ℕ) (done : List R) (fields : List (List ℕ)) (rest : List (List (List ℕ))) (x : R)
    → nat_le row 4000001 ≡ true → columns.read row (cells fields) ≡ Ok x
    → behind done (rows_from columns cells row (fields ∷ rest)) ≡ behind (done ++ x ∷ []) (rows_from columns cells (row + 1) rest)
unfolding rows_from
rows-next columns cells row done fields rest x small e = rw (small, e) (behind-next done x _)

-- a record with a fault
pub rows-fault : {R : Type 0} (columns : Columns R) (cells : List (List ℕ) → Column → List ℕ) (row : ℕ) (done : List R) (fields : List (List ℕ)) (rest : List (List (List ℕ))) (f : RowFault)
    → nat_le row 4000001 ≡ true → columns.read row (cells fields) ≡ Err f
    → behind done (rows_from columns cells row (fields ∷ rest)) ≡ Err f
unfolding rows_from
rows-fault columns cells row done fields rest f small e = rw (small, e) refl

-- a record too many
pub rows-many : {R : Type 0} (columns : Columns R) (cells : List (List ℕ) → Column → List ℕ) (row : ℕ) (done : List R) (fields : List (List ℕ)) (rest : List (List (List ℕ)))
    → nat_le row 4000001 ≡ false
    → behind done (rows_from columns cells row (fields ∷ rest)) ≡ Err fault.TooMany
unfolding rows_from
rows-many columns cells row done fields rest large = rw large refl

-- the place of a column is found by its number
slot-place : {B : Type 0} (f : Column → B) (c : Column) (d : B) → get_or (map f all_columns) (slot_of c) d ≡ f c
slot-place f column.AgencyId d = refl
slot-place f column.StopId d = refl
slot-place f column.StopName d = refl
slot-place f column.LocationType d = refl
slot-place f column.ParentStation d = refl
slot-place f column.RouteId d = refl
slot-place f column.RouteShortName d = refl
slot-place f column.RouteLongName d = refl
slot-place f column.RouteType d = refl
slot-place f column.TripId d = refl
slot-place f column.ServiceId d = refl
slot-place f column.TripHeadsign d = refl
slot-place f column.DirectionId d = refl
slot-place f column.StopSequence d = refl
slot-place f column.ArrivalTime d = refl
slot-place f column.DepartureTime d = refl
slot-place f column.PickupType d = refl
slot-place f column.Monday d = refl
slot-place f column.Tuesday d = refl
slot-place f column.Wednesday d = refl
slot-place f column.Thursday d = refl
slot-place f column.Friday d = refl
slot-place f column.Saturday d = refl
slot-place f column.Sunday d = refl
slot-place f column.StartDate d = refl
slot-place f column.EndDate d = refl
slot-place f column.Date d = refl
slot-place f column.ExceptionType d = refl
slot-place f column.StartTime d = refl
slot-place f column.EndTime d = refl
slot-place f column.HeadwaySecs d = refl
slot-place f column.ExactTimes d = refl

-- the cells by the places that were found are those by the header
pub cells-same : (header : List (List ℕ)) → cell_at (places_in header) ≡ cell_of header
unfolding cell_at
cells-same header = fun_ext (λ fields. fun_ext (λ c. ap (λ place. trimmed_text (field_in fields place)) (slot-place (place_of header) c None)))

-- so the rows are the same
pub rows-same : {R : Type 0} (columns : Columns R) (header : List (List ℕ)) (row : ℕ) (recs : List (List (List ℕ)))
    → rows_from columns (cell_at (places_in header)) row recs ≡ rows_from columns (cell_of header) row recs
rows-same columns header row recs = ap (λ cells. rows_from columns cells row recs) (cells-same header)

-- the rows of a file by its header and the records behind it
header_rows : {R : Type 0} (columns : Columns R) (bytes : List ℕ) (found : Bool) (header : List (List ℕ)) (after : Reader (Bor (List ℕ)))
    → HeaderIs (records default_config (strip_bom bytes)) found header after
    → rows_of columns bytes ≡ unless_missing (first_missing header columns.headings) (rows_from columns (cell_of header) 2 (if found then records_left after else []))
unfolding rows_of
header_rows columns bytes true header after h = ap (rows_of_records columns) h.1
header_rows columns bytes false header after h = ap (rows_of_records columns) h.0 ∙ ap (λ names. rows_under columns names []) (sym h.1)

-- where a column is missing
pub rows_missing : {R : Type 0} (columns : Columns R) (bytes : List ℕ) (found : Bool) (header : List (List ℕ)) (after : Reader (Bor (List ℕ))) (column : Column)
    → HeaderIs (records default_config (strip_bom bytes)) found header after → first_missing header columns.headings ≡ Some column
    → rows_of columns bytes ≡ Err (fault.MissingColumn column)
rows_missing columns bytes found header after column h e =
    header_rows columns bytes found header after h ∙ ap (λ o. unless_missing o (rows_from columns (cell_of header) 2 (if found then records_left after else []))) e

-- where none is missing, and there is no record
pub rows_absent : {R : Type 0} (columns : Columns R) (bytes : List ℕ) (found : Bool) (header : List (List ℕ)) (after : Reader (Bor (List ℕ)))
    → HeaderIs (records default_config (strip_bom bytes)) found header after → found ≡ false → first_missing header columns.headings ≡ None
    → rows_of columns bytes ≡ Ok []
unfolding rows_from
rows_absent columns bytes found header after h none e = header_rows columns bytes found header after h ∙ rw (e, none) refl

-- where none is missing, and there are records
pub rows_present : {R : Type 0} (columns : Columns R) (bytes : List ℕ) (found : Bool) (header : List (List ℕ)) (after : Reader (Bor (List ℕ)))
    → HeaderIs (records default_config (strip_bom bytes)) found header after → found ≡ true → first_missing header columns.headings ≡ None
    → rows_of columns bytes ≡ rows_from columns (cell_at (places_in header)) 2 (records_left after)
rows_present columns bytes found header after h some e = header_rows columns bytes found header after h ∙ rw (e, some) (sym (rows-same columns header 2 (records_left after)))

-- an answer to what is the same
pub answers-same : {A B : Type 0} (view : B → A) (one same : Result A RowFault) (given : Result B RowFault) → one ≡ same → AsDefined view cause_of same given → AsDefined view cause_of one given
answers-same view one same given e h = rw e h

-- a fault of one is a fault of another
pub answers-fault : {A B : Type 0} (one : Result A RowFault) (other : Result B RowFault) (e : RowFault) → ((f : RowFault) → one ≡ Err f → other ≡ Err f)
    → IsCause one (cause_of e) → IsCause other (cause_of e)
answers-fault one other (fault.MissingColumn column) same h = same (fault.MissingColumn column) h
answers-fault one other (fault.BadValue row column) same h = same (fault.BadValue row column) h
answers-fault one other (fault.NotText row column) same h = same (fault.NotText row column) h
answers-fault one other fault.TooMany same h = same fault.TooMany h
answers-fault one other fault.NoMemory same h = tt

-- the rows of records, of which there is none, of which the first is a row, has a fault, or is one too many
module _ {R : Type 0} (columns : Columns R) (cells : List (List ℕ) → Column → List ℕ) (row : ℕ) where
  pub come-none : (recs : List (List (List ℕ))) → recs ≡ [] → rows_from columns cells row recs ≡ Ok []
  unfolding rows_from
  come-none recs e = rw e refl

  module _ (recs rest : List (List (List ℕ))) (fields : List (List ℕ)) (first : recs ≡ fields ∷ rest) where
    pub come-next : (x : R) → nat_le row 4000001 ≡ true → columns.read row (cells fields) ≡ Ok x
        → rows_from columns cells row recs ≡ (rows_from columns cells (row + 1) rest >>= λ rows. Ok (x ∷ rows))
    unfolding rows_from
    come-next x small e = rw (first, small, e) refl

    pub come-fault : (f : RowFault) → nat_le row 4000001 ≡ true → columns.read row (cells fields) ≡ Err f → rows_from columns cells row recs ≡ Err f
    unfolding rows_from
    come-fault f small e = rw (first, small, e) refl

    pub come-many : nat_le row 4000001 ≡ false → rows_from columns cells row recs ≡ Err fault.TooMany
    unfolding rows_from
    come-many large = rw (first, large) refl
