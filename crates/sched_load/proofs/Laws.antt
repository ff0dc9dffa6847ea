-- What is true of the rows of any file that was read.
use Rattle.std.proofs.Common.{◌≡◌, ℕ, zero, suc, ◌+◌, ◌≤◌, Bool, List, [], ◌∷◌, length, map, refl, sym, ap, ◌∙◌, subst, arith, nat_le}
use Rattle.std.specs.Prelude.{Option, Some, Result, Ok, Err, slice_get, if◌then◌else◌}
use Rattle.std.specs.List.{enumerate_from}
use Rattle.std.proofs.lemmas.Bool.Decides.{nat_tests}
use Rattle.std.proofs.lemmas.Option.{none-some as none_some, same_Some}
use Rattle.answer_defs.specs.Steps.{all_ok, ◌>>=◌}
use Rattle.csv.specs.Reading.{records, default_config, strip_bom}
use Rattle.gtfs_rows.specs.Files.{rows_of, rows_of_records, rows_from, row_of, unless_missing, first_missing, cell_of}
use Rattle.gtfs_rows.specs.Tables.{Columns}
use Rattle.gtfs_rows.specs.declared.column.Column.{Column}
use Rattle.gtfs_rows.specs.declared.fault.RowFault.{RowFault}
use Rattle.gtfs_rows.specs.declared.fault.RowFault.TheVariants as fault
use Rattle.sched_load_defs.specs.declared.fault.File.{File}
use Rattle.sched_load_defs.specs.Files.{of_file, most_rows}
use Rattle.sched_load.specs.Listed.{file_rows}

-- what a chain gave, its parts gave
pub and_then_ok : {A B C : Type 0} (r : Result A RowFault) (f : A → Result B RowFault) (y : B) → ◌>>=◌ r f ≡ Ok y → ((x : A) → r ≡ Ok x → f x ≡ Ok y → C) → C
and_then_ok r f y e k = grind arith

-- each row that columns give is so
abbrev pub AreWithin : {R : Type 0} → Columns R → (R → Type 0) → Type 0
AreWithin {R} columns P = (row : ℕ) (cells : Column → List ℕ) (x : R) → columns.read row cells ≡ Ok x → P x

module _ {R : Type 0} (columns : Columns R) (P : R → Type 0) (within : AreWithin columns P) (cells : List (List ℕ) → Column → List ℕ) where
  row_small : (row : ℕ) (fields : List (List ℕ)) (x : R) (b : Bool) → nat_le row 4000001 ≡ b → (if b then columns.read row (cells fields) else Err fault.TooMany) ≡ Ok x → (row ≤ 4000001) × P x
  row_small row fields x b e h = grind (arith, nat_tests)

  few_from : (row : ℕ) (recs : List (List (List ℕ))) (xs : List R) → all_ok (map (row_of columns cells) (enumerate_from row recs)) ≡ Ok xs → row ≤ 4000002 → length xs + row ≤ 4000002
  few_from row [] xs e h = let none : [] ≡ xs = cc in let long : length xs ≡ 0 = ap length (sym none) in omega (arith, long, h)
  few_from row (fields ∷ recs) xs e h = grind (arith, few_from (row + 1) recs, nat_tests)

  each_from : (row : ℕ) (recs : List (List (List ℕ))) (xs : List R) → all_ok (map (row_of columns cells) (enumerate_from row recs)) ≡ Ok xs → (i : ℕ) (x : R) → slice_get xs i ≡ Some x → P x
  each_from row [] xs e i x at = let none : [] ≡ xs = cc in absurd (none_some x (ap (λ ys. slice_get ys i) none ∙ at))
  each_from row (fields ∷ recs) xs e i x at =
      and_then_ok (row_of columns cells (row, fields)) (λ y. ◌>>=◌ (all_ok (map (row_of columns cells) (enumerate_from (row + 1) recs))) (λ ys. Ok (y ∷ ys))) xs e
      (λ y first rest. and_then_ok (all_ok (map (row_of columns cells) (enumerate_from (row + 1) recs))) (λ ys. Ok (y ∷ ys)) xs rest
      (λ ys more last.
      let is : y ∷ ys ≡ xs = cc in
      at_place ys i (row_small row fields y (nat_le row 4000001) refl first).1 (λ j. each_from (row + 1) recs ys more j x) (ap (λ zs. slice_get zs i) is ∙ at)))
    where
      at_place : {y : R} (ys : List R) (j : ℕ) → P y → ((k : ℕ) → slice_get ys k ≡ Some x → P x) → slice_get (y ∷ ys) j ≡ Some x → P x
      at_place ys zero p more h = subst P (same_Some _ _ h) p
      at_place ys (suc j) p more h = more j h

module _ {R : Type 0} (columns : Columns R) (P : R → Type 0) (within : AreWithin columns P) where
  under : (C : Type 0) (header : List (List ℕ)) (recs : List (List (List ℕ))) (xs : List R) (missing : Option Column) → unless_missing missing (rows_from columns (cell_of header) 2 recs) ≡ Ok xs → (all_ok (map (row_of columns (cell_of header)) (enumerate_from 2 recs)) ≡ Ok xs → C) → C
  unfolding rows_from
  under C header recs xs missing e k = grind arith

  from_records : (C : Type 0) (recs : List (List (List ℕ))) (xs : List R) → rows_of_records columns recs ≡ Ok xs → ((cells : List (List ℕ) → Column → List ℕ) (rest : List (List (List ℕ))) → all_ok (map (row_of columns cells) (enumerate_from 2 rest)) ≡ Ok xs → C) → C
  from_records C [] xs e k = under C [] [] xs (first_missing [] columns.headings) e (k (cell_of []) [])
  from_records C (header ∷ recs) xs e k = under C header recs xs (first_missing header columns.headings) e (k (cell_of header) recs)

  pub rows_few : (bytes : List ℕ) (xs : List R) → rows_of columns bytes ≡ Ok xs → length xs ≤ most_rows
  unfolding rows_of
  rows_few bytes xs e = from_records (length xs ≤ most_rows) (records default_config (strip_bom bytes)) xs e (λ cells rest h. let few = few_from columns P within cells 2 rest xs h (omega arith) in omega (arith, few))

  pub rows_within : (bytes : List ℕ) (xs : List R) → rows_of columns bytes ≡ Ok xs → (i : ℕ) (x : R) → slice_get xs i ≡ Some x → P x
  unfolding rows_of
  rows_within bytes xs e = from_records ((i : ℕ) (x : R) → slice_get xs i ≡ Some x → P x) (records default_config (strip_bom bytes)) xs e (λ cells rest h. each_from columns P within cells 2 rest xs h)

of_file_ok : {A : Type 0} (name : File) (r : Result A RowFault) (x : A) → of_file name r ≡ Ok x → r ≡ Ok x
of_file_ok name r x e = grind arith

file_ok : {R C : Type 0} (required : Bool) (name : File) (columns : Columns R) (bytes : Option (List ℕ)) (xs : List R) → file_rows required name columns bytes ≡ Ok xs → (xs ≡ [] → C) → ((b : List ℕ) → rows_of columns b ≡ Ok xs → C) → C
file_ok required name columns bytes xs e none some = grind (arith, of_file_ok, nat_tests)

abbrev pub Anything : {A : Type 0} → A → Type 0
Anything x = Unit {0}

-- a file that was read has few rows
pub file_few : {R : Type 0} (required : Bool) (name : File) (columns : Columns R) (bytes : Option (List ℕ)) (xs : List R) → file_rows required name columns bytes ≡ Ok xs → length xs ≤ most_rows
file_few required name columns bytes xs e = file_ok required name columns bytes xs e (λ none. subst (λ ys. length ys ≤ most_rows) (sym none) (omega arith)) (λ b told. rows_few columns Anything (λ row cells x h. tt) b xs told)

-- and each of its rows is as its columns say
pub file_within : {R : Type 0} (required : Bool) (name : File) (columns : Columns R) (P : R → Type 0) → AreWithin columns P → (bytes : Option (List ℕ)) (xs : List R) → file_rows required name columns bytes ≡ Ok xs → (i : ℕ) (x : R) → slice_get xs i ≡ Some x → P x
file_within required name columns P within bytes xs e = file_ok required name columns bytes xs e (λ none i x at. absurd (none_some x (ap (λ ys. slice_get ys i) (sym none) ∙ at))) (λ b told. rows_within columns P within b xs told)
