-- What a step's answer says of the whole.
use Rattle.std.proofs.Common.{◌≡◌, ℕ, ◌≤◌, Bool, List, ap, ◌∙◌, arith}
use Rattle.std.specs.Prelude.{Option, Some, IfSome, Ok, Err, length, nat_lt, false}
use Rattle.answer_defs.specs.Defined.{IsCause}
use Rattle.gtfs_rows.specs.Files.{cause_of, rows_of}
use Rattle.gtfs_rows.specs.Tables.{Columns}
use Rattle.gtfs_rows.specs.declared.fault.RowFault.{RowFault}
use Rattle.sched_load_defs.specs.declared.fault.File.{File}
use Rattle.sched_load_defs.specs.declared.fault.LoadFault.TheVariants as fault
use Rattle.sched_load_defs.specs.Files.{of_file, longest_file}
use Rattle.sched_load.specs.Answer.{AnswersFromFiles, fault_of}
use Rattle.sched_load.specs.Listed.{file_rows}
use Rattle.std.proofs.lemmas.Bool.Decides.{nat_tests}

short : (n m : ℕ) → n ≤ m → nat_lt m n ≡ false
short n m h = grind (arith, nat_tests)

-- the rows of a file that was read whole
pub rows_read : {R : Type 0} (required : Bool) (name : File) (columns : Columns R) (bytes : List ℕ) → length bytes ≤ longest_file → file_rows required name columns (Some bytes) ≡ of_file name (rows_of columns bytes)
rows_read required name columns bytes h = grind (arith, short)

pub rows_ok : {R : Type 0} (required : Bool) (name : File) (columns : Columns R) (bytes : List ℕ) (xs : List R) → length bytes ≤ longest_file → rows_of columns bytes ≡ Ok xs → file_rows required name columns (Some bytes) ≡ Ok xs
rows_ok required name columns bytes xs h e = rows_read required name columns bytes h ∙ ap (of_file name) e

refused_row : {R : Type 0} (required : Bool) (name : File) (columns : Columns R) (bytes : Option (List ℕ)) (left : List ℕ) (e : RowFault) → bytes ≡ Some left → length left ≤ longest_file → rows_of columns left ≡ Err e → file_rows required name columns bytes ≡ Err (fault.Rows name e)
refused_row required name columns bytes left e is h told = ap (file_rows required name columns) is ∙ rows_read required name columns left h ∙ ap (of_file name) told

-- a file that was read has the fault that its reader gave
pub read_fault : {R : Type 0} (contents : Option (List (List ℕ × List ℕ))) (at : List (List ℕ × List ℕ) → Option (List ℕ)) (required : Bool) (name : File) (columns : Columns R) (before after : ℕ) (left : List ℕ) (e : RowFault)
    → (length left ≤ longest_file) × IfSome contents (λ fs. at fs ≡ Some left) → IsCause (rows_of columns left) (cause_of e) → before ≤ after
    → AnswersFromFiles contents (λ fs. file_rows required name columns (at fs)) before after (Err (fault_of name e))
read_fault contents at required name columns before after left e h told count = grind (arith, refused_row)

-- a file that was read has the rows that its reader gave
pub read_whole : {R : Type 0} (contents : Option (List (List ℕ × List ℕ))) (at : List (List ℕ × List ℕ) → Option (List ℕ)) (required : Bool) (name : File) (columns : Columns R) (before after : ℕ) (left : List ℕ) (xs : List R)
    → (length left ≤ longest_file) × IfSome contents (λ fs. at fs ≡ Some left) → rows_of columns left ≡ Ok xs → before ≤ after
    → AnswersFromFiles contents (λ fs. file_rows required name columns (at fs)) before after (Ok xs)
read_whole contents at required name columns before after left xs h told count = grind (arith, rows_ok)
