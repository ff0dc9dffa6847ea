-- What a loader's answer says of what is told.
use Rattle.std.specs.Prelude.{◌≡◌, ℕ, ◌≤◌, List, Option, IfSome, Result, Ok, Err, Vec, ⊤}
use Rattle.std.specs.declared.alloc.Global.{Global}
use Rattle.answer_defs.specs.Steps.{◌>>=◌}
use Rattle.gtfs_rows.specs.declared.fault.RowFault.{RowFault}
use Rattle.gtfs_rows.specs.declared.fault.RowFault.TheVariants as rows
use Rattle.hub_outside.specs.Count.{Rose}
use Rattle.sched_load_defs.specs.declared.fault.File.{File}
use Rattle.sched_load_defs.specs.declared.fault.LoadFault.{LoadFault}
use Rattle.sched_load_defs.specs.declared.fault.LoadFault.TheVariants as fault

-- a fault is the one that is told; want of memory may come in place of anything, and a file that
-- could not be read says nothing
abbrev pub Refuses : {A : Type 0} → Result A LoadFault → LoadFault → Type 0
Refuses told fault.BadZone = told ≡ Err fault.BadZone
Refuses told (fault.MissingFile name) = told ≡ Err (fault.MissingFile name)
Refuses told (fault.TooLong name) = told ≡ Err (fault.TooLong name)
Refuses told (fault.Rows name e) = told ≡ Err (fault.Rows name e)
Refuses told (fault.UnknownRef name row column) = told ≡ Err (fault.UnknownRef name row column)
Refuses told (fault.Duplicate name row) = told ≡ Err (fault.Duplicate name row)
Refuses told (fault.TripTimes row) = told ≡ Err (fault.TripTimes row)
Refuses told fault.FileFault = ⊤
Refuses told fault.NoMemory = ⊤

-- an answer is what is told
abbrev pub Loads : {A : Type 0} → Result A LoadFault → Result A LoadFault → Type 0
Loads told (Ok x) = told ≡ Ok x
Loads told (Err e) = Refuses told e

-- a fault whose cause is not in the files' contents: a file that could not be read raised the count
-- of faults
abbrev pub HasFaultCause : LoadFault → ℕ → ℕ → Type 0
HasFaultCause fault.BadZone before after = ⊤
HasFaultCause (fault.MissingFile name) before after = ⊤
HasFaultCause (fault.TooLong name) before after = ⊤
HasFaultCause (fault.Rows name e) before after = ⊤
HasFaultCause (fault.UnknownRef name row column) before after = ⊤
HasFaultCause (fault.Duplicate name row) before after = ⊤
HasFaultCause (fault.TripTimes row) before after = ⊤
HasFaultCause fault.FileFault before after = Rose before after
HasFaultCause fault.NoMemory before after = ⊤

-- the count of faults did not fall, and a file that could not be read raised it
abbrev pub HasLoadCause : {A : Type 0} → Result A LoadFault → ℕ → ℕ → Type 0
HasLoadCause (Ok x) before after = before ≤ after
HasLoadCause (Err e) before after = (before ≤ after) × HasFaultCause e before after

-- want of memory has its own variant, and is no fault of a file
abbrev pub IsPlain : LoadFault → Type 0
IsPlain fault.BadZone = ⊤
IsPlain (fault.MissingFile name) = ⊤
IsPlain (fault.TooLong name) = ⊤
IsPlain (fault.Rows name (rows.MissingColumn column)) = ⊤
IsPlain (fault.Rows name (rows.BadValue row column)) = ⊤
IsPlain (fault.Rows name (rows.NotText row column)) = ⊤
IsPlain (fault.Rows name rows.TooMany) = ⊤
IsPlain (fault.Rows name rows.NoMemory) = ⊥
IsPlain (fault.UnknownRef name row column) = ⊤
IsPlain (fault.Duplicate name row) = ⊤
IsPlain (fault.TripTimes row) = ⊤
IsPlain fault.FileFault = ⊤
IsPlain fault.NoMemory = ⊤

abbrev pub IsPlainAnswer : {A : Type 0} → Result A LoadFault → Type 0
IsPlainAnswer (Ok x) = ⊤
IsPlainAnswer (Err e) = IsPlain e

-- The answer of a step that reads files is what is told of them, where they are told; it has a
-- cause, and is plain.
pub record AnswersFromFiles {A : Type 0} (contents : Option (List (List ℕ × List ℕ)))
    (told : List (List ℕ × List ℕ) → Result A LoadFault) (before after : ℕ)
    (answer : Result A LoadFault) : Type 0 where
  pub loads : IfSome contents (λ files. Loads (told files) answer)
  pub cause : HasLoadCause answer before after
  pub plain : IsPlainAnswer answer

-- the items of a vector that is an answer
abbrev pub items_in : {A : Type 0} → Result (Vec A Global) LoadFault → Result (List A) LoadFault
items_in (Ok xs) = Ok xs.items
items_in (Err e) = Err e

-- the fault of a file that its reader gave: want of memory is none of the file
abbrev pub fault_of : File → RowFault → LoadFault
fault_of name (rows.MissingColumn column) = fault.Rows name (rows.MissingColumn column)
fault_of name (rows.BadValue row column) = fault.Rows name (rows.BadValue row column)
fault_of name (rows.NotText row column) = fault.Rows name (rows.NotText row column)
fault_of name rows.TooMany = fault.Rows name rows.TooMany
fault_of name rows.NoMemory = fault.NoMemory

-- a step, and what follows from its value
abbrev pub and_next : {A B : Type 0} → Result A LoadFault → (A → Result B LoadFault)
    → Result B LoadFault
and_next told next = told >>= next
