-- What the answer of a step that reads no file says of what is told.
use Rattle.std.specs.Prelude.{◌≡◌, Result, Ok, Err, ⊤}
use Rattle.gtfs_rows.specs.declared.fault.RowFault.TheVariants as rows
use Rattle.sched_load_defs.specs.declared.fault.LoadFault.{LoadFault}
use Rattle.sched_load_defs.specs.declared.fault.LoadFault.TheVariants as fault

-- a fault that a step gives which reads no file
abbrev pub RefusesAlone : {A : Type 0} → Result A LoadFault → LoadFault → Type 0
RefusesAlone told fault.BadZone = told ≡ Err fault.BadZone
RefusesAlone told (fault.MissingFile name) = told ≡ Err (fault.MissingFile name)
RefusesAlone told (fault.TooLong name) = told ≡ Err (fault.TooLong name)
RefusesAlone told (fault.Rows name (rows.MissingColumn column)) = told
    ≡ Err (fault.Rows name (rows.MissingColumn column))
RefusesAlone told (fault.Rows name (rows.BadValue row column)) = told
    ≡ Err (fault.Rows name (rows.BadValue row column))
RefusesAlone told (fault.Rows name (rows.NotText row column)) = told
    ≡ Err (fault.Rows name (rows.NotText row column))
RefusesAlone told (fault.Rows name rows.TooMany) = told ≡ Err (fault.Rows name rows.TooMany)
RefusesAlone told (fault.Rows name rows.NoMemory) = ⊥
RefusesAlone told (fault.UnknownRef name row column) = told ≡ Err (fault.UnknownRef name row column)
RefusesAlone told (fault.Duplicate name row) = told ≡ Err (fault.Duplicate name row)
RefusesAlone told (fault.TripTimes row) = told ≡ Err (fault.TripTimes row)
RefusesAlone told fault.FileFault = ⊥
RefusesAlone told fault.NoMemory = ⊤

-- the answer of a step that reads no file is what is told
abbrev pub AnswersAlone : {A : Type 0} → Result A LoadFault → Result A LoadFault → Type 0
AnswersAlone told (Ok x) = told ≡ Ok x
AnswersAlone told (Err e) = RefusesAlone told e
