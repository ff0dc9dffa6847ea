-- What an answer says of what was read before a file that could not be read.
use Rattle.std.specs.Prelude.{◌≡◌, ◌≤◌, ℕ, List, Option, IfSome, Result, Ok, Err, ⊤}
use Rattle.sched_load_defs.specs.Files.{file_place, path_of, unreadable}
use Rattle.sched_load_defs.specs.Stops.{DatasetStops, StopsAt}
use Rattle.sched_load_defs.specs.declared.conf.PlanConf.{PlanConf}
use Rattle.sched_load_defs.specs.declared.fault.File.{File}
use Rattle.sched_load_defs.specs.declared.fault.LoadFault.{LoadFault}
use Rattle.sched_load_defs.specs.declared.fault.LoadFault.TheVariants as fault

-- something holds where the fault is a file that could not be read
abbrev pub AtFileFault : LoadFault → Type 0 → Type 0
AtFileFault fault.BadZone P = ⊤
AtFileFault (fault.MissingFile name) P = ⊤
AtFileFault (fault.TooLong name) P = ⊤
AtFileFault (fault.Rows name e) P = ⊤
AtFileFault (fault.UnknownRef name row column) P = ⊤
AtFileFault (fault.Duplicate name row) P = ⊤
AtFileFault (fault.TripTimes row) P = ⊤
AtFileFault fault.FileFault P = P
AtFileFault fault.NoMemory P = ⊤

-- something holds where the answer is a file that could not be read
abbrev pub StopsWith : {A : Type 0} → Result A LoadFault → Type 0 → Type 0
StopsWith (Ok x) P = ⊤
StopsWith (Err e) P = AtFileFault e P

-- the path of the call that failed last, where it is told, is that of this file
abbrev pub StopsFile : Option (List ℕ) → List ℕ → File → Type 0
StopsFile place folder name = IfSome place (λ path. path ≡ path_of folder name)

-- The path is that of a file of the folder, which is none of the first so many, and where it can't
-- be read this is the first fault of a part of the files.
pub record PartStops {A : Type 0}
    (part : (File → Result (Option (List ℕ)) LoadFault) → Result A LoadFault) (before : ℕ)
    (files : List (List ℕ × List ℕ)) (folder path : List ℕ) : Type 0 where
  pub broken : File
  pub place : path ≡ path_of folder broken
  pub late : before ≤ file_place broken
  pub first : part (unreadable broken files folder) ≡ Err fault.FileFault

-- reading that part stopped at that call, where the files and its path are told
abbrev pub StopsPart : {A : Type 0}
    → ((File → Result (Option (List ℕ)) LoadFault) → Result A LoadFault) → ℕ
    → Option (List (List ℕ × List ℕ)) → Option (List ℕ) → List ℕ → Type 0
StopsPart part before contents place folder =
    IfSome contents (λ files. IfSome place (λ path. PartStops part before files folder path))

-- reading the eight files stopped at that call, where the files and its path are told
abbrev pub StopsTables : Option (List (List ℕ × List ℕ)) → Option (List ℕ) → List ℕ → Type 0
StopsTables contents place folder =
    IfSome contents (λ files. IfSome place (λ path. DatasetStops files folder path))

-- loading stopped at that call, where the files and its path are told
abbrev pub StopsLoading : Option (List (List ℕ × List ℕ)) → Option (List ℕ) → List ℕ → PlanConf
    → Type 0
StopsLoading contents place folder conf =
    IfSome contents (λ files. IfSome place (λ path. StopsAt files folder conf path))
