-- Where loading stops at a file that can't be read: nothing that comes before it is at fault.
use Rattle.std.specs.Prelude.{◌≡◌, ℕ, List, Err}
use Rattle.sched_load_defs.specs.declared.conf.PlanConf.{PlanConf}
use Rattle.sched_load_defs.specs.declared.fault.File.{File}
use Rattle.sched_load_defs.specs.declared.fault.LoadFault.TheVariants as fault
use Rattle.sched_load_defs.specs.Files.{path_of, unreadable}
use Rattle.sched_load_defs.specs.Loading.{dataset_where, timetable_where}

-- The path is that of a file of the folder, and where that file can't be read this is the first
-- fault of the eight files: file by file, what comes before it has none.
pub record DatasetStops (files : List (List ℕ × List ℕ)) (folder path : List ℕ) : Type 0 where
  pub broken : File
  pub place : path ≡ path_of folder broken
  pub first : dataset_where (unreadable broken files folder) ≡ Err fault.FileFault

-- the same of the timetable, so the zone has no fault either
pub record StopsAt (files : List (List ℕ × List ℕ)) (folder : List ℕ) (conf : PlanConf)
    (path : List ℕ) : Type 0 where
  pub broken : File
  pub place : path ≡ path_of folder broken
  pub first : timetable_where (unreadable broken files folder) conf ≡ Err fault.FileFault
