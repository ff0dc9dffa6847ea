use Rattle.std.proofs.Common.{◌≡◌, length, map, take}
use Rattle.csv.specs.Records.{fields_of}
use Rattle.gtfs_rows.specs.Names.{all_columns}
use Rattle.gtfs_rows.specs.Files.{place_of}
use Rattle.gtfs_rows.proofs.cells.place_columns.Given as goal

-- the places of the columns so far
abbrev pub invariant-loop-slot : goal.invariant-loop-slot
invariant-loop-slot l = (length l.places ≡ 32) × (take l.slot l.places ≡ map (place_of (fields_of l.header)) (take l.slot all_columns))
