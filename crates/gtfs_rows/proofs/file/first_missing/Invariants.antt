use Rattle.std.proofs.Common.{◌≡◌, drop}
use Rattle.csv.specs.Records.{fields_of}
use Rattle.gtfs_rows.specs.Files.{first_missing}
use Rattle.gtfs_rows.proofs.file.first_missing.Given as goal

-- no column so far is missing
abbrev pub invariant-loop-heading : goal.invariant-loop-heading
invariant-loop-heading l = first_missing (fields_of l.header) (drop l.heading-index l.headings) ≡ first_missing (fields_of l.fn.header) l.fn.headings
