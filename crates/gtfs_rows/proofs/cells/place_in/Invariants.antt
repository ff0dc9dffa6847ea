use Rattle.std.proofs.Common.{◌≡◌, drop}
use Rattle.std.specs.Prelude.{bytes_eq}
use Rattle.std.specs.List.{position_from}
use Rattle.csv.specs.Records.{fields_of}
use Rattle.gtfs_rows.specs.Files.{place_of, trimmed_text}
use Rattle.gtfs_rows.proofs.cells.place_in.Given as goal

-- the fields passed so far aren't the name
abbrev pub invariant-loop-place : goal.invariant-loop-place
invariant-loop-place l =
    position_from (λ field. bytes_eq (trimmed_text field) l.name) l.place (drop l.place (fields_of l.header))
    ≡ place_of (fields_of l.fn.header) l.fn.column
