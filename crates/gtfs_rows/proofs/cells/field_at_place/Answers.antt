use Rattle.std.proofs.Common.{sym, ap, ◌∙◌}
use Rattle.csv.proofs.RecordFacts.{field-get}
use Rattle.gtfs_rows.specs.Files.{trimmed_text}
use Rattle.gtfs_rows.proofs.cells.field_at_place.Goals as goal

pub returns : goal.returns
returns c =
    rw c.in-Some.is (c.trim.ensures ∙ ap trimmed_text (sym (field-get _ c.in-Some.place c.in-Some-get.field.now (sym c.in-Some-get.ensures.value))))
