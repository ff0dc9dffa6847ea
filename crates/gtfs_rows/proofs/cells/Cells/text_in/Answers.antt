use Rattle.std.proofs.Common.{refl, sym, ap, ◌∙◌}
use Rattle.std.specs.Str.{is_utf8}
use Rattle.std.proofs.lemmas.Str.{is_utf8-from_IsUtf8}
use Rattle.gtfs_rows.proofs.CellLemmas.{is_utf8-none}
use Rattle.gtfs_rows.proofs.cells.Cells.text_in.Goals as goal

pub returns-in_default : goal.returns-in_default
returns-in_default c = (refl, ap is_utf8 (sym c.bytes.ensures) ∙ is_utf8-none c.bytes.result.now c.in_default.ensures.cases.0)

pub returns : goal.returns
returns c =
    (c.in-Ok.ensures.cases.0 ∙ c.bytes.ensures, ap is_utf8 (sym c.bytes.ensures) ∙ is_utf8-from_IsUtf8 c.bytes.result.now c.in-Ok.ensures.cases.1)
