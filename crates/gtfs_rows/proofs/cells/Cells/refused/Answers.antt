use Rattle.std.proofs.Common.{refl}
use Rattle.std.proofs.lemmas.Str.{is_utf8-from_IsUtf8}
use Rattle.gtfs_rows.proofs.CellLemmas.{is_utf8-none}
use Rattle.gtfs_rows.proofs.cells.Cells.refused.Goals as goal

pub returns-in_default : goal.returns-in_default
returns-in_default c = rw (is_utf8-none c.args.bytes.now c.in_default.ensures.cases.0) refl

pub returns : goal.returns
returns c = rw (is_utf8-from_IsUtf8 c.args.bytes.now c.in-Ok.ensures.cases.1) refl
