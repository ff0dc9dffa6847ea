-- The entities' own ids are those under which they stand.
use Rattle.alert_select.proofs.Parts.{ids_of}
use Rattle.alert_select.proofs.index.AlertIndex.ids.Goals as goal

pub returns : goal.returns
returns c = ids_of _ _ c.iter.ensures.items c.iter.ensures.keyed
