use Rattle.std.proofs.Common.{◌≡◌, ℕ, List, ◌++◌, map, take}
use Rattle.row_tables.specs.Order.{texts_seen}
use Rattle.sched_load.specs.Services.{ids_gathered}
use Rattle.sched_load.proofs.services.add_services.Given as goal

abbrev pub invariant-loop-row : goal.invariant-loop-row
invariant-loop-row g l =
    (before : List (List ℕ)) → texts_seen l.initial.ids.entries ≡ ids_gathered before
    → texts_seen l.ids.entries ≡ ids_gathered (before ++ map g.R.ServiceRow.service_of (take l.row-index l.rows))
