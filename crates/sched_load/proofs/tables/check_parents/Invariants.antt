use Rattle.std.proofs.Common.{◌≡◌}
use Rattle.sched_load_defs.specs.References.{parent_fault}
use Rattle.row_tables.proofs.Faults.{faults_from}
use Rattle.sched_load.proofs.tables.check_parents.Given as goal

abbrev pub invariant-loop-place : goal.invariant-loop-place
invariant-loop-place l = faults_from (parent_fault l.stops) l.stops 0 ≡ faults_from (parent_fault l.stops) l.stops l.place
