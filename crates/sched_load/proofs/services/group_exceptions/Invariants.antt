use Rattle.std.proofs.Common.{◌≡◌, ◌&&◌, take, nat_eq}
use Rattle.std.specs.Str.{bytes_eq}
use Rattle.sched_load_defs.specs.declared.fault.File.TheVariants as file
use Rattle.sched_load_defs.specs.References.{refers_to_none}
use Rattle.sched_load.specs.Groups.{exceptions_of}
use Rattle.sched_load.specs.Listed.{entries_of}
use Rattle.row_tables.proofs.Faults.{Judged}
use Rattle.sched_load.proofs.services.group_exceptions.Given as goal

abbrev pub invariant-loop-place : goal.invariant-loop-place
invariant-loop-place l = record {
  judged : Judged file.CalendarDates refers_to_none (λ a b. bytes_eq a.service_id b.service_id && nat_eq a.date b.date) l.rows l.place;
  groups : entries_of l.exceptions.items ≡ exceptions_of l.services (take l.place l.rows);
}
