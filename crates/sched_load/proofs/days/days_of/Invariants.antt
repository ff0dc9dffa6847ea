use Rattle.std.proofs.Common.{◌≡◌, nat_cmp}
use Rattle.std.specs.Prelude.{filter, option_copied}
use Rattle.std.specs.List.{range_with_len}
use Rattle.std.specs.FinMap.Entries.{find}
use Rattle.text_defs.specs.Dates.{date_plus}
use Rattle.sched_load.specs.Days.{runs_by}
use Rattle.sched_load.proofs.days.days_of.Given as goal

abbrev pub invariant-loop-day : goal.invariant-loop-day
invariant-loop-day l = record {
  date : l.date ≡ date_plus l.first l.day;
  listed : l.list.items ≡ filter (λ day. runs_by (option_copied l.row) (find nat_cmp (date_plus l.first day) l.exceptions.entries) (date_plus l.first day)) (range_with_len 0 l.day);
}
