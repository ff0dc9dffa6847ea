use Rattle.std.proofs.Common.{◌≡◌, map}
use Rattle.std.specs.List.{range_with_len}
use Rattle.text_defs.specs.Dates.{date_plus}
use Rattle.service_day.specs.Zone.{base_of}
use Rattle.sched_load.specs.Days.{EachSmall}
use Rattle.sched_load.proofs.days.bases_of.Given as goal

abbrev pub invariant-loop : goal.invariant-loop
invariant-loop l = record {
  date : l.date ≡ date_plus l.first l.counter;
  bases : l.bases.items ≡ map (λ day. base_of l.zone (date_plus l.first day)) (range_with_len 0 l.counter);
  small : EachSmall l.bases.items;
}
