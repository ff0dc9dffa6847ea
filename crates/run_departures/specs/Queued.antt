-- What a queue holds: the departures that its source has left, and one that was taken out of it.
use Rattle.std.specs.Prelude.{Bool, true, false, Option, Some, None, List, [], ◌∷◌}
use Rattle.std.specs.List.{AllByRecursion}
use Rattle.order.proofs.Laws.{IsRising}
use Rattle.run_departures.specs.declared.departure.Departure.{Departure}
use Rattle.run_departures.specs.declared.source.Source.{Source}
use Rattle.run_departures.specs.declared.source.Source.TheVariants as source
use Rattle.run_departures.specs.Orders.{departure_total}

-- what a source has left
abbrev pub left_in : Source → List Departure
left_in (source.Scheduled left) = left
left_in (source.Live left) = left

-- no departure was taken out only where there is none
abbrev pub is_headed : Option Departure → List Departure → Bool
is_headed (Some head) rest = true
is_headed None [] = true
is_headed None (d ∷ rest) = false

-- in each of them no departure goes before an earlier one
pub record AreRising (queues : List (List Departure)) : Type 0 where
  pub rise : AllByRecursion (IsRising departure_total) queues
