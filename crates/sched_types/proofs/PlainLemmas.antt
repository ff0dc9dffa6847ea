-- The timetable without rows is a timetable.
use Rattle.std.proofs.Common.{◌≡◌, [], refl, arith}
use Rattle.text_defs.specs.Dates.{is_day}
use Rattle.sched_types.specs.declared.plan.Plan.TheInside.{Inside}
use Rattle.sched_types.specs.Timetable.{IsTimetable, no_timetable}
use Rattle.sched_types.specs.Departures.{AreInOrder}
use Rattle.sched_types.specs.Sound.{IsSound}

pub plain_is : IsTimetable no_timetable
unfolding is_day
plain_is = grind arith

no_order : AreInOrder [] [] []
no_order = record { sorted = λ k d low high. absurd (omega arith); same = λ wanted. refl }

-- so is each plan whose lists are empty and whose window begins so
pub plain_sound : (p : Inside) → p.agencies.items ≡ [] → p.stops.items ≡ [] → p.routes.items ≡ [] → p.trips.items ≡ [] → p.places.items ≡ [] → p.active.items ≡ [] → p.bases.items ≡ [] → p.first ≡ 19700101 → p.patterns.items ≡ [] → p.derived.items ≡ [] → p.children.items ≡ [] → p.dates.items ≡ [] → p.departures.items ≡ [] → p.running.items ≡ [] → IsSound p
plain_sound p agencies stops routes trips places active bases first patterns derived children dates departures running = grind (arith, no_order, plain_is)
