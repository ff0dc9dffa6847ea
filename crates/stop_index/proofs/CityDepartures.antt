-- The departures of the small city, around the change to summer time of 30 March 2025.
use Rattle.std.proofs.Common.{◌≡◌, ℕ, [], ◌∷◌, pos, true, refl}
use Rattle.order.specs.Order.{inserted, ordered}
use Rattle.sched_types.specs.City.{city}
use Rattle.stop_index.specs.declared.slot.Slot.{Slot}
use Rattle.stop_index.specs.declared.trip_departure.TripDeparture.{TripDeparture}
use Rattle.sched_types.specs.Runs.{all_runs}
use Rattle.stop_index.specs.Slots.{slots_between}
use Rattle.stop_index.specs.Index.{Index, index_of}

abbrev leaving : ℕ → ℕ → ℕ → ℕ → Slot
leaving at trip day place = record { at = pos at; run = record { trip = trip; day = day }; place = place }

abbrev timed : ℕ → ℕ → ℕ → TripDeparture
timed seconds trip place = record { seconds = seconds; trip = trip; place = place }

-- From platform A T1 leaves at 08:00 and N1 at 25:10, on each of the three days: N1 of the 29th in the last hour of
-- winter time.
all_of_platform : slots_between city 0 (pos 1743231600) (pos 1743462601)
    ≡ leaving 1743231600 1 0 0 ∷ leaving 1743293400 0 0 0 ∷ leaving 1743314400 1 1 0 ∷ leaving 1743376200 0 1 0 ∷ leaving 1743400800 1 2 0 ∷ leaving 1743462600 0 2 0 ∷ []
unfolding slots_between all_runs ordered inserted
all_of_platform = refl

-- the start belongs to what is asked for, the end does not
start_and_end : slots_between city 0 (pos 1743293400) (pos 1743314400) ≡ leaving 1743293400 0 0 0 ∷ []
unfolding slots_between all_runs ordered inserted
start_and_end = refl

-- from platform B T1 and T2 leave at 08:21, T1 from its third place
of_one_instant : slots_between city 1 (pos 1743315660) (pos 1743315661) ≡ leaving 1743315660 1 1 2 ∷ leaving 1743315660 2 1 0 ∷ []
unfolding slots_between all_runs ordered inserted
of_one_instant = refl

-- nobody leaves from the hill, where all trips end, nor from the station itself
of_the_last : slots_between city 3 (pos 0) (pos 2000000000) ≡ []
unfolding slots_between all_runs ordered inserted
of_the_last = refl

of_the_station : slots_between city 4 (pos 0) (pos 2000000000) ≡ []
unfolding slots_between all_runs ordered inserted
of_the_station = refl

abbrev kept : Index
kept = record {
  departures =
      (timed 28800 1 0 ∷ timed 90600 0 0 ∷ [])
      ∷ (timed 30060 1 2 ∷ timed 30060 2 0 ∷ [])
      ∷ (timed 29400 1 1 ∷ [])
      ∷ []
      ∷ []
      ∷ [];
  days_rise = true;
}

-- what an index keeps of it
index_of_city : index_of city ≡ kept
unfolding index_of ordered inserted
index_of_city = refl
