-- Each source of a board rises.
use Rattle.std.proofs.lemmas.Bool.Decides.{nat_tests}
use Rattle.std.proofs.Common.{◌≡◌, ℕ, ◌+◌, Option, Some, List, [], ◌∷◌, map, filter, ℤ, pos, refl, sym, ap, subst, ◌∙◌, arith}
use Rattle.std.specs.List.{AllByRecursion}
use Rattle.sched_types.specs.declared.rows.Place.{Place}
use Rattle.sched_types.specs.Timetable.{Timetable}
use Rattle.order.proofs.Laws.{IsRising, rising_ordered}
use Rattle.stop_index.specs.declared.slot.Slot.{Slot}
use Rattle.stop_index.specs.Slots as times
use Rattle.stop_index.specs.Slots.{slots_between}
use Rattle.stop_index.proofs.Instants.{slot_total}
use Rattle.stop_index.proofs.Laws.{between_rises}
use Rattle.board_defs.specs.Feeds.{HubFeed, schedule_feeds}
use Rattle.run_overlay.specs.declared.slot.LiveSlot.{LiveSlot}
use Rattle.run_overlay.specs.Kept.{overlay_of, slots_in}
use Rattle.run_overlay.specs.Live as live
use Rattle.run_overlay.specs.Live.{live_between}
use Rattle.run_overlay.specs.Updates.{updates_of}
use Rattle.run_overlay.proofs.Slots.{slots_are}
use Rattle.run_departures.specs.declared.asked.Asked.{Asked}
use Rattle.run_departures.specs.declared.departure.Departure.{Departure}
use Rattle.run_departures.specs.Bids.{LiveFeed, live_feed}
use Rattle.run_departures.specs.Board.{AreLive, sources, stops_of}
use Rattle.run_departures.specs.Departures.{departure_cmp}
use Rattle.run_departures.specs.Orders.{departure_total}
use Rattle.run_departures.specs.Queued.{AreRising}
use Rattle.run_departures.specs.Sources.{by_timetable, by_update, if_boarding, if_told_by, if_untold, live_departure, live_there, scheduled_departure, scheduled_there, sources_at, updated}
use Rattle.run_departures.proofs.Fusion.{all_flat}
use Rattle.run_departures.proofs.Split.{live_total}
use Rattle.run_departures.proofs.Spread.{rising_given}

module _ (t : Timetable) (feeds : List LiveFeed) (at stop : ℕ) where
  -- ---- by the timetable

  boarding_is : (slot : Slot) (place : Option Place) (d : Departure) → if_boarding stop slot place ≡ Some d → d ≡ by_timetable stop slot
  boarding_is slot place d is = grind arith

  untold_is : (won : Option ℕ) (given : Option Departure) (d : Departure) → if_untold won given ≡ Some d → given ≡ Some d
  untold_is won given d is = grind arith

  scheduled_is : (slot : Slot) (d : Departure) → scheduled_departure t feeds at stop slot ≡ Some d → d ≡ by_timetable stop slot
  scheduled_is slot d is = grind (arith, boarding_is, untold_is)

  scheduled_alike : (a b : Slot) (x y : Departure) → scheduled_departure t feeds at stop a ≡ Some x → scheduled_departure t feeds at stop b ≡ Some y → departure_cmp x y ≡ times.slot_cmp a b
  scheduled_alike a b x y first second =
      ap (λ d. departure_cmp d y) (scheduled_is a x first) ∙ ap (departure_cmp (by_timetable stop a)) (scheduled_is b y second)

  -- ---- by an update

  record IsUpdated (slot : LiveSlot) (d : Departure) : Type 0 where
    place : Place
    is : d ≡ updated t stop slot place

  update_is : (slot : LiveSlot) (place : Option Place) (d : Departure) → by_update t stop slot place ≡ Some d → IsUpdated slot d
  update_is slot place d is = grind arith

  told_is : (number : ℕ) (won : Option ℕ) (given : Option Departure) (d : Departure) → if_told_by number won given ≡ Some d → given ≡ Some d
  told_is number won given d is = grind (arith, nat_tests)

  live_is : (number : ℕ) (slot : LiveSlot) (d : Departure) → live_departure t feeds at number stop slot ≡ Some d → IsUpdated slot d
  live_is number slot d is = grind (arith, told_is, update_is)

  live_alike : (number : ℕ) (a b : LiveSlot) (x y : Departure) → live_departure t feeds at number stop a ≡ Some x → live_departure t feeds at number stop b ≡ Some y → departure_cmp x y ≡ live.slot_cmp a b
  live_alike number a b x y first second =
      let one = live_is number a x first in
      let other = live_is number b y second in
      ap (λ d. departure_cmp d y) one.is ∙ ap (departure_cmp (updated t stop a one.place)) other.is

-- ---- at a stop

module _ (t : Timetable) (asked : Asked) (stop : ℕ) where
  abbrev start : ℤ
  start = pos asked.at

  abbrev end : ℤ
  end = pos (asked.at + asked.span)

  scheduled_rises : (feeds : List LiveFeed) → IsRising departure_total (scheduled_there t feeds asked stop)
  scheduled_rises feeds =
      rising_given slot_total departure_total (scheduled_departure t feeds asked.at stop) (scheduled_alike t feeds asked.at stop)
      (slots_between t stop start end) (between_rises t stop start end)

  between_up : (one : HubFeed) → IsRising live_total (slots_in (overlay_of t one.fold.entities) stop start end)
  unfolding live_between
  between_up one =
      subst (IsRising live_total) (sym (slots_are t one.fold.entities (overlay_of t one.fold.entities) refl stop start end))
      (rising_ordered live_total (filter (live.is_between start end) (live.slots_at t (updates_of one.fold.entities) stop)))

  live_rises : (feeds : List LiveFeed) (one : HubFeed) → IsRising departure_total (live_there t feeds asked stop (live_feed t one))
  live_rises feeds one =
      rising_given live_total departure_total (live_departure t feeds asked.at one.number stop) (live_alike t feeds asked.at stop one.number)
      (slots_in (overlay_of t one.fold.entities) stop start end) (between_up one)

  all_live_rise : (feeds : List LiveFeed) (fs : List HubFeed) → AllByRecursion (IsRising departure_total) (map (live_there t feeds asked stop) (map (live_feed t) fs))
  all_live_rise feeds [] = tt
  all_live_rise feeds (one ∷ fs) = (live_rises feeds one, all_live_rise feeds fs)

  stop_rises : (fs : List HubFeed) → AllByRecursion (IsRising departure_total) (sources_at t (map (live_feed t) fs) asked stop)
  stop_rises fs = (scheduled_rises (map (live_feed t) fs), all_live_rise (map (live_feed t) fs) fs)

anything : (stops : List ℕ) → AllByRecursion (λ (stop : ℕ). Unit {0}) stops
anything [] = tt
anything (stop ∷ stops) = (tt, anything stops)

pub sources_rise : (t : Timetable) (feeds : List LiveFeed) (asked : Asked) → AreLive t feeds → AreRising (sources t feeds asked)
sources_rise t feeds asked live =
    let P : List LiveFeed → Type 0 = λ fs. AreRising (sources t fs asked) in
    let fs = schedule_feeds live.plan live.named live.folds in
    subst P (sym live.are)
    (record {
      rise =
          all_flat (λ (stop : ℕ). Unit {0}) (IsRising departure_total) (sources_at t (map (live_feed t) fs) asked) (λ stop any. stop_rises t asked stop fs)
          (stops_of t asked.stop) (anything (stops_of t asked.stop));
    })
