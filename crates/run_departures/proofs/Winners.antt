-- The update that counts for a run, of all feeds of a schedule: the greatest of those that count in each feed; and the
-- feed that has it.
use Rattle.std.proofs.Common.{◌≡◌, ℕ, ◌+◌, ◌≤◌, Bool, true, false, cond, nat_eq, Option, Some, List, [], ◌∷◌, map, filter, refl, sym, ap, ◌∙◌, arith}
use Rattle.std.specs.Cmp.{IsTotalOrder}
use Rattle.std.specs.Cmp.Lexicographic.{slice_cmp}
use Rattle.std.specs.List.{AllByRecursion, filter_map}
use Rattle.std.specs.Option.{option_and_then, option_map}
use Rattle.std.specs.Ordering.{is_gt, nat_cmp, ordering_then}
use Rattle.std.specs.declared.cmp.Ordering.{Ordering}
use Rattle.std.proofs.lemmas.Bool.{ne_eqb}
use Rattle.std.proofs.lemmas.Bool.Decides.{nat_tests}
use Rattle.std.proofs.lemmas.Cmp.{on_total, then_total, back_total, nat_cmp_total, nat_list_cmp_total, tied_itself}
use Rattle.rt_types.specs.declared.trip_update.TripUpdate.{TripUpdate}
use Rattle.feed_defs.specs.declared.history.Stored.{Stored}
use Rattle.feed_defs.specs.History.{Change as EntityChange}
use Rattle.sched_types.specs.declared.plans.NamedFeed.{NamedFeed}
use Rattle.sched_types.specs.declared.rows.Run.{Run}
use Rattle.sched_types.specs.Timetable.{Timetable}
use Rattle.order.specs.Order.{greatest}
use Rattle.order.proofs.Lists.{filter_map_same}
use Rattle.order.proofs.OrderedMap.{map_greatest}
use Rattle.board_defs.specs.Choice.{Update, choice_cmp, chosen, if_counting, is_about, update_at, update_of}
use Rattle.board_defs.specs.Feeds.{HubFeed, counts_at, feeds_from, held_as, held_by, held_in, is_of_schedule, schedule_feeds}
use Rattle.board_defs.specs.Fold.{FeedFold}
use Rattle.run_overlay.specs.Kept.{overlay_of, told_update}
use Rattle.run_overlay.specs.Updates.{held_alone, update_alone, updates_of}
use Rattle.run_overlay.proofs.Read.{chosen_is}
use Rattle.run_departures.specs.Bids.{Bid, bid_by, bid_cmp, bid_of, live_feed, winner}
use Rattle.run_departures.proofs.Apart.{AreApart}
use Rattle.run_departures.proofs.Fusion.{given_of_map, filter_of_given, map_of_given, given_flat, filter_flat, filter_of_map, filter_turned, all_filter}
use Rattle.run_departures.proofs.Greatests.{passing, greatest_flat, greatest_upward}
use Rattle.run_departures.proofs.Merging.{all_weaker}

-- ---- updates under the number of their feed

-- an update under a feed's number
abbrev pub renumbered : ℕ → Update → Update
renumbered number u = record { stamp = u.stamp; feed = number; id = u.id; update = u.update }

-- in one feed the later update counts more, and then that of the greater id
abbrev own_cmp : Update → Update → Ordering
own_cmp a b = ordering_then (nat_cmp a.stamp b.stamp) (slice_cmp nat_cmp a.id b.id)

own_order : (number : ℕ) (a b : Update) → choice_cmp (renumbered number a) (renumbered number b) ≡ own_cmp a b
own_order number a b = grind (arith, nat_cmp_total, tied_itself)

greatest_renumbered : (number : ℕ) (us : List Update) → greatest choice_cmp (map (renumbered number) us) ≡ option_map (renumbered number) (greatest own_cmp us)
greatest_renumbered number us = sym (map_greatest (renumbered number) own_cmp choice_cmp (own_order number) us)

-- those of a feed alone have the number 0
alone_numbered : (s : Stored) (given : Option TripUpdate) → option_map (renumbered 0) (update_of (held_alone s) given) ≡ update_of (held_alone s) given
alone_numbered s given = grind arith

all_alone : (entities : List EntityChange) → map (renumbered 0) (updates_of entities) ≡ updates_of entities
unfolding updates_of
all_alone entities = grind (arith, alone_numbered, filter_map_same, map_of_given)

-- ---- of one feed

pub choice_total : IsTotalOrder choice_cmp
choice_total =
    then_total (on_total (λ (u : Update). u.stamp) nat_cmp_total)
    (then_total (on_total (λ (u : Update). u.feed) (back_total nat_cmp_total)) (on_total (λ (u : Update). u.id) nat_list_cmp_total))

not_later : (a b : ℕ) (r : Ordering) → is_gt (ordering_then (nat_cmp a b) r) ≡ false → a ≤ b
not_later a b r up = grind arith

-- what has a later stamp counts as well
counts_later : (max_age a b at : ℕ) → a ≤ b → counts_at max_age a at ≡ true → counts_at max_age b at ≡ true
counts_later max_age a b at up counts = grind (arith, nat_tests)

module _ (t : Timetable) (at : ℕ) (run : Run) where
  abbrev pub counting : HubFeed → Update → Bool
  counting one u = counts_at one.feed.max_age u.stamp at

  counting_up : (one : HubFeed) (x y : Update) → is_gt (choice_cmp x y) ≡ false → counting one x ≡ true → counting one y ≡ true
  counting_up one x y up counts = grind (arith, counts_later, not_later)

  -- the update of a feed that counts for the run, if it is not too old
  abbrev pub best_of : HubFeed → Option Update
  best_of one = passing (counting one) (option_map (renumbered one.number) (chosen t (updates_of one.fold.entities) run))

  held_numbered : (one : HubFeed) (c : EntityChange) (given : Option TripUpdate) → if_counting at (held_as one c) (update_of (held_as one c) given)
      ≡ passing (counting one) (option_map (renumbered one.number) (update_of (held_alone c.1) given))
  held_numbered one c given = grind arith

  updates_by : (one : HubFeed) → filter_map (update_at at) (held_by one) ≡ filter (counting one) (map (renumbered one.number) (updates_of one.fold.entities))
  unfolding updates_of
  updates_by one =
      let entities = one.fold.entities in
      given_of_map (update_at at) (held_as one) entities
      ∙ filter_map_same (λ (c : EntityChange). update_at at (held_as one c)) (λ c. passing (counting one) (option_map (renumbered one.number) (update_alone c.1))) entities (λ c. held_numbered one c c.1.entity.trip_update)
      ∙ sym (filter_of_given (counting one) (λ (c : EntityChange). option_map (renumbered one.number) (update_alone c.1)) entities)
      ∙ ap (filter (counting one)) (sym (map_of_given (renumbered one.number) (λ (c : EntityChange). update_alone c.1) entities))

  about_renumbered : (number : ℕ) (us : List Update) → greatest choice_cmp (filter (is_about t run) (map (renumbered number) us)) ≡ option_map (renumbered number) (greatest own_cmp (filter (is_about t run) us))
  about_renumbered number us = grind (arith, filter_of_map, greatest_renumbered)

  chosen_alone : (entities : List EntityChange) → chosen t (updates_of entities) run ≡ option_map (renumbered 0) (greatest own_cmp (filter (is_about t run) (updates_of entities)))
  unfolding chosen
  chosen_alone entities =
      ap (λ us. greatest choice_cmp (filter (is_about t run) us)) (sym (all_alone entities))
      ∙ about_renumbered 0 (updates_of entities)

  numbered_once : (number : ℕ) (best : Option Update) → option_map (renumbered number) (option_map (renumbered 0) best) ≡ option_map (renumbered number) best
  numbered_once number best = grind arith

  best_is : (one : HubFeed) → greatest choice_cmp (filter (is_about t run) (filter_map (update_at at) (held_by one))) ≡ best_of one
  best_is one =
      let us = updates_of one.fold.entities in
      let all = map (renumbered one.number) us in
      ap (λ xs. greatest choice_cmp (filter (is_about t run) xs)) (updates_by one)
      ∙ ap (greatest choice_cmp) (filter_turned (is_about t run) (counting one) all)
      ∙ sym (greatest_upward choice_total (counting one) (counting_up one) (filter (is_about t run) all))
      ∙ ap (passing (counting one))
      (about_renumbered one.number us
      ∙ sym (numbered_once one.number (greatest own_cmp (filter (is_about t run) us)))
      ∙ ap (option_map (renumbered one.number)) (sym (chosen_alone one.fold.entities)))

  -- ---- of several feeds

  pub best_of_all : (fs : List HubFeed) → chosen t (filter_map (update_at at) (held_in fs)) run ≡ greatest choice_cmp (filter_map best_of fs)
  unfolding chosen
  best_of_all fs =
      ap (λ us. greatest choice_cmp (filter (is_about t run) us)) (given_flat (update_at at) held_by fs)
      ∙ ap (greatest choice_cmp) (filter_flat (is_about t run) (λ one. filter_map (update_at at) (held_by one)) fs)
      ∙ greatest_flat choice_total (λ one. filter (is_about t run) (filter_map (update_at at) (held_by one))) fs
      ∙ ap (greatest choice_cmp) (filter_map_same (λ one. greatest choice_cmp (filter (is_about t run) (filter_map (update_at at) (held_by one)))) best_of fs best_is)

  -- what a feed has for a run is read off its update
  abbrev pub bid_from : Update → Bid
  bid_from u = record { stamp = u.stamp; number = u.feed; id = u.id }

  bid_read : (one : HubFeed) (best : Option Update) → option_and_then (bid_by at (live_feed t one)) (option_map told_update best) ≡ option_map bid_from (passing (counting one) (option_map (renumbered one.number) best))
  bid_read one best = grind arith

  bid_is : (one : HubFeed) → bid_of at run (live_feed t one) ≡ option_map bid_from (best_of one)
  bid_is one =
      ap (option_and_then (bid_by at (live_feed t one))) (chosen_is t one.fold.entities (overlay_of t one.fold.entities) refl run)
      ∙ bid_read one (chosen t (updates_of one.fold.entities) run)

  -- the winner is the update that counts for the run, of all that count at the moment
  pub winner_is : (fs : List HubFeed) → winner at (map (live_feed t) fs) run ≡ option_map bid_from (chosen t (filter_map (update_at at) (held_in fs)) run)
  unfolding winner
  winner_is fs =
      ap (greatest bid_cmp)
      (given_of_map (bid_of at run) (live_feed t) fs
      ∙ filter_map_same (λ one. bid_of at run (live_feed t one)) (λ one. option_map bid_from (best_of one)) fs bid_is
      ∙ sym (map_of_given bid_from best_of fs))
      ∙ sym (map_greatest bid_from choice_cmp bid_cmp (λ x y. refl) (filter_map best_of fs))
      ∙ ap (option_map bid_from) (sym (best_of_all fs))

  -- ---- whose it is

  -- it has the number of its feed
  own_of : (one : HubFeed) (given : Option Update) (u : Update) → passing (counting one) (option_map (renumbered one.number) given) ≡ Some u → u.feed ≡ one.number
  own_of one given u is = grind arith

  pub own_number : (one : HubFeed) (u : Update) → best_of one ≡ Some u → u.feed ≡ one.number
  own_number one u is = own_of one (chosen t (updates_of one.fold.entities) run) u is

-- ---- feeds have different numbers

from_first : (first : ℕ) (named : List NamedFeed) (folds : List FeedFold) → AllByRecursion (λ (one : HubFeed). first ≤ one.number) (feeds_from first named folds)
from_first first [] folds = tt
from_first first (feed ∷ named) [] = tt
from_first first (feed ∷ named) (fold ∷ folds) =
    let here : first ≤ first = omega arith in
    (here, all_weaker (λ (one : HubFeed). first + 1 ≤ one.number) (λ one. first ≤ one.number) (λ one h. omega (arith, h)) (feeds_from (first + 1) named folds) (from_first (first + 1) named folds))

abbrev pub number_of_feed : HubFeed → ℕ
number_of_feed one = one.number

apart_from : (p first : ℕ) (named : List NamedFeed) (folds : List FeedFold) → AreApart number_of_feed (filter (is_of_schedule p) (feeds_from first named folds))
apart_from p first [] folds = tt
apart_from p first (feed ∷ named) [] = tt
apart_from p first (feed ∷ named) (fold ∷ folds) =
    by_test (nat_eq feed.plan p) (apart_from p (first + 1) named folds)
  where
    by_test : (b : Bool) → AreApart number_of_feed (filter (is_of_schedule p) (feeds_from (first + 1) named folds))
        → AreApart number_of_feed (cond b (record { number = first; feed = feed; fold = fold } ∷ filter (is_of_schedule p) (feeds_from (first + 1) named folds)) (filter (is_of_schedule p) (feeds_from (first + 1) named folds)))
    by_test true rest = (
      all_weaker (λ (g : HubFeed). first + 1 ≤ g.number) (λ g. nat_eq g.number first ≡ false) (λ g h. ne_eqb g.number first (λ e. omega (arith, h, e)))
          (filter (is_of_schedule p) (feeds_from (first + 1) named folds))
          (all_filter (λ (g : HubFeed). first + 1 ≤ g.number) (is_of_schedule p) (feeds_from (first + 1) named folds) (from_first (first + 1) named folds)),
      rest,
    )
    by_test false rest = rest

pub feeds_apart : (p : ℕ) (named : List NamedFeed) (folds : List FeedFold) → AreApart number_of_feed (schedule_feeds p named folds)
feeds_apart p named folds = apart_from p 0 named folds
