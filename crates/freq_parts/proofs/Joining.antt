-- The trips that rows name, the others and the derived ones can be listed together.
use Rattle.std.proofs.Common.{◌≡◌, ℕ, zero, suc, ◌+◌, ◌<◌, ◌≤◌, Bool, true, false, cond, ◌||◌, List, [], ◌∷◌, ◌++◌, length, map, filter, zip, count_by, get_or, slice_get, Option, Some, None, unwrap_or, refl, sym, ap, ◌∙◌, arith}
use Rattle.std.specs.Cmp.Lexicographic.{slice_cmp, same_text}
use Rattle.std.specs.Ordering.{nat_cmp, is_eq}
use Rattle.std.specs.Str.{bytes_eq}
use Rattle.std.specs.List.{All, flat_map, enumerate_from}
use Rattle.std.specs.Option.{option_map}
use Rattle.std.specs.declared.cmp.Ordering.TheVariants.{Less}
use Rattle.std.proofs.lemmas.Cmp.{nat_list_eq_equiv}
use Rattle.std.proofs.lemmas.List.{length-append, length-map}
use Rattle.std.proofs.lemmas.List.Elements.{All-nil, All-cons, All-head, All-tail, All-map, All-filter}
use Rattle.std.proofs.lemmas.List.Concat.{flat_map-cons}
use Rattle.std.proofs.lemmas.List.Folds.{list_any_at}
use Rattle.std.proofs.lemmas.List.Sums.{length-filter, count_by-le-length}
use Rattle.std.proofs.lemmas.Option.{none-some, same_Some, slice_get-map, slice_get-get_or, slice_get_within}
use Rattle.order.proofs.Counts.{one, count-cons, count-map}
use Rattle.freq_runs.specs.declared.rows.Pattern.{Pattern}
use Rattle.freq_runs.specs.declared.rows.Derived.{Derived}
use Rattle.freq_runs.specs.Trips.{IsRow, derived_id, times_from, time_end}
use Rattle.freq_runs.specs.Faults.{ids_of, comes_again}
use Rattle.gtfs_rows.specs.declared.rows.FrequencyRow.{FrequencyRow}
use Rattle.sched_types.specs.declared.rows.Trip.{Trip}
use Rattle.sched_types.specs.declared.rows.Place.{Place}
use Rattle.sched_types.specs.Timetable.{Timetable, IsTimetable, RisesById, number_of}
use Rattle.sched_types.proofs.TimetableLaws.{number_leads}
use Rattle.sched_load_defs.specs.References.{has_id}
use Rattle.sched_load_defs.specs.Numbers.{known_number}
use Rattle.sched_load_defs.specs.Frequencies.{TimedTrip, id_of, timed_trips, is_named, place_time, pattern_of, frequency_of, at_time, trip_of_pattern, timed_of, start_cmp}
use Rattle.sched_load_defs.proofs.Listing.{equal_is}
use Rattle.freq_parts.specs.Conditions.{IsPlain, IsRowOf}
use Rattle.freq_parts.specs.Differ.{Differ}
use Rattle.freq_parts.specs.Joined.{key_of, CanJoin}
use Rattle.freq_parts.proofs.Zipped.{zip_first}
use Rattle.freq_parts.proofs.Apart.{there_once, all_differ}
use Rattle.freq_parts.proofs.Sorting.{start_same}
use Rattle.freq_parts.proofs.Derivation.{IsOf, AreDerived, few_derived}
use Rattle.freq_parts.proofs.Fitting.{FitsIn, all_at, all_fit, timed_rise}

-- ---- trips whose ids rise

rises_then : (x : TimedTrip) (xs : List TimedTrip) → All (λ y. slice_cmp nat_cmp (id_of x) (id_of y) ≡ Less) xs → RisesById id_of xs → RisesById id_of (x ∷ xs)
rises_then x xs above up = record { rise = rise }
  where
    rise : (i j : ℕ) (a b : TimedTrip) → i < j → slice_get (x ∷ xs) i ≡ Some a → slice_get (x ∷ xs) j ≡ Some b → slice_cmp nat_cmp (id_of a) (id_of b) ≡ Less
    rise i zero a b l at then = absurd (omega (arith, l))
    rise zero (suc j) a b l at then =
        ap (λ z. slice_cmp nat_cmp (id_of z) (id_of b)) (sym (same_Some x a at))
        ∙ all_at (λ y. slice_cmp nat_cmp (id_of x) (id_of y) ≡ Less) xs j b then above
    rise (suc i) (suc j) a b l at then = up.rise i j a b (omega (arith, l)) at then

pub rises_filter : (test : TimedTrip → Bool) (xs : List TimedTrip) → RisesById id_of xs → RisesById id_of (filter test xs)
rises_filter test [] up = up
rises_filter test (x ∷ xs) up =
    let later : RisesById id_of xs = record { rise = λ i j a b l at then. up.rise (suc i) (suc j) a b (omega (arith, l)) at then } in
    let above : All (λ y. slice_cmp nat_cmp (id_of x) (id_of y) ≡ Less) xs = λ k d l. up.rise 0 (suc k) x (get_or xs k d) (omega arith) refl (slice_get-get_or xs k d l) in
    by (test x) (rises_filter test xs later) above
  where
    by : (b : Bool) → RisesById id_of (filter test xs) → All (λ y. slice_cmp nat_cmp (id_of x) (id_of y) ≡ Less) xs → RisesById id_of (cond b (x ∷ filter test xs) (filter test xs))
    by true rest above = rises_then x (filter test xs) (All-filter test (λ y. slice_cmp nat_cmp (id_of x) (id_of y) ≡ Less) xs above) rest
    by false rest above = rest

pub few_filtered : (test : TimedTrip → Bool) (xs : List TimedTrip) → length (filter test xs) ≤ length xs
few_filtered test xs = omega (arith, length-filter test xs, count_by-le-length test xs)

-- ---- rows

-- a trip that is named stands among those that pass
named_there : (wanted : List ℕ) (test : TimedTrip → Bool) → ((timed : TimedTrip) → id_of timed ≡ wanted → test timed ≡ true) → (trips : List Trip) (places : List (List Place)) → length places ≡ length trips
    → has_id (λ (trip : Trip). trip.id) trips wanted ≡ true → 0 < length (filter test (zip trips places))
named_there wanted test passes [] places e is = absurd cc
named_there wanted test passes (trip ∷ trips) [] e is = absurd (omega (arith, e))
named_there wanted test passes (trip ∷ trips) (own ∷ places) e is =
    by (bytes_eq trip.id wanted) refl is (named_there wanted test passes trips places (omega (arith, e)))
  where
    rest : List TimedTrip
    rest = filter test (zip trips places)

    more : (b : Bool) → 0 < length (filter test (zip trips places)) → 0 < length (cond b ((trip, own) ∷ filter test (zip trips places)) (filter test (zip trips places)))
    more true l = omega arith
    more false l = l

    here : (b : Bool) → b ≡ true → 0 < length (cond b ((trip, own) ∷ filter test (zip trips places)) (filter test (zip trips places)))
    here true is = omega arith
    here false is = absurd cc

    by : (b : Bool) → bytes_eq trip.id wanted ≡ b → (b || has_id (λ (t : Trip). t.id) trips wanted) ≡ true → (has_id (λ (t : Trip). t.id) trips wanted ≡ true → 0 < length (filter test (zip trips places)))
        → 0 < length (cond (test (trip, own)) ((trip, own) ∷ filter test (zip trips places)) (filter test (zip trips places)))
    by true same is later = here (test (trip, own)) (passes (trip, own) (same_text trip.id wanted (sym same)))
    by false same is later = more (test (trip, own)) (later is)

pub known_within : (timed : List TimedTrip) (id : List ℕ) → 0 < length timed → known_number id_of timed id < length timed
known_within timed id some = by (number_of id_of timed id) refl
  where
    by : (found : Option ℕ) → number_of id_of timed id ≡ found → unwrap_or found 0 < length timed
    by None is = some
    by (Some n) is = let leads = number_leads id_of timed id n is in slice_get_within timed n leads.row leads.at

record Names (t : Timetable) (rows : List FrequencyRow) (row : FrequencyRow) : Type 0 where
  pub row_of : IsRowOf t row
  pub known : has_id (λ (r : FrequencyRow). r.trip_id) rows row.trip_id ≡ true

all_name : (t : Timetable) (rows : List FrequencyRow) → All (IsRowOf t) rows → All (Names t rows) rows
all_name t rows are k d l = record {
  row_of = are k d l;
  known = list_any_at (λ (r : FrequencyRow). bytes_eq r.trip_id (get_or rows k d).trip_id) rows k d l (nat_list_eq_equiv.refl (get_or rows k d).trip_id);
}

all_numbered : {X : Type 0} (P : X → Type 0) (a : ℕ) (xs : List X) → All P xs → All (λ (e : ℕ × X). P e.1) (enumerate_from a xs)
all_numbered P a [] all = All-nil (λ e. P e.1)
all_numbered P a (x ∷ xs) all = All-cons (λ e. P e.1) (a, x) (enumerate_from (a + 1) xs) (All-head P x xs all) (all_numbered P (a + 1) xs (All-tail P x xs all))

pub are_rows : (t : Timetable) (rows : List FrequencyRow) → IsTimetable t → All (IsRowOf t) rows
    → All (IsRow (length (filter (is_named rows) (timed_trips t)))) (map (frequency_of (filter (is_named rows) (timed_trips t))) (enumerate_from 0 rows))
are_rows t rows sound are =
    let patterns = filter (is_named rows) (timed_trips t) in
    All-map (IsRow (length patterns)) (frequency_of patterns) (enumerate_from 0 rows)
    (λ k d l.
    let row = (get_or (enumerate_from 0 rows) k d).1 in
    let names : Names t rows row = all_numbered (Names t rows) 0 rows (all_name t rows are) k d l in
    let there = named_there row.trip_id (is_named rows) (λ timed e. ap (has_id (λ (r : FrequencyRow). r.trip_id) rows) e ∙ names.known) t.trips t.places sound.places_each names.row_of.trip_is in
    record {
      pattern_is = known_within patterns row.trip_id there;
      headway_is = (names.row_of).headway_is;
      start_is = (names.row_of).start_is;
      end_is = (names.row_of).end_is;
    })

-- ---- derived trips with their patterns

-- the pattern that a derived trip has
pub record Has (patterns : List TimedTrip) (derived : Derived) : Type 0 where
  pub timed : TimedTrip
  pub at : slice_get patterns derived.pattern ≡ Some timed
  pub is : timed_of patterns derived ≡ (record timed.0 { id = derived.id }, map at_time (zip timed.1 derived.times)) ∷ []
  pub times : derived.times ≡ times_from (map place_time timed.1) derived.start
  pub early : derived.start < time_end

pub has : (patterns : List TimedTrip) (derived : Derived) → IsOf (map pattern_of patterns) derived → Has patterns derived
has patterns derived of = by (slice_get patterns derived.pattern) refl (sym (slice_get-map pattern_of patterns derived.pattern) ∙ of.at)
  where
    by : (found : Option TimedTrip) → slice_get patterns derived.pattern ≡ found → option_map pattern_of found ≡ Some of.pattern → Has patterns derived
    by None is e = absurd (none-some of.pattern e)
    by (Some (trip, places)) is e =
        let own : pattern_of (trip, places) ≡ of.pattern = same_Some (pattern_of (trip, places)) of.pattern e in
        record {
          timed = (trip, places);
          at = is;
          is = ap (trip_of_pattern derived) is;
          times = ap (λ (d : Derived). d.times) of.is ∙ ap (λ (p : Pattern). times_from p.times derived.start) (sym own);
          early = of.early;
        }

pub flat_ids : (patterns : List TimedTrip) (derived : List Derived) → All (IsOf (map pattern_of patterns)) derived → map id_of (flat_map (timed_of patterns) derived) ≡ ids_of derived
flat_ids patterns [] all = refl
flat_ids patterns (one ∷ derived) all =
    let own = has patterns one (All-head (IsOf (map pattern_of patterns)) one derived all) in
    ap (map id_of) (flat_map-cons (timed_of patterns) one derived ∙ ap (λ ts. ts ++ flat_map (timed_of patterns) derived) own.is)
    ∙ ap (λ ids. one.id ∷ ids) (flat_ids patterns derived (All-tail (IsOf (map pattern_of patterns)) one derived all))

pub length-flat : (patterns : List TimedTrip) (derived : List Derived) → All (IsOf (map pattern_of patterns)) derived → length (flat_map (timed_of patterns) derived) ≡ length derived
length-flat patterns derived all =
    sym (length-map (flat_map (timed_of patterns) derived) id_of) ∙ ap length (flat_ids patterns derived all) ∙ length-map derived (λ (d : Derived). d.id)

-- ---- no two of one pattern start at once

id_at : List Pattern → ℕ → ℕ → List ℕ
id_at patterns number start = by (slice_get patterns number)
  where
    by : Option Pattern → List ℕ
    by None = []
    by (Some pattern) = derived_id pattern.id start

fewer_one : (a b : Bool) → (a ≡ true → b ≡ true) → one a ≤ one b
fewer_one true true h = omega arith
fewer_one true false h = absurd (let e = h refl in cc)
fewer_one false b h = omega arith

fewer : (p q : Derived → Bool) (xs : List Derived) → All (λ x. p x ≡ true → q x ≡ true) xs → count_by p xs ≤ count_by q xs
fewer p q [] all = omega arith
fewer p q (x ∷ xs) all =
    omega (
      arith,
      count-cons p x xs,
      count-cons q x xs,
      fewer_one (p x) (q x) (All-head (λ y. p y ≡ true → q y ≡ true) x xs all),
      fewer p q xs (All-tail (λ y. p y ≡ true → q y ≡ true) x xs all),
    )

same_key : (wanted key : ℕ × ℕ) → is_eq (start_cmp wanted key) ≡ true → wanted ≡ key
same_key wanted key e = start_same wanted key (equal_is (start_cmp wanted key) e)

own_id : (patterns : List Pattern) (d : Derived) → IsOf patterns d → d.id ≡ id_at patterns d.pattern d.start
unfolding id_at
own_id patterns d of = rw (of.at) (ap (λ (x : Derived). x.id) of.is)

pub starts_differ : (patterns : List Pattern) (taken : List (List ℕ)) (derived : List Derived) → AreDerived patterns taken derived → Differ start_cmp key_of derived
starts_differ patterns taken derived are = record {
  once = λ wanted.
      let id = id_at patterns wanted.0 wanted.1 in
      let same : All (λ (d : Derived). is_eq (start_cmp wanted (key_of d)) ≡ true → bytes_eq d.id id ≡ true) derived =
      λ k x l e.
      let d = get_or derived k x in
      let key = same_key wanted (key_of d) e in
      ap (λ i. bytes_eq i id) (own_id patterns d (are.each k x l) ∙ ap (λ (w : ℕ × ℕ). id_at patterns w.0 w.1) (sym key)) ∙ nat_list_eq_equiv.refl id in
      omega (
        arith,
        fewer (λ d. is_eq (start_cmp wanted (key_of d))) (λ d. bytes_eq d.id id) derived same,
        count-map (λ other. bytes_eq other id) (λ (d : Derived). d.id) derived,
        there_once taken (ids_of derived) id are.apart,
      );
}

-- ---- all together

ids_zipped : (trips : List Trip) (places : List (List Place)) → length places ≡ length trips → map id_of (zip trips places) ≡ map (λ (trip : Trip). trip.id) trips
ids_zipped [] places e = refl
ids_zipped (trip ∷ trips) [] e = absurd (omega (arith, e))
ids_zipped (trip ∷ trips) (own ∷ places) e = ap (λ ids. trip.id ∷ ids) (ids_zipped trips places (omega (arith, e)))

pub length-timed : (t : Timetable) → IsTimetable t → length (timed_trips t) ≡ length t.trips
length-timed t sound = sym (length-map (timed_trips t) (λ z. z.0)) ∙ ap length (zip_first t.trips t.places sound.places_each)

pub can_join : (t : Timetable) (named other : TimedTrip → Bool) (derived : List Derived) → IsPlain t → AreDerived (map pattern_of (filter named (timed_trips t))) (map (λ (trip : Trip). trip.id) t.trips) derived
    → CanJoin (filter named (timed_trips t)) (filter other (timed_trips t)) derived
can_join t named other derived plain are =
    let sound = plain.timetable in
    let patterns = filter named (timed_trips t) in
    let flat = flat_map (timed_of patterns) derived in
    let apart = ap (λ ids. comes_again ids (map id_of flat)) (ids_zipped t.trips t.places sound.places_each) ∙ ap (comes_again (map (λ (trip : Trip). trip.id) t.trips)) (flat_ids patterns derived are.each) ∙ are.apart in
    record {
      ids = all_differ id_of (timed_trips t) flat other (timed_rise t sound) apart;
      starts = starts_differ (map pattern_of patterns) (map (λ (trip : Trip). trip.id) t.trips) derived are;
      few = omega (
        arith,
        length-append (filter other (timed_trips t)) flat,
        few_filtered other (timed_trips t),
        length-timed t sound,
        plain.few_trips,
        length-flat patterns derived are.each,
        few_derived (map pattern_of patterns) derived are.each,
        are.few,
      );
      small = λ k d l. (All-filter named (FitsIn t) (timed_trips t) (all_fit t sound) k d l).places.few;
    }
