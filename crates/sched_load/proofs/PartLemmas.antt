-- The parts of the plan are those of the timetable.
use Rattle.std.proofs.lemmas.Bool.Decides.{nat_tests}
use Rattle.std.proofs.Common.{◌≡◌, ℕ, suc, ◌+◌, ◌≤◌, Bool, true, cond, List, [], ◌∷◌, length, map, refl, sym, ap, ◌∙◌, subst, arith, nat_cmp}
use Rattle.std.specs.Prelude.{slice_get, Option, Some, None, option_map, unwrap_or, filter, find, zip, bytes_eq, if◌then◌else◌, ◌==◌}
use Rattle.std.specs.List.{range_with_len}
use Rattle.std.specs.Cmp.Lexicographic.{slice_cmp}
use Rattle.std.specs.FinMap.Entries.{find as find_at}
use Rattle.std.proofs.lemmas.Cmp.{nat_cmp_total}
use Rattle.std.proofs.lemmas.List.{length-map}
use Rattle.std.proofs.lemmas.Option.{none-some as none_some, slice_get-map}
use Rattle.gtfs_rows.specs.declared.rows.AgencyRow.{AgencyRow}
use Rattle.gtfs_rows.specs.declared.rows.CalendarRow.{CalendarRow}
use Rattle.gtfs_rows.specs.declared.rows.ExceptionRow.{ExceptionRow}
use Rattle.gtfs_rows.specs.declared.rows.StopTimeRow.{StopTimeRow}
use Rattle.gtfs_rows.specs.declared.rows.TripRow.{TripRow}
use Rattle.std.specs.Prelude.{ℤ}
use Rattle.gtfs_rows.specs.Tables.{agency, stop_times}
use Rattle.service_day.specs.Zone.{TzText, base_of}
use Rattle.sched_types.specs.declared.rows.Stop.{Stop}
use Rattle.sched_types.specs.declared.rows.Route.{Route}
use Rattle.sched_types.specs.declared.rows.Trip.{Trip}
use Rattle.sched_types.specs.declared.rows.Place.{Place}
use Rattle.sched_types.specs.declared.rows.PlanPattern.{PlanPattern}
use Rattle.sched_types.specs.declared.rows.PlanDerived.{PlanDerived}
use Rattle.text_defs.specs.Dates.{date_plus}
use Rattle.service_day.specs.Service.{exception_on, is_active}
use Rattle.service_day.specs.declared.services.Exception.{Exception}
use Rattle.sched_types.specs.Timetable.{number_of}
use Rattle.sched_types.proofs.TimetableLaws.{number_leads, own_number}
use Rattle.sched_load_defs.specs.declared.fault.File.TheVariants as file
use Rattle.sched_load_defs.specs.Numbers.{Dataset, agency_ids, agency_of, by_id, timetable_of, place_of, places_with, route_of, route_rows, service_ids, stop_of, stop_rows, stop_times_of, trip_of, trip_rows}
use Rattle.sched_load_defs.specs.Services.{active_days, calendar_of, exceptions_of, is_active_by}
use Rattle.sched_load_defs.specs.Times.{Times}
use Rattle.sched_load_defs.proofs.Listing.{find_keyed}
use Rattle.sched_load.specs.declared.visits.Visit.{Visit}
use Rattle.sched_load.specs.Built.{AreSmall, agency_in, places_of_trip, route_in}
use Rattle.sched_load.specs.Course.{place_in, places_in}
use Rattle.std.proofs.lemmas.Option.{get_or_from_slice_get, slice_get_within, slice_get-get_or}
use Rattle.std.proofs.Common.{get_or}
use Rattle.sched_load.specs.Days.{active_by, runs_by}
use Rattle.sched_load.specs.Groups.{exception_of}
use Rattle.sched_load.specs.Groups as groups
use Rattle.sched_load.specs.Listed.{group_of, visit_of}
use Rattle.sched_load_defs.specs.Files.{most_rows}
use Rattle.sched_load.specs.Tables.{IsConsistent}
use Rattle.sched_load.proofs.BuildLemmas.{mapped_at}
use Rattle.sched_load.proofs.ColumnLaws.{AtMost, pickup_types}
use Rattle.sched_load.proofs.Grouping.{turned_eq}
use Rattle.row_tables.proofs.Keyed.{listed_map, listed_short}
use Rattle.sched_load.proofs.Laws.{file_few, file_within}
use Rattle.row_tables.proofs.Numbered.{ids_rise}
use Rattle.sched_load.proofs.Sound.{Each}
use Rattle.std.specs.Prelude.{All}
use Rattle.std.proofs.lemmas.List.Sorted.{All-permutation, length_permutation}
use Rattle.sched_load_defs.specs.References.{unknown_in_stop_time}
use Rattle.sched_load.specs.Visits.{AreArranged}
use Rattle.sched_load.proofs.TripLemmas.{given_rows}
use Rattle.sched_load.proofs.VisitLemmas.{trip_visits}

-- the ids of agencies
pub agency_ids_are : (rows : List AgencyRow) → map (λ row. row.agency_id) (by_id (λ row. row.agency_id) rows) ≡ by_id (λ id. id) (map (λ row. row.agency_id) rows)
agency_ids_are rows = sym (listed_map (slice_cmp nat_cmp) (λ (id : List ℕ). id) (λ (row : AgencyRow). row.agency_id) rows)

-- a number by rows is one by their ids
same_number : (rows : List AgencyRow) (id : List ℕ) → number_of (λ row. row.agency_id) (by_id (λ row. row.agency_id) rows) id ≡ number_of (λ i. i) (by_id (λ i. i) (map (λ row. row.agency_id) rows)) id
same_number rows id = by (number_of (λ (row : AgencyRow). row.agency_id) (by_id (λ row. row.agency_id) rows) id) (number_of (λ (i : List ℕ). i) (by_id (λ i. i) (map (λ (row : AgencyRow). row.agency_id) rows)) id) refl refl
  where
    by : (a b : Option ℕ) → number_of (λ (row : AgencyRow). row.agency_id) (by_id (λ row. row.agency_id) rows) id ≡ a → number_of (λ (i : List ℕ). i) (by_id (λ i. i) (map (λ (row : AgencyRow). row.agency_id) rows)) id ≡ b → number_of (λ (row : AgencyRow). row.agency_id) (by_id (λ row. row.agency_id) rows) id ≡ number_of (λ (i : List ℕ). i) (by_id (λ i. i) (map (λ (row : AgencyRow). row.agency_id) rows)) id
    by (Some n) b e f =
        let l = number_leads (λ (row : AgencyRow). row.agency_id) (by_id (λ row. row.agency_id) rows) id n e in
        let at : slice_get (by_id (λ i. i) (map (λ (row : AgencyRow). row.agency_id) rows)) n ≡ Some id = ap (λ xs. slice_get xs n) (sym (agency_ids_are rows)) ∙ slice_get-map (λ (row : AgencyRow). row.agency_id) (by_id (λ row. row.agency_id) rows) n ∙ ap (option_map (λ (row : AgencyRow). row.agency_id)) l.at ∙ ap (λ i. Some i) l.has in
        e ∙ sym (own_number (λ (i : List ℕ). i) (by_id (λ i. i) (map (λ (row : AgencyRow). row.agency_id) rows)) (ids_rise (λ (i : List ℕ). i) (map (λ (row : AgencyRow). row.agency_id) rows)) n id at)
    by None None e f = e ∙ sym f
    by None (Some n) e f =
        let l = number_leads (λ (i : List ℕ). i) (by_id (λ i. i) (map (λ (row : AgencyRow). row.agency_id) rows)) id n f in
        let m = mapped_at (λ (row : AgencyRow). row.agency_id) (by_id (λ row. row.agency_id) rows) n l.row (ap (λ xs. slice_get xs n) (agency_ids_are rows) ∙ l.at) in
        let own = own_number (λ (row : AgencyRow). row.agency_id) (by_id (λ row. row.agency_id) rows) (ids_rise (λ (row : AgencyRow). row.agency_id) rows) n m.0 m.1 in
        absurd (none_some n (sym e ∙ ap (number_of (λ (row : AgencyRow). row.agency_id) (by_id (λ row. row.agency_id) rows)) (sym (m.2 ∙ l.has)) ∙ own))

pub agency_is : (d : Dataset) (id : List ℕ) → agency_in d.agencies id ≡ agency_of d id
agency_is d id = ap (λ n. if bytes_eq id [] then (if length d.agencies == 1 then Some 0 else None) else n) (same_number d.agencies id)

-- the places of a trip
zip_visits : (d : Dataset) (rows : List StopTimeRow) (ts : List Times) → map place_in (zip (map (visit_of d.trips d.stops) rows) ts) ≡ map (place_of d) (zip rows ts)
zip_visits d [] ts = refl
zip_visits d (row ∷ rows) [] = refl
zip_visits d (row ∷ rows) (t ∷ ts) = ap (λ rest. place_of d (row, t) ∷ rest) (zip_visits d rows ts)

places_one : (d : Dataset) (rows : List StopTimeRow) → places_in (map (visit_of d.trips d.stops) rows) ≡ places_with d rows
places_one d rows = grind (arith, given_rows, zip_visits)

range_map : {X Y : Type 0} (f : ℕ → Y) (h : X → Y) (a : ℕ) (xs : List X) → ((i : ℕ) (x : X) → slice_get xs i ≡ Some x → f (a + i) ≡ h x) → map f (range_with_len a (length xs)) ≡ map h xs
range_map f h a [] same = refl
range_map f h a (x ∷ xs) same =
    let here : a + 0 ≡ a = omega arith in
    ap (λ y. y ∷ map f (range_with_len (a + 1) (length xs))) (sym (ap f here) ∙ same 0 x refl)
    ∙ ap (λ ys. h x ∷ ys) (range_map f h (a + 1) xs (λ i z at. let next : a + 1 + i ≡ a + suc i = omega arith in ap f next ∙ same (suc i) z at))

pub places_are : (d : Dataset) (visits : List Visit) → ((i : ℕ) (row : StopTimeRow) → slice_get d.stop_times i ≡ Some row → unknown_in_stop_time d.trips d.stops row ≡ None) → AreArranged (map (visit_of d.trips d.stops) d.stop_times) visits
    → map (places_of_trip visits) (range_with_len 0 (length (trip_rows d))) ≡ map (λ trip. places_with d (stop_times_of d.stop_times trip.trip_id)) (trip_rows d)
places_are d visits known arranged =
    range_map (places_of_trip visits) (λ (trip : TripRow). places_with d (stop_times_of d.stop_times trip.trip_id)) 0 (trip_rows d)
    (λ i trip at.
    let here : 0 + i ≡ i = omega arith in
    ap (places_of_trip visits) here
    ∙ ap places_in (trip_visits d.trips d.stops d.stop_times visits known arranged trip.trip_id i (own_number (λ (t : TripRow). t.trip_id) (trip_rows d) (ids_rise (λ (t : TripRow). t.trip_id) d.trips) i trip at))
    ∙ places_one d (stop_times_of d.stop_times trip.trip_id))

-- the days of a service
find_alike : {X : Type 0} (p q : X → Bool) (xs : List X) → ((x : X) → p x ≡ q x) → find p xs ≡ find q xs
find_alike p q [] same = refl
find_alike p q (x ∷ xs) same = ap (λ b. cond b (Some x) (find p xs)) (same x) ∙ ap (cond (q x) (Some x)) (find_alike p q xs same)

filter_alike : {X : Type 0} (p q : X → Bool) (xs : List X) → ((x : X) → p x ≡ q x) → filter p xs ≡ filter q xs
filter_alike p q [] same = refl
filter_alike p q (x ∷ xs) same = ap (λ b. cond b (x ∷ filter p xs) (filter p xs)) (same x) ∙ ap (λ ys. cond (q x) (x ∷ ys) ys) (filter_alike p q xs same)

runs_is : (row : Option CalendarRow) (exceptions : List Exception) (date : ℕ) → runs_by row (exception_on date exceptions) date ≡ is_active_by row exceptions date
unfolding is_active
runs_is row exceptions date = grind arith

found_is : (rows : List ExceptionRow) (id : List ℕ) (date : ℕ) → find_at nat_cmp date (group_of (λ row. row.service_id) (λ e. e.date) exception_of rows id) ≡ exception_on date (exceptions_of rows id)
found_is rows id date = grind (arith, find_alike, find_keyed, nat_cmp_total, turned_eq, nat_tests)

active_one : (calendar : List CalendarRow) (rows : List ExceptionRow) (first days : ℕ) (id : List ℕ) → active_by calendar first days (id, group_of (λ row. row.service_id) (λ e. e.date) exception_of rows id) ≡ active_days calendar rows first days id
active_one calendar rows first days id =
    filter_alike (λ day. runs_by (calendar_of calendar id) (find_at nat_cmp (date_plus first day) (group_of (λ row. row.service_id) (λ e. e.date) exception_of rows id)) (date_plus first day)) (λ day. is_active_by (calendar_of calendar id) (exceptions_of rows id) (date_plus first day)) (range_with_len 0 days)
    (λ day. ap (λ o. runs_by (calendar_of calendar id) o (date_plus first day)) (found_is rows id (date_plus first day)) ∙ runs_is (calendar_of calendar id) (exceptions_of rows id) (date_plus first day))

pub active_are : (calendar : List CalendarRow) (rows : List ExceptionRow) (first days : ℕ) (ids : List (List ℕ)) → map (active_by calendar first days) (zip ids (groups.exceptions_of ids rows)) ≡ map (active_days calendar rows first days) ids
active_are calendar rows first days [] = refl
active_are calendar rows first days (id ∷ ids) = ap (λ x. x ∷ map (active_by calendar first days) (zip ids (groups.exceptions_of ids rows))) (active_one calendar rows first days id) ∙ ap (λ xs. active_days calendar rows first days id ∷ xs) (active_are calendar rows first days ids)

-- groups of stop times are small
pub filter_short : {X : Type 0} (p : X → Bool) (xs : List X) → length (filter p xs) ≤ length xs
filter_short p [] = omega arith
filter_short p (x ∷ xs) = grind (arith, filter_short p xs)

pickup_small : (o : Option ℕ) → AtMost 3 o → unwrap_or o 0 ≤ 3
pickup_small o h = grind arith

map_each : {A B : Type 0} (P : A → Type 0) (Q : B → Type 0) (f : A → B) (xs : List A) → ((x : A) → P x → Q (f x)) → Each P xs → Each Q (map f xs)
map_each P Q f xs g h = λ i y at. let m = mapped_at f xs i y at in subst Q m.2 (g m.0 (h i m.0 m.1))

pub all_each : {X : Type 0} (P : X → Type 0) (xs : List X) → All P xs → (i : ℕ) (x : X) → slice_get xs i ≡ Some x → P x
all_each P xs h i x at = subst P (get_or_from_slice_get xs i x x at) (h i x (slice_get_within xs i x at))

pub each_all : {X : Type 0} (P : X → Type 0) (xs : List X) → ((i : ℕ) (x : X) → slice_get xs i ≡ Some x → P x) → All P xs
each_all P xs h = λ k d l. h k (get_or xs k d) (slice_get-get_or xs k d l)

pub visits_small : (d : Dataset) (visits : List Visit) → IsConsistent d → AreArranged (map (visit_of d.trips d.stops) d.stop_times) visits → AreSmall visits
visits_small d visits c arranged = record {
  few =
      let same = length_permutation (map (visit_of d.trips d.stops) d.stop_times) visits arranged.same in
      let long = length-map d.stop_times (visit_of d.trips d.stops) in
      let rows = file_few true file.StopTimes stop_times c.stop_times_of.0 d.stop_times c.stop_times_of.1 in
      omega (arith, same, long, rows);
  pickups = all_each (λ (visit : Visit). visit.pickup ≤ 3) visits
      (All-permutation (λ (visit : Visit). visit.pickup ≤ 3) (map (visit_of d.trips d.stops) d.stop_times) visits arranged.same
      (each_all (λ (visit : Visit). visit.pickup ≤ 3) (map (visit_of d.trips d.stops) d.stop_times)
      (map_each (λ (row : StopTimeRow). AtMost 3 row.pickup_type) (λ (visit : Visit). visit.pickup ≤ 3) (visit_of d.trips d.stops) d.stop_times (λ row h. pickup_small row.pickup_type h)
      (file_within true file.StopTimes stop_times (λ row. AtMost 3 row.pickup_type) pickup_types c.stop_times_of.0 d.stop_times c.stop_times_of.1))));
}

map_same : {A B : Type 0} (f g : A → B) (xs : List A) → ((x : A) → f x ≡ g x) → map f xs ≡ map g xs
map_same f g [] same = refl
map_same f g (x ∷ xs) same = ap (λ y. y ∷ map f xs) (same x) ∙ ap (λ ys. g x ∷ ys) (map_same f g xs same)

pub routes_are : (d : Dataset) → map (route_in d.agencies) (by_id (λ row. row.route_id) d.routes) ≡ map (route_of d) (route_rows d)
routes_are d = map_same (route_in d.agencies) (route_of d) (route_rows d) (λ row. ap (λ a. record { id = row.route_id; agency = a; short = row.route_short_name; long = row.route_long_name; kind = row.route_type }) (agency_is d row.agency_id))

-- a timetable by its parts
pub table_made : (rule : TzText) (first days : ℕ) (d : Dataset) (agencies : List (List ℕ)) (stops : List Stop) (routes : List Route) (trips : List Trip) (places : List (List Place)) (active : List (List ℕ)) (bases : List ℤ) (patterns : List PlanPattern) (derived : List PlanDerived)
    → agencies ≡ agency_ids d → stops ≡ map (stop_of d) (stop_rows d) → routes ≡ map (route_of d) (route_rows d) → trips ≡ map (trip_of d) (trip_rows d)
    → places ≡ map (λ trip. places_with d (stop_times_of d.stop_times trip.trip_id)) (trip_rows d) → active ≡ map (active_days d.calendar d.exceptions first days) (service_ids d)
    → bases ≡ map (λ day. base_of rule (date_plus first day)) (range_with_len 0 days) → patterns ≡ [] → derived ≡ []
    → record { agencies = agencies; stops = stops; routes = routes; trips = trips; places = places; active = active; first = first; bases = bases; patterns = patterns; derived = derived } ≡ timetable_of rule first days d
unfolding timetable_of
table_made rule first days d agencies stops routes trips places active bases patterns derived e1 e2 e3 e4 e5 e6 e7 e8 e9 = rw (e1, e2, e3, e4, e5, e6, e7, e8, e9) refl

pub few_agency_rows : (d : Dataset) → IsConsistent d → length (by_id (λ row. row.agency_id) d.agencies) ≤ most_rows
few_agency_rows d c =
    let a = listed_short (slice_cmp nat_cmp) (λ (row : AgencyRow). row.agency_id) d.agencies in
    let b = file_few true file.Agency agency c.agencies_of.0 d.agencies c.agencies_of.1 in
    omega (arith, a, b)
