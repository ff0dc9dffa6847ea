-- The rows of stop_times.txt as visits, and the first fault of these.
use Rattle.std.proofs.Common.{◌≡◌, ℕ, zero, suc, ◌+◌, ◌<◌, ◌≤◌, Bool, true, false, ◌&&◌, ◌||◌, ◌==◌, List, [], ◌∷◌, length, map, take, filter, cond, nat_eq, refl, sym, ap, ◌∙◌, subst, arith}
use Rattle.std.specs.Prelude.{slice_get, Option, Some, None, is_some, unwrap_or, bytes_eq, Err, Ok, option_map, IfSome}
use Rattle.std.specs.List.{list_any, range_with_len}
use Rattle.std.specs.Ordering.{nat_cmp}
use Rattle.std.proofs.lemmas.Bool.Decides.{nat_tests}
use Rattle.std.proofs.lemmas.List.{length-map, take-map}
use Rattle.std.proofs.lemmas.Option.{none-some as none_some, same_Some, slice_get-map, slice_get_within}
use Rattle.answer_defs.specs.Choices.{or_else}
use Rattle.gtfs_rows.specs.declared.column.Column.{Column}
use Rattle.gtfs_rows.specs.declared.column.Column.TheVariants as column
use Rattle.gtfs_rows.specs.declared.rows.StopRow.{StopRow}
use Rattle.gtfs_rows.specs.declared.rows.TripRow.{TripRow}
use Rattle.gtfs_rows.specs.declared.rows.StopTimeRow.{StopTimeRow}
use Rattle.sched_types.specs.Timetable.{number_of}
use Rattle.sched_types.proofs.TimetableLaws.{number_leads}
use Rattle.sched_load_defs.specs.declared.fault.File.TheVariants as file
use Rattle.sched_load_defs.specs.declared.fault.LoadFault.TheVariants as fault
use Rattle.sched_load_defs.specs.Numbers.{by_id, known_number, rows_by_key, stop_times_of}
use Rattle.sched_load_defs.specs.References.{unknown_in_stop_time, unless_known, has_id, consistent_stop_times, row_at}
use Rattle.sched_load.specs.declared.visits.Visit.{Visit}
use Rattle.sched_load.specs.Listed.{stay_of, visit_of}
use Rattle.sched_load.specs.Visits.{EndsAt}
use Rattle.sched_load.specs.Visits.{AreApart, AreArranged, AreGathered, FirstTwin, IsVisit, has_twin, is_twin_visit}
use Rattle.sched_load.proofs.ArrangeLemmas.{own_of}
use Rattle.row_tables.proofs.Faults.{Judged, judged_start, judged_unknown, judged_twin, judged_more, judged_all}
use Rattle.row_tables.proofs.Keyed.{listed_map}
use Rattle.row_tables.proofs.Numbered.{has_by_number, some_at, text_from, text_itself}
use Rattle.std.proofs.Math.Seq.{take-length}
use Rattle.sched_load.proofs.PairLemmas.{true_false}
use Rattle.sched_load.proofs.TwinLemmas.{any_on}

pub no_groups : {X Y : Type 0} (xs : List X) (y : Y) → map (λ _. y) (range_with_len 0 (length xs)) ≡ map (λ _. y) xs
no_groups xs y = from 0 xs
  where
    from : {X : Type 0} (a : ℕ) (xs : List X) → map (λ _. y) (range_with_len a (length xs)) ≡ map (λ _. y) xs
    from a [] = refl
    from a (x ∷ xs) = ap (λ rest. y ∷ rest) (from (a + 1) xs)

abbrev pub same_visit : StopTimeRow → StopTimeRow → Bool
same_visit a b = bytes_eq a.trip_id b.trip_id && nat_eq a.stop_sequence b.stop_sequence

some_there : {A : Type 0} (o : Option A) → is_some o ≡ true → (x : A) × (o ≡ Some x)
some_there o e = grind (arith, true_false)

same_take : {X : Type 0} (k n : ℕ) (xs : List X) → k ≤ n → take k (take n xs) ≡ take k xs
same_take zero n xs h = refl
same_take (suc k) zero xs h = absurd (omega (arith, h))
same_take (suc k) (suc n) [] h = refl
same_take (suc k) (suc n) (x ∷ xs) h = ap (λ ys. x ∷ ys) (same_take k n xs (omega (arith, h)))

pub taken_at : {X : Type 0} (k n : ℕ) (xs : List X) → k < n → slice_get (take n xs) k ≡ slice_get xs k
taken_at k zero xs h = absurd (omega (arith, h))
taken_at k (suc n) [] h = refl
taken_at zero (suc n) (x ∷ xs) h = refl
taken_at (suc k) (suc n) (x ∷ xs) h = taken_at k n xs (omega (arith, h))

any_mapped : {X Y : Type 0} (test : Y → Bool) (f : X → Y) (xs : List X) → list_any test (map f xs) ≡ list_any (λ x. test (f x)) xs
any_mapped test f [] = refl
any_mapped test f (x ∷ xs) = ap (λ b. test (f x) || b) (any_mapped test f xs)

module _ (trips : List TripRow) (stops : List StopRow) where
  abbrev pub trip_number : List ℕ → Option ℕ
  trip_number id = number_of (λ trip. trip.trip_id) (by_id (λ trip. trip.trip_id) trips) id

  abbrev pub stop_number : List ℕ → Option ℕ
  stop_number id = number_of (λ stop. stop.stop_id) (by_id (λ stop. stop.stop_id) stops) id

  module _ (row : StopTimeRow) where
    judged_of : (t s : Bool) → has_id (λ trip. trip.trip_id) trips row.trip_id ≡ t → has_id (λ stop. stop.stop_id) stops row.stop_id ≡ s → unknown_in_stop_time trips stops row ≡ or_else (unless_known column.TripId t) (unless_known column.StopId s)
    judged_of t s e f = grind arith

    trip_there : (b : Bool) → is_some (trip_number row.trip_id) ≡ b → has_id (λ trip. trip.trip_id) trips row.trip_id ≡ b
    trip_there b e = sym (has_by_number (λ (trip : TripRow). trip.trip_id) row.trip_id trips) ∙ e

    stop_there : (b : Bool) → is_some (stop_number row.stop_id) ≡ b → has_id (λ stop. stop.stop_id) stops row.stop_id ≡ b
    stop_there b e = sym (has_by_number (λ (stop : StopRow). stop.stop_id) row.stop_id stops) ∙ e

    pub known_row : (t s : ℕ) → trip_number row.trip_id ≡ Some t → stop_number row.stop_id ≡ Some s → unknown_in_stop_time trips stops row ≡ None
    known_row t s e f = judged_of true true (trip_there true (ap is_some e)) (stop_there true (ap is_some f))

    pub no_trip : trip_number row.trip_id ≡ None → unknown_in_stop_time trips stops row ≡ Some column.TripId
    no_trip e = judged_of false (has_id (λ stop. stop.stop_id) stops row.stop_id) (trip_there false (ap is_some e)) refl

    pub no_stop : (t : ℕ) → trip_number row.trip_id ≡ Some t → stop_number row.stop_id ≡ None → unknown_in_stop_time trips stops row ≡ Some column.StopId
    no_stop t e f = judged_of true false (trip_there true (ap is_some e)) (stop_there false (ap is_some f))

    -- the trip of a row that refers to known rows
    pub trip_known : unknown_in_stop_time trips stops row ≡ None → (t : ℕ) × (trip_number row.trip_id ≡ Some t)
    trip_known h = grind (arith, judged_of, some_there, trip_there)

    -- the visit of a row whose numbers were found
    pub visit_is : (t s : ℕ) (visit : Visit) → trip_number row.trip_id ≡ Some t → stop_number row.stop_id ≡ Some s
        → visit ≡ record { trip = t; stop = s; sequence = row.stop_sequence; stay = stay_of row.arrival_time row.departure_time; pickup = unwrap_or row.pickup_type 0 } → IsVisit trips stops row (Ok visit)
    visit_is t s visit e f is = grind (arith, known_row)

  -- two known ids are one where their numbers are
  same_number : (one other : List ℕ) (t u : ℕ) → trip_number one ≡ Some t → trip_number other ≡ Some u → (t == u) ≡ bytes_eq one other
  same_number one other t u e f = by (bytes_eq one other) refl
    where
      by : (b : Bool) → bytes_eq one other ≡ b → (t == u) ≡ b
      by true is = let same : t ≡ u = same_Some _ _ (sym e ∙ ap trip_number (text_from one other is) ∙ f) in grind (arith, nat_tests, same)
      by false is = apart (t == u) refl
        where
          apart : (c : Bool) → (t == u) ≡ c → c ≡ false
          apart false same = refl
          apart true same =
              let number : t ≡ u = grind (arith, nat_tests, same) in
              let own = number_leads (λ (trip : TripRow). trip.trip_id) (by_id (λ trip. trip.trip_id) trips) one t e in
              let that = number_leads (λ (trip : TripRow). trip.trip_id) (by_id (λ trip. trip.trip_id) trips) other u f in
              let row : own.row ≡ that.row = same_Some _ _ (sym own.at ∙ ap (slice_get (by_id (λ trip. trip.trip_id) trips)) number ∙ that.at) in
              let text : one ≡ other = sym own.has ∙ ap (λ (trip : TripRow). trip.trip_id) row ∙ that.has in
              absurd (true_false (sym (text_itself one) ∙ ap (bytes_eq one) text ∙ is))

  numbered : (id : List ℕ) (t : ℕ) → trip_number id ≡ Some t → known_number (λ trip. trip.trip_id) (by_id (λ trip. trip.trip_id) trips) id ≡ t
  numbered id t e = ap (λ o. unwrap_or o 0) e

  twins_are : (a b : StopTimeRow) → unknown_in_stop_time trips stops a ≡ None → unknown_in_stop_time trips stops b ≡ None → is_twin_visit (visit_of trips stops a) (visit_of trips stops b) ≡ same_visit a b
  twins_are a b h g = grind (arith, numbered, same_number, trip_known, nat_tests)

  module _ (rows : List StopTimeRow) (visits : List Visit) (unknown : Option Column) (g : AreGathered trips stops rows visits unknown) where
    visit_at : (k : ℕ) (row : StopTimeRow) → k < length visits → slice_get rows k ≡ Some row → slice_get visits k ≡ Some (visit_of trips stops row)
    visit_at k row h at = grind (arith, slice_get-map, taken_at)

    twin_rows : (k : ℕ) (row : StopTimeRow) → k < length visits → slice_get rows k ≡ Some row → has_twin visits k (visit_of trips stops row) ≡ list_any (λ e. same_visit e row) (take k rows)
    twin_rows k row h at = grind (arith, any_mapped, any_on, same_take, take-map, twins_are)

    pub row_there : (k : ℕ) → k < length visits → (row : StopTimeRow) × (slice_get rows k ≡ Some row)
    row_there k h = by (slice_get rows k) refl
      where
        by : (o : Option StopTimeRow) → slice_get rows k ≡ o → (row : StopTimeRow) × (slice_get rows k ≡ Some row)
        by (Some row) at = (row, at)
        by None at =
            let there = some_at visits k h in
            absurd (none_some there.0
            (sym (ap (λ vs. slice_get vs k) g.visits_of ∙ slice_get-map (visit_of trips stops) (take (length visits) rows) k ∙ ap (option_map (visit_of trips stops)) (taken_at k (length visits) rows h ∙ at)) ∙ there.1))

    judged_to : (m : ℕ) → m ≤ length visits → AreApart visits m → Judged file.StopTimes (unknown_in_stop_time trips stops) same_visit rows m
    judged_to zero h apart = judged_start file.StopTimes (unknown_in_stop_time trips stops) same_visit rows
    judged_to (suc m) h apart =
        let within : m < length visits = omega (arith, h) in
        let row = row_there m within in
        let one : m + 1 ≡ suc m = omega arith in
        subst (Judged file.StopTimes (unknown_in_stop_time trips stops) same_visit rows) one
        (judged_more file.StopTimes (unknown_in_stop_time trips stops) same_visit rows m row.0
        (judged_to m (omega (arith, h)) (record { apart = λ k w l. apart.apart k w (omega (arith, l)) })) row.1 (g.known m row.0 within row.1)
        (sym (twin_rows m row.0 within row.1) ∙ apart.apart m (visit_of trips stops row.0) (omega arith) (visit_at m row.0 within row.1)))

    -- the row of the first twin
    pub twin_told : (m : ℕ) → FirstTwin visits (Some m) → consistent_stop_times trips stops rows ≡ Err (fault.Duplicate file.StopTimes (row_at m))
    twin_told m (apart, found) =
        let within = slice_get_within visits m found.0 found.1 in
        let row = row_there m within in
        let is : visit_of trips stops row.0 ≡ found.0 = same_Some _ _ (sym (visit_at m row.0 within row.1) ∙ found.1) in
        judged_twin file.StopTimes (unknown_in_stop_time trips stops) same_visit rows m row.0 (judged_to m (omega (arith, within)) apart) row.1 (g.known m row.0 within row.1)
        (sym (twin_rows m row.0 within row.1) ∙ ap (has_twin visits m) is ∙ found.2)

    -- the first row that refers to nothing
    pub unknown_told : (c : Column) → unknown ≡ Some c → AreApart visits (length visits) → consistent_stop_times trips stops rows ≡ Err (fault.UnknownRef file.StopTimes (row_at (length visits)) c)
    unknown_told c e apart =
        let end = subst (EndsAt trips stops rows (length visits)) e g.end in
        judged_unknown file.StopTimes (unknown_in_stop_time trips stops) same_visit rows (length visits) end.0 c (judged_to (length visits) (omega arith) apart) end.1 end.2

    -- no row is at fault
    pub all_known : unknown ≡ None → AreApart visits (length visits) → (consistent_stop_times trips stops rows ≡ Ok rows) × (visits ≡ map (visit_of trips stops) rows)
    all_known e apart =
        let end = subst (EndsAt trips stops rows (length visits)) e g.end in (
          judged_all file.StopTimes (unknown_in_stop_time trips stops) same_visit rows (length visits) (omega (arith, end)) (judged_to (length visits) (omega arith) apart),
          g.visits_of ∙ ap (λ n. map (visit_of trips stops) (take n rows)) end ∙ ap (map (visit_of trips stops)) (take-length rows),
        )

  -- the visits of a trip are those of its stop times
  pub trip_visits : (rows : List StopTimeRow) (visits : List Visit) → ((i : ℕ) (row : StopTimeRow) → slice_get rows i ≡ Some row → unknown_in_stop_time trips stops row ≡ None) → AreArranged (map (visit_of trips stops) rows) visits
      → (id : List ℕ) (n : ℕ) → trip_number id ≡ Some n → own_of n visits ≡ map (visit_of trips stops) (stop_times_of rows id)
  trip_visits rows visits known arranged id n number =
      arranged.own n
      ∙ ap (rows_by_key nat_cmp (λ (v : Visit). v.sequence)) (own_mapped rows ∙ ap (map (visit_of trips stops)) (own_same rows known))
      ∙ listed_map nat_cmp (λ (v : Visit). v.sequence) (visit_of trips stops) (filter (λ row. bytes_eq row.trip_id id) rows)
    where
      own_mapped : (rs : List StopTimeRow) → own_of n (map (visit_of trips stops) rs) ≡ map (visit_of trips stops) (filter (λ r. (visit_of trips stops r).trip == n) rs)
      own_mapped [] = refl
      own_mapped (r ∷ rs) = by ((visit_of trips stops r).trip == n) (own_mapped rs)
        where
          by : (b : Bool) → own_of n (map (visit_of trips stops) rs) ≡ map (visit_of trips stops) (filter (λ r. (visit_of trips stops r).trip == n) rs)
              → cond b (visit_of trips stops r ∷ own_of n (map (visit_of trips stops) rs)) (own_of n (map (visit_of trips stops) rs)) ≡ map (visit_of trips stops) (cond b (r ∷ filter (λ r. (visit_of trips stops r).trip == n) rs) (filter (λ r. (visit_of trips stops r).trip == n) rs))
          by true e = ap (λ vs. visit_of trips stops r ∷ vs) e
          by false e = e

      own_same : (rs : List StopTimeRow) → ((i : ℕ) (row : StopTimeRow) → slice_get rs i ≡ Some row → unknown_in_stop_time trips stops row ≡ None) → filter (λ r. (visit_of trips stops r).trip == n) rs ≡ filter (λ r. bytes_eq r.trip_id id) rs
      own_same [] h = refl
      own_same (r ∷ rs) h =
          let t = trip_known r (h 0 r refl) in
          ap (λ b. cond b (r ∷ filter (λ s. (visit_of trips stops s).trip == n) rs) (filter (λ s. (visit_of trips stops s).trip == n) rs)) (ap (λ m. m == n) (numbered r.trip_id t.0 t.1) ∙ same_number r.trip_id id t.0 n t.1 number)
          ∙ ap (λ ss. cond (bytes_eq r.trip_id id) (r ∷ ss) ss) (own_same rs (λ i s. h (suc i) s))

taken_short : {X : Type 0} (n : ℕ) (xs : List X) → length (take n xs) ≤ length xs
taken_short zero xs = omega arith
taken_short (suc n) [] = omega arith
taken_short (suc n) (x ∷ xs) = let h = taken_short n xs in omega (arith, h)

-- no more visits are gathered than there are rows, and fewer where a row refers to nothing
pub gathered_few : (trips : List TripRow) (stops : List StopRow) (rows : List StopTimeRow) (visits : List Visit) (unknown : Option Column) → AreGathered trips stops rows visits unknown → length visits ≤ length rows
gathered_few trips stops rows visits unknown g = grind (arith, length-map, taken_short)

pub gathered_room : (trips : List TripRow) (stops : List StopRow) (rows : List StopTimeRow) (visits : List Visit) (unknown : Option Column) (most : ℕ) → AreGathered trips stops rows visits unknown → length rows ≤ most → IfSome unknown (λ _. length visits < most)
gathered_room trips stops rows visits unknown most g h = grind (arith, slice_get_within)
