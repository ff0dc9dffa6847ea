-- The timetable of consistent rows whose times are in order is one.
use Rattle.std.proofs.Common.{◌≡◌, ℕ, zero, suc, ◌+◌, ◌<◌, ◌≤◌, ◌^◌, Bool, true, false, cond, List, [], ◌∷◌, ◌++◌, length, map, refl, sym, ap, ◌∙◌, subst, arith}
use Rattle.std.specs.Prelude.{slice_get, Option, Some, None, option_map, unwrap_or, filter, zip, bytes_eq, Ok, if◌then◌else◌, sum_by, IsTrue, ◌==◌, ℤ}
use Rattle.std.specs.Ordering.{nat_cmp, is_eq}
use Rattle.std.specs.Cmp.Lexicographic.{slice_cmp}
use Rattle.std.specs.List.{list_any, enumerate_from, range_with_len, fold}
use Rattle.std.specs.declared.cmp.Ordering.{Ordering}
use Rattle.std.specs.declared.cmp.Ordering.TheVariants.{Less, Equal, Greater}
use Rattle.std.specs.FinMap.Entries.{put, by_order}
use Rattle.std.specs.FinMap.{nat_cmp-IsAntisymmetric}
use Rattle.std.proofs.lemmas.Bool.Decides.{nat_tests}
use Rattle.std.proofs.lemmas.Cmp.{nat_cmp_total}
use Rattle.std.proofs.lemmas.List.{length-map, length-append}
use Rattle.std.proofs.lemmas.List.FromFn.{length-map-range_with_len}
use Rattle.std.proofs.lemmas.Option.{none-some as none_some, same_Some, slice_get-map, slice_get_within}
use Rattle.gtfs_rows.specs.Tables.{agency, stops, routes, trips, stop_times, calendar, exceptions}
use Rattle.gtfs_rows.specs.declared.column.Column.{Column}
use Rattle.gtfs_rows.specs.declared.column.Column.TheVariants as column
use Rattle.gtfs_rows.specs.declared.rows.AgencyRow.{AgencyRow}
use Rattle.gtfs_rows.specs.declared.rows.StopRow.{StopRow}
use Rattle.gtfs_rows.specs.declared.rows.RouteRow.{RouteRow}
use Rattle.gtfs_rows.specs.declared.rows.TripRow.{TripRow}
use Rattle.gtfs_rows.specs.declared.rows.StopTimeRow.{StopTimeRow}
use Rattle.text_defs.specs.Dates.{is_day, date_plus}
use Rattle.service_day.specs.Zone.{TzText, base_of}
use Rattle.sched_types.specs.Timetable.{IsTimetable, RisesById, number_of}
use Rattle.sched_types.specs.declared.rows.Place.{Place}
use Rattle.sched_types.proofs.TimetableLaws.{number_leads}
use Rattle.sched_load_defs.specs.declared.fault.File.{File}
use Rattle.sched_load_defs.specs.declared.fault.File.TheVariants as file
use Rattle.sched_load_defs.specs.declared.fault.LoadFault.{LoadFault}
use Rattle.sched_load_defs.specs.Loading.{times_fault, with_times}
use Rattle.sched_load_defs.specs.References.{consistent, first_fault, has_id, unless_known, unknown_in_trip}
use Rattle.sched_load_defs.specs.Numbers.{Dataset, agency_ids, agency_of, by_id, given_times, rows_with_keys, known_number, rows_by_key, timetable_of, place_of, places_with, route_of, route_rows, service_ids, stop_of, stop_rows, stop_times_of, trip_of, trip_rows}
use Rattle.sched_load_defs.specs.Services.{active_days}
use Rattle.sched_load_defs.specs.Times.{Times, all_times, are_times}
use Rattle.sched_load_defs.proofs.Moves.{InOrder, all_in_order}
use Rattle.freq_runs.specs.Trips.{time_end}
use Rattle.sched_load.specs.Days.{EachSmall}
use Rattle.sched_load.specs.Tables.{IsConsistent}
use Rattle.sched_load_defs.specs.Files.{most_rows}
use Rattle.sched_load.proofs.BuildLemmas.{mapped_at}
use Rattle.sched_load.proofs.ColumnLaws.{AtMost, route_types, trip_directions, pickup_types}
use Rattle.sched_load.proofs.TimeColumns.{stop_times_early}
use Rattle.row_tables.proofs.Keyed.{listed_rises, listed_short}
use Rattle.sched_load.proofs.EarlyTimes.{HasEarly, all_early}
use Rattle.sched_load.proofs.Laws.{file_few, file_within}
use Rattle.row_tables.proofs.Numbered.{has_by_number, ids_rise, text_from, text_itself}
use Rattle.sched_load.proofs.ServiceLemmas.{some_of}
use Rattle.std.proofs.lemmas.Map.Text.{is_eq-slice_cmp}
use Rattle.answer_defs.specs.Steps.{unless}
use Rattle.answer_defs.specs.Choices.{or_else}
use Rattle.sched_load.proofs.ServiceLemmas.{any_at}
use Rattle.row_tables.proofs.Places.{true_false}

-- what is true of each element
abbrev pub Each : {X : Type 0} → (X → Type 0) → List X → Type 0
Each {X} P xs = (i : ℕ) (x : X) → slice_get xs i ≡ Some x → P x

module _ {K R : Type 0} (order : K → K → Ordering) (key : R → K) (P : R → Type 0) where
  put_each : (k : K) (row : R) (es : List (K × R)) → Each (λ e. P e.1) es → P row → Each (λ e. P e.1) (put order k row es)
  put_each k row [] h p zero e at = subst (λ (x : K × R). P x.1) (same_Some _ _ at) p
  put_each k row [] h p (suc i) e at = absurd (none_some e at)
  put_each k row (x ∷ xs) h p i e at = by (order k x.0) i at (put_each k row xs (λ j y is. h (suc j) y is) p)
    where
      by : (a : Ordering) (j : ℕ) → slice_get (by_order a ((k, row) ∷ x ∷ xs) ((x.0, row) ∷ xs) (x ∷ put order k row xs)) j ≡ Some e → Each (λ e. P e.1) (put order k row xs) → P e.1
      by Less zero is rest = subst (λ (y : K × R). P y.1) (same_Some _ _ is) p
      by Less (suc j) is rest = h j e is
      by Equal zero is rest = subst (λ (y : K × R). P y.1) (same_Some _ _ is) p
      by Equal (suc j) is rest = h (suc j) e is
      by Greater zero is rest = h 0 e is
      by Greater (suc j) is rest = rest j e is

  pub keyed_each : (rows : List R) → Each P rows → Each (λ e. P e.1) (rows_with_keys order key rows)
  keyed_each [] h = λ i e at. absurd (none_some e at)
  keyed_each (row ∷ rows) h = put_each (key row) row (rows_with_keys order key rows) (keyed_each rows (λ i x is. h (suc i) x is)) (h 0 row refl)

  pub listed_each : (rows : List R) → Each P rows → Each P (rows_by_key order key rows)
  unfolding rows_by_key
  listed_each rows h i x at = let e = mapped_at (λ (e : K × R). e.1) (rows_with_keys order key rows) i x at in subst P e.2 (keyed_each rows h i e.0 e.1)

pub filter_each : {X : Type 0} (P : X → Type 0) (test : X → Bool) (xs : List X) → Each P xs → Each P (filter test xs)
filter_each P test [] h = λ i x at. absurd (none_some x at)
filter_each {X} P test (y ∷ ys) h = by (test y) (filter_each P test ys (λ i x is. h (suc i) x is))
  where
    by : (b : Bool) → Each P (filter test ys) → Each P (cond b (y ∷ filter test ys) (filter test ys))
    by true r = λ i x at. placed i x at r
      where
        placed : (i : ℕ) (x : X) → slice_get (y ∷ filter test ys) i ≡ Some x → Each P (filter test ys) → P x
        placed zero x at r = subst P (same_Some _ _ at) (h 0 y refl)
        placed (suc i) x at r = r i x at
    by false r = r

-- no row of a consistent file is at fault
no_fault_at : {X : Type 0} (f : ℕ × X → Option LoadFault) (a : ℕ) (xs : List X) → first_fault f (enumerate_from a xs) ≡ None → (i : ℕ) (x : X) → slice_get xs i ≡ Some x → (n : ℕ) × (f (n, x) ≡ None)
no_fault_at f a [] e i x at = absurd (none_some x at)
no_fault_at f a (y ∷ ys) e zero x at = (a, subst (λ z. f (a, z) ≡ None) (same_Some _ _ at) (front (f (a, y)) e))
  where
    front : (o : Option LoadFault) → or_else o (first_fault f (enumerate_from (a + 1) ys)) ≡ None → o ≡ None
    front None h = refl
    front (Some z) h = h
no_fault_at f a (y ∷ ys) e (suc i) x at = no_fault_at f (a + 1) ys (behind (f (a, y)) e) i x at
  where
    behind : (o : Option LoadFault) → or_else o (first_fault f (enumerate_from (a + 1) ys)) ≡ None → first_fault f (enumerate_from (a + 1) ys) ≡ None
    behind None h = h
    behind (Some z) h = absurd (none_some z (sym h))

unless_ok : {A : Type 0} (o : Option LoadFault) (x y : A) → unless o x ≡ Ok y → o ≡ None
unless_ok o x y e = grind arith

first_none : (a b : Option LoadFault) → or_else a b ≡ None → a ≡ None
first_none a b h = grind arith

none_mapped : (o : Option Column) (f : Column → LoadFault) → option_map f o ≡ None → o ≡ None
none_mapped o f h = grind arith

pub refers : {R : Type 0} (name : File) (unknown : R → Option Column) (same : R → R → Bool) (rows : List R) → consistent name unknown same rows ≡ Ok rows → Each (λ row. unknown row ≡ None) rows
refers name unknown same rows e = grind (arith, first_none, no_fault_at, none_mapped, unless_ok)

-- a number that is found lies within the rows
pub number_within : {R : Type 0} (id_of : R → List ℕ) (rows : List R) (id : List ℕ) (n : ℕ) → number_of id_of rows id ≡ Some n → n < length rows
number_within id_of rows id n e = let at = number_leads id_of rows id n e in slice_get_within rows n at.row at.at

pub known_within : {R : Type 0} (id_of : R → List ℕ) (rows : List R) (id : List ℕ) → has_id id_of rows id ≡ true → known_number id_of (by_id id_of rows) id < length (by_id id_of rows)
known_within id_of rows id e =
    let n = some_of (number_of id_of (by_id id_of rows) id) (has_by_number id_of id rows ∙ e) in
    subst (λ k. k < length (by_id id_of rows)) (sym (ap (λ o. unwrap_or o 0) n.1)) (number_within id_of (by_id id_of rows) id n.0 n.1)

-- ids of rows that are made of others rise as theirs
pub rises_map : {R X : Type 0} (id : R → List ℕ) (id_of : X → List ℕ) (f : R → X) (rows : List R) → RisesById id rows → ((r : R) → id_of (f r) ≡ id r) → RisesById id_of (map f rows)
rises_map id id_of f rows up same = grind (arith, mapped_at)

pub known_if : (b : Bool) (c : Column) → unless_known c b ≡ None → b ≡ true
known_if b c e = grind arith

and_front : (b : Bool) (e : LoadFault) → (if b then None else Some e) ≡ None → b ≡ true
and_front b e h = grind arith

-- pairs of two lists
zip_at : {A B C : Type 0} (f : A × B → C) (xs : List A) (ys : List B) (i : ℕ) (c : C) → slice_get (map f (zip xs ys)) i ≡ Some c → (x : A) × (y : B) × (slice_get xs i ≡ Some x) × (slice_get ys i ≡ Some y) × (f (x, y) ≡ c)
zip_at f [] ys i c at = absurd (none_some c at)
zip_at f (x ∷ xs) [] i c at = absurd (none_some c at)
zip_at f (x ∷ xs) (y ∷ ys) zero c at = (x, y, refl, refl, same_Some _ _ at)
zip_at f (x ∷ xs) (y ∷ ys) (suc i) c at = zip_at f xs ys i c at

zip_short : {A B C : Type 0} (f : A × B → C) (xs : List A) (ys : List B) → length (map f (zip xs ys)) ≤ length xs
zip_short f [] ys = omega arith
zip_short f (x ∷ xs) [] = omega arith
zip_short f (x ∷ xs) (y ∷ ys) = let h = zip_short f xs ys in omega (arith, h)

-- what is in the list of a place in a list of lists
list_at : {A B : Type 0} (f : A → List B) (xs : List A) (n i : ℕ) (b : B) → slice_get (unwrap_or (slice_get (map f xs) n) []) i ≡ Some b → (a : A) × (slice_get xs n ≡ Some a) × (slice_get (f a) i ≡ Some b)
list_at f [] n i b at = absurd (none_some b at)
list_at f (x ∷ xs) zero i b at = (x, refl, at)
list_at f (x ∷ xs) (suc n) i b at = list_at f xs n i b at

list_is : {A B : Type 0} (f : A → List B) (xs : List A) (n : ℕ) (a : A) → slice_get xs n ≡ Some a → unwrap_or (slice_get (map f xs) n) [] ≡ f a
list_is f xs n a at = ap (λ o. unwrap_or o []) (slice_get-map f xs n ∙ ap (option_map f) at)

-- times in order
stay_at : (before : ℕ) (ts : List Times) (i : ℕ) (t : Times) → InOrder before ts → slice_get ts i ≡ Some t → t.arrival ≤ t.departure
stay_at before [] i t h at = absurd (none_some t at)
stay_at before (x ∷ xs) zero t h at = subst (λ (y : Times). y.arrival ≤ y.departure) (same_Some _ _ at) h.1
stay_at before (x ∷ xs) (suc i) t h at = stay_at x.departure xs i t h.2 at

first_after : (before : ℕ) (ts : List Times) (u : Times) → InOrder before ts → slice_get ts 0 ≡ Some u → before ≤ u.arrival
first_after before [] u h at = absurd (none_some u at)
first_after before (x ∷ xs) u h at = subst (λ (y : Times). before ≤ y.arrival) (same_Some _ _ at) h.0

move_at : (before : ℕ) (ts : List Times) (i : ℕ) (t u : Times) → InOrder before ts → slice_get ts i ≡ Some t → slice_get ts (i + 1) ≡ Some u → t.departure ≤ u.arrival
move_at before [] i t u h at after = absurd (none_some t at)
move_at before (x ∷ xs) zero t u h at after = subst (λ (y : Times). y.departure ≤ u.arrival) (same_Some _ _ at) (first_after x.departure xs u h.2 after)
move_at before (x ∷ xs) (suc i) t u h at after = grind (arith, move_at x.departure xs i t u h.2 at)

-- numbers of a window that pass a test
range_at : (test : ℕ → Bool) (a n i x : ℕ) → slice_get (filter test (range_with_len a n)) i ≡ Some x → (a ≤ x) × (x < a + n)
range_at test a zero i x at = absurd (none_some x at)
range_at test a (suc n) i x at = by (test a) i at (λ j is. let r = range_at test (a + 1) n j x is in let low = r.0 in let high = r.1 in (omega (arith, low), omega (arith, high)))
  where
    by : (b : Bool) (j : ℕ) → slice_get (cond b (a ∷ filter test (range_with_len (a + 1) n)) (filter test (range_with_len (a + 1) n))) j ≡ Some x → ((k : ℕ) → slice_get (filter test (range_with_len (a + 1) n)) k ≡ Some x → (a ≤ x) × (x < a + suc n)) → (a ≤ x) × (x < a + suc n)
    by true zero is more = let same = same_Some a x is in (omega (arith, same), omega (arith, same))
    by true (suc j) is more = more j is
    by false j is more = more j is

range_rises : (test : ℕ → Bool) (a n i j x y : ℕ) → i < j → slice_get (filter test (range_with_len a n)) i ≡ Some x → slice_get (filter test (range_with_len a n)) j ≡ Some y → x < y
range_rises test a zero i j x y l at is = absurd (none_some x at)
range_rises test a (suc n) i j x y l at is = by (test a) i j l at is (λ k m l at is. range_rises test (a + 1) n k m x y l at is)
  where
    by : (b : Bool) (k m : ℕ) → k < m → slice_get (cond b (a ∷ filter test (range_with_len (a + 1) n)) (filter test (range_with_len (a + 1) n))) k ≡ Some x → slice_get (cond b (a ∷ filter test (range_with_len (a + 1) n)) (filter test (range_with_len (a + 1) n))) m ≡ Some y
        → ((k m : ℕ) → k < m → slice_get (filter test (range_with_len (a + 1) n)) k ≡ Some x → slice_get (filter test (range_with_len (a + 1) n)) m ≡ Some y → x < y) → x < y
    by true k zero l at is more = absurd (omega (arith, l))
    by true zero (suc m) l at is more = let same = same_Some a x at in let r = (range_at test (a + 1) n m y is).0 in omega (arith, same, r)
    by true (suc k) (suc m) l at is more = more k m (omega (arith, l)) at is
    by false k m l at is more = more k m l at is

sum_from : {X : Type 0} (f : X → ℕ) (n : ℕ) (xs : List X) → fold (λ a x. a + f x) n xs ≡ n + fold (λ a x. a + f x) 0 xs
sum_from f n [] = omega arith
sum_from f n (x ∷ xs) = let a = sum_from f (n + f x) xs in let b = sum_from f (0 + f x) xs in omega (arith, a, b)

sum_cons : {X : Type 0} (f : X → ℕ) (x : X) (xs : List X) → sum_by f (x ∷ xs) ≡ f x + sum_by f xs
sum_cons f x xs = let a = sum_from f (0 + f x) xs in let b : 0 + f x ≡ f x = omega arith in a ∙ ap (λ n. n + sum_by f xs) b

-- rows of distinct groups are no more than all rows
module _ {X R : Type 0} (id : X → List ℕ) (gid : R → List ℕ) where
  abbrev one_if : List ℕ → X → ℕ
  one_if q x = if bytes_eq q (id x) then 1 else 0

  is_zero : (b : Bool) → b ≡ false → let z : ℕ = 0 in (if b then 1 else z) ≡ z
  is_zero b e = grind (arith, true_false)

  sum_none : (q : List ℕ) (xs : List X) → Each (λ x. bytes_eq q (id x) ≡ false) xs → sum_by (one_if q) xs ≡ 0
  sum_none q [] h = refl
  sum_none q (x ∷ xs) h = let rest = sum_none q xs (λ i y at. h (suc i) y at) in let this : one_if q x ≡ 0 = is_zero (bytes_eq q (id x)) (h 0 x refl) in let cons = sum_cons (one_if q) x xs in omega (arith, rest, this, cons)

  rises_rest : (x : X) (xs : List X) → RisesById id (x ∷ xs) → RisesById id xs
  rises_rest x xs up = record { rise = λ i j y z l a b. up.rise (suc i) (suc j) y z (omega (arith, l)) a b }

  sum_once : (q : List ℕ) (xs : List X) → RisesById id xs → sum_by (one_if q) xs ≤ 1
  sum_once q [] up = omega arith
  sum_once q (x ∷ xs) up = let this = by (bytes_eq q (id x)) refl (sum_once q xs (rises_rest x xs up)) in let cons = sum_cons (one_if q) x xs in omega (arith, this, cons)
    where
      apart : bytes_eq q (id x) ≡ true → Each (λ y. bytes_eq q (id y) ≡ false) xs
      apart e = λ i y at. let less = up.rise 0 (suc i) x y (omega arith) refl at in ap (λ z. bytes_eq z (id y)) (text_from q (id x) e) ∙ sym (is_eq-slice_cmp (id x) (id y)) ∙ ap is_eq less

      by : (b : Bool) → bytes_eq q (id x) ≡ b → sum_by (one_if q) xs ≤ 1 → (if b then 1 else 0) + sum_by (one_if q) xs ≤ 1
      by true e r = let none = sum_none q xs (apart e) in omega (arith, none)
      by false e r = omega (arith, r)

  sum_two : (f g h : X → ℕ) (xs : List X) → ((x : X) → f x ≡ g x + h x) → sum_by f xs ≡ sum_by g xs + sum_by h xs
  sum_two f g h [] e = refl
  sum_two f g h (x ∷ xs) e = let this = e x in let rest = sum_two f g h xs e in let a = sum_cons f x xs in let b = sum_cons g x xs in let c = sum_cons h x xs in omega (arith, this, rest, a, b, c)

  sum_zero : (xs : List X) → sum_by (λ x. 0) xs ≡ 0
  sum_zero [] = refl
  sum_zero (x ∷ xs) = let r = sum_zero xs in let c = sum_cons (λ (y : X). 0) x xs in omega (arith, r, c)

  one_more : (b : Bool) (row : R) (rest : List R) → length (cond b (row ∷ rest) rest) ≡ (if b then 1 else 0) + length rest
  one_more b row rest = grind arith

  sum_groups : (xs : List X) → RisesById id xs → (rows : List R) → sum_by (λ x. length (filter (λ row. bytes_eq (gid row) (id x)) rows)) xs ≤ length rows
  sum_groups xs up [] = let z = sum_zero xs in omega (arith, z)
  sum_groups xs up (row ∷ rows) =
      let two = sum_two (λ x. length (filter (λ r. bytes_eq (gid r) (id x)) (row ∷ rows))) (one_if (gid row)) (λ x. length (filter (λ r. bytes_eq (gid r) (id x)) rows)) xs
      (λ x. one_more (bytes_eq (gid row) (id x)) row (filter (λ r. bytes_eq (gid r) (id x)) rows)) in
      let once = sum_once (gid row) xs up in
      let rest = sum_groups xs up rows in
      omega (arith, two, once, rest)

  sum_le : (f g : X → ℕ) (xs : List X) → ((x : X) → f x ≤ g x) → sum_by f xs ≤ sum_by g xs
  sum_le f g [] h = omega arith
  sum_le f g (x ∷ xs) h = let this = h x in let rest = sum_le f g xs h in let a = sum_cons f x xs in let b = sum_cons g x xs in omega (arith, this, rest, a, b)

one_id : (rows : List AgencyRow) → length rows ≡ 1 → length (by_id (λ i. i) (map (λ (row : AgencyRow). row.agency_id) rows)) ≡ 1
unfolding rows_by_key
one_id [] e = e
one_id (row ∷ []) e = refl
one_id (row ∷ r ∷ rows) e = absurd (omega (arith, e))

one_long : (rows : List AgencyRow) → (length rows == 1) ≡ true → length rows ≡ 1
one_long rows e = grind (arith, nat_tests, e)

sum_map : {A B : Type 0} (g : B → ℕ) (f : A → B) (xs : List A) → sum_by g (map f xs) ≡ sum_by (λ x. g (f x)) xs
sum_map g f [] = refl
sum_map g f (x ∷ xs) = let r = sum_map g f xs in let a = sum_cons g (f x) (map f xs) in let b = sum_cons (λ y. g (f y)) x xs in omega (arith, r, a, b)

less_is : (a b : ℕ) → nat_cmp a b ≡ Less → a < b
less_is a b e = grind (arith, nat_tests, e)

any_front : {X : Type 0} (test : X → Bool) (xs ys : List X) → list_any test xs ≡ true → list_any test (xs ++ ys) ≡ true
any_front test [] ys e = absurd (true_false (sym e))
any_front test (x ∷ xs) ys e = grind (arith, any_front test xs ys)

in_order_none : (d : Dataset) → with_times d ≡ Ok d → first_fault (times_fault d) (enumerate_from 0 d.trips) ≡ None
unfolding with_times
in_order_none d e = unless_ok _ d d e

-- for each trip its places
abbrev pub place_lists : Dataset → List (List Place)
place_lists d = map (λ trip. places_with d (stop_times_of d.stop_times trip.trip_id)) (trip_rows d)

-- the bases of the days of a window
abbrev pub bases_of : TzText → ℕ → ℕ → List ℤ
bases_of rule first days = map (λ day. base_of rule (date_plus first day)) (range_with_len 0 days)

-- a place is reached and left before the end of all times
pub record IsEarlyPlace (place : Place) : Type 0 where
  pub arrival : place.arrival < time_end
  pub departure : place.departure < time_end

module _ (rule : TzText) (first days : ℕ) (d : Dataset) (c : IsConsistent d) (in_order : with_times d ≡ Ok d) where
  fits_32 : (n : ℕ) → n ≤ 12000000 → n < 2 ^ 32
  fits_32 n h = omega (arith, h)

  pub few_stops : length (stop_rows d) ≤ most_rows
  few_stops = let a = listed_short (slice_cmp nat_cmp) (λ (row : StopRow). row.stop_id) d.stops in let b = file_few true file.Stops stops c.stops_of.0 d.stops c.stops_of.1 in omega (arith, a, b)

  pub few_routes : length (route_rows d) ≤ most_rows
  few_routes = let a = listed_short (slice_cmp nat_cmp) (λ (row : RouteRow). row.route_id) d.routes in let b = file_few true file.Routes routes c.routes_of.0 d.routes c.routes_of.1 in omega (arith, a, b)

  pub few_trips : length (trip_rows d) ≤ most_rows
  few_trips = let a = listed_short (slice_cmp nat_cmp) (λ (row : TripRow). row.trip_id) d.trips in let b = file_few true file.Trips trips c.trips_of.0 d.trips c.trips_of.1 in omega (arith, a, b)

  few_agencies : length (agency_ids d) ≤ most_rows
  few_agencies =
      let a = listed_short (slice_cmp nat_cmp) (λ (id : List ℕ). id) (map (λ (row : AgencyRow). row.agency_id) d.agencies) in
      let l = length-map d.agencies (λ (row : AgencyRow). row.agency_id) in
      let b = file_few true file.Agency agency c.agencies_of.0 d.agencies c.agencies_of.1 in
      omega (arith, a, b, l)

  pub few_services : length (service_ids d) ≤ 12000000
  few_services =
      let ta = map (λ (row : TripRow). row.service_id) d.trips in
      let ca = map (λ row. row.service_id) d.calendar in
      let ex = map (λ row. row.service_id) d.exceptions in
      let a = listed_short (slice_cmp nat_cmp) (λ (id : List ℕ). id) (ta ++ ca ++ ex) in
      let b = file_few true file.Trips trips c.trips_of.0 d.trips c.trips_of.1 in
      let e = file_few false file.Calendar calendar c.calendar_of.0 d.calendar c.calendar_of.1 in
      let f = file_few false file.CalendarDates exceptions c.exceptions_of.0 d.exceptions c.exceptions_of.1 in
      let l1 = length-append (ta ++ ca) ex in
      let l2 = length-append ta ca in
      let m1 = length-map d.trips (λ (row : TripRow). row.service_id) in
      let m2 = length-map d.calendar (λ row. row.service_id) in
      let m3 = length-map d.exceptions (λ row. row.service_id) in
      omega (arith, a, b, e, f, l1, l2, m1, m2, m3)

  pub few_times : sum_by length (place_lists d) ≤ most_rows
  few_times =
      let m = sum_map length (λ (trip : TripRow). places_with d (stop_times_of d.stop_times trip.trip_id)) (trip_rows d) in
      let l = sum_le (λ (trip : TripRow). trip.trip_id) (λ (row : StopTimeRow). row.trip_id) (λ trip. length (places_with d (stop_times_of d.stop_times trip.trip_id))) (λ trip. length (filter (λ row. bytes_eq row.trip_id trip.trip_id) d.stop_times)) (trip_rows d)
      (λ trip. let z = zip_short (place_of d) (stop_times_of d.stop_times trip.trip_id) (all_times (given_times (stop_times_of d.stop_times trip.trip_id))) in
      let k = listed_short nat_cmp (λ (row : StopTimeRow). row.stop_sequence) (filter (λ row. bytes_eq row.trip_id trip.trip_id) d.stop_times) in omega (arith, z, k)) in
      let g = sum_groups (λ (trip : TripRow). trip.trip_id) (λ (row : StopTimeRow). row.trip_id) (trip_rows d) (ids_rise (λ (trip : TripRow). trip.trip_id) d.trips) d.stop_times in
      let b = file_few true file.StopTimes stop_times c.stop_times_of.0 d.stop_times c.stop_times_of.1 in
      omega (arith, m, l, g, b)

  times_of_trip : Each (λ trip. are_times (given_times (stop_times_of d.stop_times trip.trip_id)) ≡ true) (trip_rows d)
  times_of_trip = listed_each (slice_cmp nat_cmp) (λ trip. trip.trip_id) (λ trip. are_times (given_times (stop_times_of d.stop_times trip.trip_id)) ≡ true) d.trips
      (λ i trip at. let none = no_fault_at (times_fault d) 0 d.trips (in_order_none d in_order) i trip at in and_front _ _ none.1)

  routes_known : Each (λ trip. has_id (λ route. route.route_id) d.routes trip.route_id ≡ true) (trip_rows d)
  routes_known = listed_each (slice_cmp nat_cmp) (λ trip. trip.trip_id) (λ trip. has_id (λ route. route.route_id) d.routes trip.route_id ≡ true) d.trips
      (λ i trip at. known_if _ column.RouteId (refers file.Trips (unknown_in_trip d.routes) (λ a b. bytes_eq a.trip_id b.trip_id) d.trips c.trips i trip at))

  stops_known : Each (λ row. has_id (λ stop. stop.stop_id) d.stops row.stop_id ≡ true) d.stop_times
  stops_known = grind (arith, known_if, refers, nat_tests)

  services_known : Each (λ trip. has_id (λ id. id) (map (λ row. row.service_id) d.trips ++ map (λ row. row.service_id) d.calendar ++ map (λ row. row.service_id) d.exceptions) trip.service_id ≡ true) (trip_rows d)
  services_known = listed_each (slice_cmp nat_cmp) (λ trip. trip.trip_id) (λ trip. has_id (λ id. id) (map (λ row. row.service_id) d.trips ++ map (λ row. row.service_id) d.calendar ++ map (λ row. row.service_id) d.exceptions) trip.service_id ≡ true) d.trips
      (λ i trip at.
      let test = λ (id : List ℕ). bytes_eq id trip.service_id in
      any_front test (map (λ row. row.service_id) d.trips ++ map (λ row. row.service_id) d.calendar) (map (λ row. row.service_id) d.exceptions)
      (any_front test (map (λ row. row.service_id) d.trips) (map (λ row. row.service_id) d.calendar)
      (any_at test (map (λ (row : TripRow). row.service_id) d.trips) i trip.service_id (slice_get-map (λ (row : TripRow). row.service_id) d.trips i ∙ ap (option_map (λ (row : TripRow). row.service_id)) at) (text_itself trip.service_id))))

  -- a place comes from a stop time of its trip
  pub record PlaceOf (trip i : ℕ) (place : Place) : Type 0 where
    pub row : TripRow
    pub row_at : slice_get (trip_rows d) trip ≡ Some row
    pub stop_time : StopTimeRow
    pub stop_time_at : slice_get (stop_times_of d.stop_times row.trip_id) i ≡ Some stop_time
    pub times : Times
    pub times_at : slice_get (all_times (given_times (stop_times_of d.stop_times row.trip_id))) i ≡ Some times
    pub is : place_of d (stop_time, times) ≡ place

  pub place_from : (trip i : ℕ) (place : Place) → slice_get (unwrap_or (slice_get (place_lists d) trip) []) i ≡ Some place → PlaceOf trip i place
  place_from trip i place at = grind (arith, list_at, zip_at)

  pub own_stop_times : (P : StopTimeRow → Type 0) → Each P d.stop_times → (id : List ℕ) → Each P (stop_times_of d.stop_times id)
  own_stop_times P h id = listed_each nat_cmp (λ row. row.stop_sequence) P (filter (λ row. bytes_eq row.trip_id id) d.stop_times) (filter_each P (λ row. bytes_eq row.trip_id id) d.stop_times h)

  -- each place is reached and left before the end of all times
  pub place_early : (trip i : ℕ) (place : Place) → slice_get (unwrap_or (slice_get (place_lists d) trip) []) i ≡ Some place → IsEarlyPlace place
  place_early trip i place at =
      let p = place_from trip i place at in
      let given = file_within true file.StopTimes stop_times HasEarly stop_times_early c.stop_times_of.0 d.stop_times c.stop_times_of.1 in
      let times = all_early (stop_times_of d.stop_times p.row.trip_id) (own_stop_times HasEarly given p.row.trip_id) i p.times p.times_at in
      subst IsEarlyPlace p.is (record { arrival = times.arrival; departure = times.departure })

  pickup_small : (o : Option ℕ) → AtMost 3 o → unwrap_or o 0 ≤ 3
  pickup_small o h = grind arith

  at_most_one : (o : Option ℕ) (n : ℕ) → AtMost 1 o → o ≡ Some n → n ≤ 1
  at_most_one o n h e = grind arith

  trip_order : (trip : ℕ) (row : TripRow) → slice_get (trip_rows d) trip ≡ Some row → 1 < length (stop_times_of d.stop_times row.trip_id) → InOrder 0 (all_times (given_times (stop_times_of d.stop_times row.trip_id)))
  trip_order trip row at h = grind (arith, all_in_order, length-map, times_of_trip)

  same_row : (trip : ℕ) (a b : TripRow) → slice_get (trip_rows d) trip ≡ Some a → slice_get (trip_rows d) trip ≡ Some b → a ≡ b
  same_row trip a b p q = same_Some _ _ (sym p ∙ q)

  agency_within : (id : List ℕ) (n : ℕ) → agency_of d id ≡ Some n → n < length (agency_ids d)
  agency_within id n e = grind (arith, number_within, one_id, one_long, nat_tests)

  -- the timetable of consistent rows is one
  pub timetable_sound : IsTrue (is_day first) → 19700101 ≤ first → first ≤ 29991231 → days ≤ 400 → EachSmall (bases_of rule first days) → IsTimetable (timetable_of rule first days d)
  unfolding timetable_of
  timetable_sound day early late window small = record {
    few_agencies = fits_32 _ (omega (arith, few_agencies));
    few_stops = let l = length-map (stop_rows d) (stop_of d) in let f = few_stops in fits_32 _ (omega (arith, l, f));
    few_routes = let l = length-map (route_rows d) (route_of d) in let f = few_routes in fits_32 _ (omega (arith, l, f));
    few_trips = let l = length-map (trip_rows d) (trip_of d) in let f = few_trips in fits_32 _ (omega (arith, l, f));
    few_services = let l = length-map (service_ids d) (active_days d.calendar d.exceptions first days) in let f = few_services in fits_32 _ (omega (arith, l, f));
    few_times = fits_32 _ (omega (arith, few_times));
    few_days = let l = length-map-range_with_len (λ day. base_of rule (date_plus first day)) 0 days in omega (arith, l, window);
    few_rows = let l = length-map (trip_rows d) (trip_of d) in let f = few_trips in fits_32 _ (omega (arith, l, f));
    few_places = fits_32 _ (omega (arith, few_times));
    places_each = length-map (trip_rows d) (λ trip. places_with d (stop_times_of d.stop_times trip.trip_id)) ∙ sym (length-map (trip_rows d) (trip_of d));
    agencies_rise = ids_rise (λ (id : List ℕ). id) (map (λ row. row.agency_id) d.agencies);
    stops_rise = rises_map (λ row. row.stop_id) (λ stop. stop.id) (stop_of d) (stop_rows d) (ids_rise (λ row. row.stop_id) d.stops) (λ r. refl);
    routes_rise = rises_map (λ row. row.route_id) (λ route. route.id) (route_of d) (route_rows d) (ids_rise (λ row. row.route_id) d.routes) (λ r. refl);
    trips_rise = rises_map (λ row. row.trip_id) (λ trip. trip.id) (trip_of d) (trip_rows d) (ids_rise (λ row. row.trip_id) d.trips) (λ r. refl);
    patterns_rise = record { rise = λ i j x y l at is. absurd (none_some x at) };
    derived_rise = record { rise = λ i j x y l at is. absurd (none_some x at) };
    parent_is = λ i parent stop at is.
        let m = mapped_at (stop_of d) (stop_rows d) i stop at in
        let l = length-map (stop_rows d) (stop_of d) in
        let w = number_within (λ (row : StopRow). row.stop_id) (stop_rows d) (m.0).parent_station parent (ap (λ x. x.parent) m.2 ∙ is) in
        omega (arith, l, w);
    agency_is = λ i number route at is. let m = mapped_at (route_of d) (route_rows d) i route at in agency_within (m.0).agency_id number (ap (λ x. x.agency) m.2 ∙ is);
    route_is = λ i trip at.
        let m = mapped_at (trip_of d) (trip_rows d) i trip at in
        let l = length-map (route_rows d) (route_of d) in
        let w = known_within (λ (row : RouteRow). row.route_id) d.routes (m.0).route_id (routes_known i m.0 m.1) in
        subst (λ x. x.route < length (map (route_of d) (route_rows d))) m.2 (omega (arith, l, w));
    service_is = λ i trip at.
        let m = mapped_at (trip_of d) (trip_rows d) i trip at in
        let l = length-map (service_ids d) (active_days d.calendar d.exceptions first days) in
        let w = known_within (λ (id : List ℕ). id) (map (λ row. row.service_id) d.trips ++ map (λ row. row.service_id) d.calendar ++ map (λ row. row.service_id) d.exceptions) (m.0).service_id (services_known i m.0 m.1) in
        subst (λ x. x.service < length (map (active_days d.calendar d.exceptions first days) (service_ids d))) m.2 (omega (arith, l, w));
    stop_is = λ trip i place at.
        let p = place_from trip i place at in
        let l = length-map (stop_rows d) (stop_of d) in
        let w = known_within (λ (row : StopRow). row.stop_id) d.stops p.stop_time.stop_id (own_stop_times (λ row. has_id (λ stop. stop.stop_id) d.stops row.stop_id ≡ true) stops_known p.row.trip_id i p.stop_time p.stop_time_at) in
        subst (λ (x : Place). x.stop < length (map (stop_of d) (stop_rows d))) p.is (omega (arith, l, w));
    derived_trip_is = λ i found at. absurd (none_some found at);
    kind_is = λ i route at.
        let m = mapped_at (route_of d) (route_rows d) i route at in
        subst (λ x. x.kind ≤ 9999) m.2 (listed_each (slice_cmp nat_cmp) (λ row. row.route_id) (λ row. row.route_type ≤ 9999) d.routes (file_within true file.Routes routes (λ row. row.route_type ≤ 9999) route_types c.routes_of.0 d.routes c.routes_of.1) i m.0 m.1);
    direction_is = λ i direction trip at is.
        let m = mapped_at (trip_of d) (trip_rows d) i trip at in
        at_most_one (m.0).direction_id direction (listed_each (slice_cmp nat_cmp) (λ row. row.trip_id) (λ row. AtMost 1 row.direction_id) d.trips (file_within true file.Trips trips (λ row. AtMost 1 row.direction_id) trip_directions c.trips_of.0 d.trips c.trips_of.1) i m.0 m.1) (ap (λ x. x.direction) m.2 ∙ is);
    pickup_is = λ trip i place at.
        let p = place_from trip i place at in
        subst (λ (x : Place). x.pickup ≤ 3) p.is (pickup_small p.stop_time.pickup_type (own_stop_times (λ row. AtMost 3 row.pickup_type) (file_within true file.StopTimes stop_times (λ row. AtMost 3 row.pickup_type) pickup_types c.stop_times_of.0 d.stop_times c.stop_times_of.1) p.row.trip_id i p.stop_time p.stop_time_at));
    arrival_small = λ trip i place at. let e = (place_early trip i place at).arrival in omega (arith, e);
    departure_small = λ trip i place at. let e = (place_early trip i place at).departure in omega (arith, e);
    sequences_rise = λ trip i j p q l at is.
        let a = place_from trip i p at in
        let b = place_from trip j q is in
        let same = same_row trip b.row a.row b.row_at a.row_at in
        let up = listed_rises nat_cmp nat_cmp_total nat_cmp-IsAntisymmetric (λ (row : StopTimeRow). row.stop_sequence) (filter (λ row. bytes_eq row.trip_id a.row.trip_id) d.stop_times) in
        let r = less_is _ _ (up.rise i j a.stop_time b.stop_time l a.stop_time_at (subst (λ (t : TripRow). slice_get (stop_times_of d.stop_times t.trip_id) j ≡ Some b.stop_time) same b.stop_time_at)) in
        subst (λ (x : Place). x.sequence < q.sequence) a.is (subst (λ (x : Place). a.stop_time.stop_sequence < x.sequence) b.is r);
    stays = λ trip i place many at.
        let a = place_from trip i place at in
        let e = list_is (λ (row : TripRow). places_with d (stop_times_of d.stop_times row.trip_id)) (trip_rows d) trip a.row a.row_at in
        let z = zip_short (place_of d) (stop_times_of d.stop_times a.row.trip_id) (all_times (given_times (stop_times_of d.stop_times a.row.trip_id))) in
        let n = ap length e in
        let s = stay_at 0 _ i a.times (trip_order trip a.row a.row_at (omega (arith, many, z, n))) a.times_at in
        subst (λ (x : Place). x.arrival ≤ x.departure) a.is s;
    moves = λ trip i p q at is.
        let a = place_from trip i p at in
        let b = place_from trip (i + 1) q is in
        let same = same_row trip b.row a.row b.row_at a.row_at in
        let after = subst (λ (t : TripRow). slice_get (all_times (given_times (stop_times_of d.stop_times t.trip_id))) (i + 1) ≡ Some b.times) same b.times_at in
        let long = slice_get_within _ (i + 1) b.stop_time (subst (λ (t : TripRow). slice_get (stop_times_of d.stop_times t.trip_id) (i + 1) ≡ Some b.stop_time) same b.stop_time_at) in
        let m = move_at 0 _ i a.times b.times (trip_order trip a.row a.row_at (omega (arith, long))) a.times_at after in
        subst (λ (x : Place). x.departure ≤ q.arrival) a.is (subst (λ (x : Place). a.times.departure ≤ x.arrival) b.is m);
    days_rise = λ service i j x y l at is.
        let a = list_at (active_days d.calendar d.exceptions first days) (service_ids d) service i x at in
        let b = list_at (active_days d.calendar d.exceptions first days) (service_ids d) service j y is in
        let same : a.0 ≡ b.0 = same_Some _ _ (sym a.1 ∙ b.1) in
        range_rises _ 0 days i j x y l a.2 (subst (λ id. slice_get (active_days d.calendar d.exceptions first days id) j ≡ Some y) (sym same) b.2);
    day_is = λ service i x at.
        let a = list_at (active_days d.calendar d.exceptions first days) (service_ids d) service i x at in
        let r = (range_at _ 0 days i x a.2).1 in
        let l = length-map-range_with_len (λ day. base_of rule (date_plus first day)) 0 days in
        omega (arith, r, l);
    first_is = day;
    first_early = early;
    first_late = late;
    bases_small = small;
  }
