-- What the columns of times, and those of frequencies.txt, say of each row.
use Rattle.std.proofs.Common.{◌≡◌, ℕ, ◌-◌, ◌<◌, ◌≤◌, Bool, true, false, ◌&&◌, List, [], ◌∷◌, length, take, drop, refl, arith, nat_le}
use Rattle.std.specs.Prelude.{Option, Some, None, IfSome, option_and_then, option_map, if◌then◌else◌}
use Rattle.std.specs.Char.{is_ascii_digit}
use Rattle.std.proofs.lemmas.Bool.Decides.{nat_tests}
use Rattle.std.proofs.lemmas.Option.{same_Some}
use Rattle.text_defs.specs.Numbers.{digits, digits_after, within}
use Rattle.text_defs.specs.Times.{clock_of, sixtieth, time_in}
use Rattle.freq_runs.specs.Trips.{time_end}
use Rattle.gtfs_rows.specs.Tables.{◌⊕◌, frequencies, optional, required, stop_times}
use Rattle.gtfs_rows.specs.Values.{id_text, number, or_empty}
use Rattle.gtfs_rows.specs.declared.column.Column.{Column}
use Rattle.gtfs_rows.specs.declared.column.Column.TheVariants as column
use Rattle.gtfs_rows.specs.declared.rows.FrequencyRow.{FrequencyRow}
use Rattle.sched_load.proofs.ColumnLaws.{AtMost, any_within, both_within, judged_ok, number_ok, option_within, table_within, within_ok}
use Rattle.sched_load.proofs.Laws.{AreWithin}

-- what a chain of options gave, its parts gave
chained : {A B : Type 0} (f : A → Option B) (o : Option A) (y : B) → option_and_then f o ≡ Some y → (x : A) × (o ≡ Some x) × (f x ≡ Some y)
chained f o y e = grind arith

mapped : {A B : Type 0} (f : A → B) (o : Option A) (y : B) → option_map f o ≡ Some y → (x : A) × (o ≡ Some x) × (f x ≡ y)
mapped f o y e = grind arith

-- a digit is 9 at most
digit_ok : {C : Type 0} (b : ℕ) (rest : Option ℕ) (x : ℕ) → (if is_ascii_digit b then rest else None) ≡ Some x → (b - 48 ≤ 9 → rest ≡ Some x → C) → C
digit_ok b rest x e k = grind (arith, nat_tests)

-- hours have three digits at most
hours_ok : (bytes : List ℕ) (x : ℕ) → digits 1 3 bytes ≡ Some x → x ≤ 999
hours_ok [] x e = absurd cc
hours_ok (a ∷ []) x e = digit_ok a _ x e (λ p last. let is = same_Some _ _ last in omega (arith, p, is))
hours_ok (a ∷ b ∷ []) x e = digit_ok a _ x e (λ p more. digit_ok b _ x more (λ q last. let is = same_Some _ _ last in omega (arith, p, q, is)))
hours_ok (a ∷ b ∷ c ∷ []) x e = digit_ok a _ x e (λ p more. digit_ok b _ x more (λ q rest. digit_ok c _ x rest (λ r last. let is = same_Some _ _ last in omega (arith, p, q, r, is))))
hours_ok (a ∷ b ∷ c ∷ d ∷ bytes) x e = by (nat_le 1 (length (a ∷ b ∷ c ∷ d ∷ bytes))) (nat_le (length (a ∷ b ∷ c ∷ d ∷ bytes)) 3) refl e
  where
    by : (t u : Bool) → nat_le (length (a ∷ b ∷ c ∷ d ∷ bytes)) 3 ≡ u → (if t && u then digits_after 0 (a ∷ b ∷ c ∷ d ∷ bytes) else None) ≡ Some x → x ≤ 999
    by true true is h = absurd (let short : length (a ∷ b ∷ c ∷ d ∷ bytes) ≤ 3 = grind (arith, nat_tests, is) in omega (arith, short))
    by true false is h = absurd cc
    by false u is h = absurd cc

sixtieth_ok : (bytes : List ℕ) (x : ℕ) → sixtieth bytes ≡ Some x → x ≤ 59
sixtieth_ok bytes x e = let v = chained (within 0 59) (digits 2 2 bytes) x e in (within_ok 0 59 v.0 x v.2).1

clock_ok : (hours behind : List ℕ) (x : ℕ) → clock_of hours behind ≡ Some x → x < time_end
clock_ok hours behind x e = grind (arith, chained, hours_ok, mapped, sixtieth_ok, nat_tests)

-- a time is less than a thousand hours
time_ok : (bytes : List ℕ) (x : ℕ) → time_in bytes ≡ Some x → x < time_end
unfolding time_in
time_ok bytes x e = clock_ok (take (length bytes - 6) bytes) (drop (length bytes - 6) bytes) x e

abbrev pub IsEarly : Option ℕ → Type 0
IsEarly time = IfSome time (λ t. t < time_end)

given_ok : (bytes : List ℕ) (x : Option ℕ) → or_empty time_in bytes ≡ Some x → IsEarly x
given_ok bytes x e = grind (arith, mapped, time_ok)

time_within : (c : Column) → AreWithin (required c time_in) (λ t. t < time_end)
time_within c row cells x e = time_ok (cells c) x (judged_ok time_in row c (cells c) x e)

given_within : (c : Column) → AreWithin (required c (or_empty time_in)) IsEarly
given_within c row cells x e = given_ok (cells c) x (judged_ok (or_empty time_in) row c (cells c) x e)

-- the times of a row of stop_times.txt, where it has any
pub stop_times_early : AreWithin stop_times (λ row. IsEarly row.arrival_time × IsEarly row.departure_time)
stop_times_early =
    let a = required column.TripId id_text in
    let b = required column.StopId id_text in
    let d = required column.StopSequence (number 0 4294967295) in
    let e = required column.ArrivalTime (or_empty time_in) in
    let h = required column.DepartureTime (or_empty time_in) in
    let f = optional column.PickupType (or_empty (number 0 3)) in
    table_within _ (a ⊕ (b ⊕ (d ⊕ (e ⊕ (h ⊕ f))))) (λ v. Unit {0} × (Unit {0} × (Unit {0} × (IsEarly v.1.1.1.0 × (IsEarly v.1.1.1.1.0 × Unit {0}))))) (λ row. IsEarly row.arrival_time × IsEarly row.departure_time)
    (both_within a (b ⊕ (d ⊕ (e ⊕ (h ⊕ f)))) (λ _. Unit {0}) (λ v. Unit {0} × (Unit {0} × (IsEarly v.1.1.0 × (IsEarly v.1.1.1.0 × Unit {0})))) (any_within a)
    (both_within b (d ⊕ (e ⊕ (h ⊕ f))) (λ _. Unit {0}) (λ v. Unit {0} × (IsEarly v.1.0 × (IsEarly v.1.1.0 × Unit {0}))) (any_within b)
    (both_within d (e ⊕ (h ⊕ f)) (λ _. Unit {0}) (λ v. IsEarly v.0 × (IsEarly v.1.0 × Unit {0})) (any_within d)
    (both_within e (h ⊕ f) IsEarly (λ v. IsEarly v.0 × Unit {0}) (given_within column.ArrivalTime)
    (both_within h f IsEarly (λ _. Unit {0}) (given_within column.DepartureTime) (any_within f))))))
    (λ v p. (p.1.1.1.0, p.1.1.1.1.0))

least_within : (low high : ℕ) (c : Column) → AreWithin (required c (number low high)) (λ n. low ≤ n)
least_within low high c row cells x e = (number_ok low high (cells c) x (judged_ok (number low high) row c (cells c) x e)).0

-- the values of a row of frequencies.txt, of which the headway is a second or more
pub record IsFrequency (row : FrequencyRow) : Type 0 where
  pub start : row.start_time < time_end
  pub end : row.end_time < time_end
  pub headway : 1 ≤ row.headway_secs
  pub exact : AtMost 1 row.exact_times

pub frequency_ranges : AreWithin frequencies IsFrequency
frequency_ranges =
    let a = required column.TripId id_text in
    let b = required column.StartTime time_in in
    let d = required column.EndTime time_in in
    let e = required column.HeadwaySecs (number 1 4294967295) in
    let f = optional column.ExactTimes (or_empty (number 0 1)) in
    table_within _ (a ⊕ (b ⊕ (d ⊕ (e ⊕ f)))) (λ v. Unit {0} × ((v.1.0 < time_end) × ((v.1.1.0 < time_end) × ((1 ≤ v.1.1.1.0) × AtMost 1 v.1.1.1.1)))) IsFrequency
    (both_within a (b ⊕ (d ⊕ (e ⊕ f))) (λ _. Unit {0}) (λ v. (v.0 < time_end) × ((v.1.0 < time_end) × ((1 ≤ v.1.1.0) × AtMost 1 v.1.1.1))) (any_within a)
    (both_within b (d ⊕ (e ⊕ f)) (λ t. t < time_end) (λ v. (v.0 < time_end) × ((1 ≤ v.1.0) × AtMost 1 v.1.1)) (time_within column.StartTime)
    (both_within d (e ⊕ f) (λ t. t < time_end) (λ v. (1 ≤ v.0) × AtMost 1 v.1) (time_within column.EndTime)
    (both_within e f (λ n. 1 ≤ n) (AtMost 1) (least_within 1 4294967295 column.HeadwaySecs) (option_within 0 1 column.ExactTimes)))))
    (λ v p. record { start = p.1.0; end = p.1.1.0; headway = p.1.1.1.0; exact = p.1.1.1.1 })
