-- What the columns of a file say of each row.
use Rattle.std.proofs.Common.{◌≡◌, ℕ, ◌≤◌, List, ap, subst, arith}
use Rattle.std.specs.Prelude.{Option, Some, None, Ok}
use Rattle.std.proofs.lemmas.Bool.Decides.{nat_tests}
use Rattle.answer_defs.specs.Steps.{◌>>=◌}
use Rattle.gtfs_rows.specs.Tables.{Columns, ◌⊕◌, table, cell_value, required, optional, exceptions, calendar, routes, trips, stop_times}
use Rattle.text_defs.specs.Numbers.{number as digits_number, within}
use Rattle.text_defs.specs.Times.{time_in}
use Rattle.gtfs_rows.specs.Values.{id_text, any_text, number, or_empty}
use Rattle.gtfs_rows.specs.declared.column.Column.{Column}
use Rattle.gtfs_rows.specs.declared.column.Column.TheVariants as column
use Rattle.sched_load_defs.specs.Services.{flags_of}
use Rattle.sched_load.proofs.Laws.{AreWithin, and_then_ok}

pub both_within : {A B : Type 0} (a : Columns A) (b : Columns B) (P : A → Type 0) (Q : B → Type 0) → AreWithin a P → AreWithin b Q → AreWithin (a ⊕ b) (λ v. P v.0 × Q v.1)
both_within {A = A} {B = B} a b P Q p q row cells (x, y) e =
    and_then_ok (a.read row cells) (λ u. ◌>>=◌ (b.read row cells) (λ v. Ok (u, v))) (x, y) e
    (λ u first rest. and_then_ok (b.read row cells) (λ v. Ok (u, v)) (x, y) rest
    (λ v second last. let pair : (u, v) ≡ (x, y) = cc in (subst P (ap (λ (w : A × B). w.0) pair) (p row cells u first), subst Q (ap (λ (w : A × B). w.1) pair) (q row cells v second))))

pub table_within : {A R : Type 0} (make : A → R) (a : Columns A) (P : A → Type 0) (Q : R → Type 0) → AreWithin a P → ((v : A) → P v → Q (make v)) → AreWithin (table make a) Q
table_within make a P Q p f row cells x e =
    and_then_ok (a.read row cells) (λ values. Ok (make values)) x e
    (λ v first last. let is : make v ≡ x = cc in subst Q is (f v (p row cells v first)))

pub any_within : {A : Type 0} (a : Columns A) → AreWithin a (λ _. Unit {0})
any_within a row cells x e = tt

pub judged_ok : {A : Type 0} (form : List ℕ → Option A) (row : ℕ) (column : Column) (cell : List ℕ) (x : A) → cell_value form row column cell ≡ Ok x → form cell ≡ Some x
unfolding cell_value
judged_ok form row column cell x e = grind arith

-- a value of a range lies in it
pub within_ok : (low high v x : ℕ) → within low high v ≡ Some x → (low ≤ x) × (x ≤ high)
within_ok low high v x e = grind (arith, nat_tests)

pub number_ok : (low high : ℕ) (bytes : List ℕ) (x : ℕ) → number low high bytes ≡ Some x → (low ≤ x) × (x ≤ high)
unfolding number digits_number
number_ok low high bytes x e = grind (arith, within_ok)

number_within : (low high : ℕ) (c : Column) → AreWithin (required c (number low high)) (λ n. n ≤ high)
number_within low high c row cells x e = (number_ok low high (cells c) x (judged_ok (number low high) row c (cells c) x e)).1

abbrev pub AtMost : ℕ → Option ℕ → Type 0
AtMost high None = Unit {0}
AtMost high (Some n) = n ≤ high

empty_ok : (low high : ℕ) (bytes : List ℕ) (x : Option ℕ) → or_empty (number low high) bytes ≡ Some x → AtMost high x
empty_ok low high bytes x e = grind (arith, number_ok)

pub option_within : (low high : ℕ) (c : Column) → AreWithin (optional c (or_empty (number low high))) (AtMost high)
option_within low high c row cells x e = empty_ok low high (cells c) x (judged_ok (or_empty (number low high)) row c (cells c) x e)

pub exception_types : AreWithin exceptions (λ row. row.exception_type ≤ 2)
exception_types = grind (arith, any_within, both_within, number_within, table_within)

pub route_types : AreWithin routes (λ row. row.route_type ≤ 9999)
route_types = grind (arith, any_within, both_within, number_within, table_within)

pub trip_directions : AreWithin trips (λ row. AtMost 1 row.direction_id)
trip_directions =
    let a = required column.TripId id_text in
    let b = required column.RouteId id_text in
    let d = required column.ServiceId id_text in
    let e = optional column.TripHeadsign any_text in
    let f = optional column.DirectionId (or_empty (number 0 1)) in
    table_within _ (a ⊕ (b ⊕ (d ⊕ (e ⊕ f)))) (λ v. Unit {0} × (Unit {0} × (Unit {0} × (Unit {0} × AtMost 1 v.1.1.1.1)))) (λ row. AtMost 1 row.direction_id)
    (both_within a (b ⊕ (d ⊕ (e ⊕ f))) (λ _. Unit {0}) (λ v. Unit {0} × (Unit {0} × (Unit {0} × AtMost 1 v.1.1.1))) (any_within a)
    (both_within b (d ⊕ (e ⊕ f)) (λ _. Unit {0}) (λ v. Unit {0} × (Unit {0} × AtMost 1 v.1.1)) (any_within b)
    (both_within d (e ⊕ f) (λ _. Unit {0}) (λ v. Unit {0} × AtMost 1 v.1) (any_within d)
    (both_within e f (λ _. Unit {0}) (AtMost 1) (any_within e) (option_within 0 1 column.DirectionId)))))
    (λ v p. p.1.1.1.1)

pub pickup_types : AreWithin stop_times (λ row. AtMost 3 row.pickup_type)
pickup_types =
    let a = required column.TripId id_text in
    let b = required column.StopId id_text in
    let d = required column.StopSequence (number 0 4294967295) in
    let e = required column.ArrivalTime (or_empty time_in) in
    let h = required column.DepartureTime (or_empty time_in) in
    let f = optional column.PickupType (or_empty (number 0 3)) in
    table_within _ (a ⊕ (b ⊕ (d ⊕ (e ⊕ (h ⊕ f))))) (λ v. Unit {0} × (Unit {0} × (Unit {0} × (Unit {0} × (Unit {0} × AtMost 3 v.1.1.1.1.1))))) (λ row. AtMost 3 row.pickup_type)
    (both_within a (b ⊕ (d ⊕ (e ⊕ (h ⊕ f)))) (λ _. Unit {0}) (λ v. Unit {0} × (Unit {0} × (Unit {0} × (Unit {0} × AtMost 3 v.1.1.1.1)))) (any_within a)
    (both_within b (d ⊕ (e ⊕ (h ⊕ f))) (λ _. Unit {0}) (λ v. Unit {0} × (Unit {0} × (Unit {0} × AtMost 3 v.1.1.1))) (any_within b)
    (both_within d (e ⊕ (h ⊕ f)) (λ _. Unit {0}) (λ v. Unit {0} × (Unit {0} × AtMost 3 v.1.1)) (any_within d)
    (both_within e (h ⊕ f) (λ _. Unit {0}) (λ v. Unit {0} × AtMost 3 v.1) (any_within e)
    (both_within h f (λ _. Unit {0}) (AtMost 3) (any_within h) (option_within 0 3 column.PickupType))))))
    (λ v p. p.1.1.1.1.1)

pub calendar_flags : AreWithin calendar (λ row. flags_of row ≤ 127)
calendar_flags = grind (arith, any_within, both_within, number_within, table_within)
