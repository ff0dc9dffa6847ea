-- The rows of stop_times.txt, as they are gathered one after another.
use Rattle.std.proofs.Common.{◌≡◌, ℕ, zero, suc, ◌<◌, List, [], ◌∷◌, ◌++◌, length, map, take, refl, sym, ap, ◌∙◌, subst, arith}
use Rattle.std.specs.Prelude.{slice_get, Some, None, Result, Ok, Vec}
use Rattle.std.specs.declared.alloc.Global.{Global}
use Rattle.std.proofs.lemmas.List.{append_assoc, length-map, map-append}
use Rattle.std.proofs.lemmas.Option.{none-some as none_some, same_Some}
use Rattle.answer_defs.specs.Steps.{◌>>=◌}
use Rattle.gtfs_rows.specs.declared.column.Column.{Column}
use Rattle.gtfs_rows.specs.declared.fault.RowFault.{RowFault}
use Rattle.gtfs_rows.specs.declared.rows.StopRow.{StopRow}
use Rattle.gtfs_rows.specs.declared.rows.TripRow.{TripRow}
use Rattle.gtfs_rows.specs.declared.rows.StopTimeRow.{StopTimeRow}
use Rattle.sched_load_defs.specs.References.{unknown_in_stop_time}
use Rattle.sched_load.specs.declared.visits.Visit.{Visit}
use Rattle.sched_load.specs.Listed.{visit_of}
use Rattle.sched_load.specs.Visits.{Gathers, Skips}

-- rows behind others; a fault stays
abbrev pub behind : List StopTimeRow → Result (List StopTimeRow) RowFault → Result (List StopTimeRow) RowFault
behind done told = told >>= λ more. Ok (done ++ more)

behind_nil : (told : Result (List StopTimeRow) RowFault) → told ≡ behind [] told
behind_nil told = grind arith

behind_more : (done : List StopTimeRow) (row : StopTimeRow) (told : Result (List StopTimeRow) RowFault) → behind done (told >>= λ rows. Ok (row ∷ rows)) ≡ behind (done ++ row ∷ []) told
behind_more done row told = grind (arith, append_assoc)

-- the rows so far, and those to come, are all that is told
pub record Passing (start left : Result (List StopTimeRow) RowFault) : Type 0 where
  pub done : List StopTimeRow
  pub told : start ≡ behind done left

pub passing_start : (start : Result (List StopTimeRow) RowFault) → Passing start start
passing_start start = record { done = []; told = behind_nil start }

pub passing_more : (start left after : Result (List StopTimeRow) RowFault) (row : StopTimeRow) → Passing start left → left ≡ (after >>= λ rows. Ok (row ∷ rows)) → Passing start after
passing_more start left after row h e = record { done = h.done ++ row ∷ []; told = h.told ∙ ap (behind h.done) e ∙ behind_more h.done row after }

module _ (trips : List TripRow) (stops : List StopRow) where
  -- the rows so far are gathered, and refer to known rows
  pub record Gathering (start left : Result (List StopTimeRow) RowFault) (visits : List Visit) : Type 0 where
    pub passing : Passing start left
    pub visits_of : visits ≡ map (visit_of trips stops) passing.done
    pub known : (i : ℕ) (row : StopTimeRow) → slice_get passing.done i ≡ Some row → unknown_in_stop_time trips stops row ≡ None

  pub gathering_start : (start : Result (List StopTimeRow) RowFault) (visits : List Visit) → visits ≡ [] → Gathering start start visits
  unfolding passing_start
  gathering_start start visits e = record { passing = passing_start start; visits_of = e; known = λ i row at. absurd (none_some row at) }

  at_end : (xs : List StopTimeRow) (row : StopTimeRow) → ((i : ℕ) (x : StopTimeRow) → slice_get xs i ≡ Some x → unknown_in_stop_time trips stops x ≡ None) → unknown_in_stop_time trips stops row ≡ None
      → (i : ℕ) (x : StopTimeRow) → slice_get (xs ++ row ∷ []) i ≡ Some x → unknown_in_stop_time trips stops x ≡ None
  at_end [] row h known zero x at = subst (λ r. unknown_in_stop_time trips stops r ≡ None) (same_Some _ _ at) known
  at_end [] row h known (suc i) x at = absurd (none_some x at)
  at_end (y ∷ ys) row h known zero x at = h 0 x at
  at_end (y ∷ ys) row h known (suc i) x at = at_end ys row (λ j z. h (suc j) z) known i x at

  pub gathering_more : (start left after : Result (List StopTimeRow) RowFault) (visits more : List Visit) (row : StopTimeRow) (visit : Visit) → Gathering start left visits → left ≡ (after >>= λ rows. Ok (row ∷ rows))
      → (visit ≡ visit_of trips stops row) × (unknown_in_stop_time trips stops row ≡ None) → more ≡ visits ++ visit ∷ [] → Gathering start after more
  unfolding passing_more
  gathering_more start left after visits more row visit h e v is = record {
    passing = passing_more start left after row h.passing e;
    visits_of = is ∙ ap (λ vs. vs ++ visit ∷ []) h.visits_of ∙ ap (λ w. map (visit_of trips stops) h.passing.done ++ w ∷ []) v.0 ∙ sym (map-append (visit_of trips stops) h.passing.done (row ∷ []));
    known = at_end h.passing.done row h.known v.1;
  }

  long : (start left : Result (List StopTimeRow) RowFault) (visits : List Visit) → (h : Gathering start left visits) → length visits ≡ length h.passing.done
  long start left visits h = ap length h.visits_of ∙ length-map h.passing.done (visit_of trips stops)

  take_front : (xs ys : List StopTimeRow) → take (length xs) (xs ++ ys) ≡ xs
  take_front [] ys = refl
  take_front (x ∷ xs) ys = ap (λ zs. x ∷ zs) (take_front xs ys)

  get_front : (xs ys : List StopTimeRow) (i : ℕ) → i < length xs → slice_get (xs ++ ys) i ≡ slice_get xs i
  get_front [] ys i h = absurd (omega (arith, h))
  get_front (x ∷ xs) ys zero h = refl
  get_front (x ∷ xs) ys (suc i) h = get_front xs ys i (omega (arith, h))

  get_next : (xs ys : List StopTimeRow) (row : StopTimeRow) → slice_get (xs ++ row ∷ ys) (length xs) ≡ Some row
  get_next [] ys row = refl
  get_next (x ∷ xs) ys row = get_next xs ys row

  -- a row that refers to nothing, and those behind it
  pub gathering_unknown : (start left after : Result (List StopTimeRow) RowFault) (visits : Vec Visit Global) (row : StopTimeRow) (c : Column) → Gathering start left visits.items → left ≡ (after >>= λ rows. Ok (row ∷ rows))
      → Skips after (Ok tt) → unknown_in_stop_time trips stops row ≡ Some c → Gathers trips stops start (Ok (record { visits = visits; unknown = Some c }))
  gathering_unknown start left after visits row c h e rest u =
      let n = long start left visits.items h in
      let rows : List StopTimeRow = h.passing.done ++ row ∷ rest.0 in (
        h.passing.done ++ row ∷ rest.0,
        h.passing.told ∙ ap (behind h.passing.done) (e ∙ ap (λ r. r >>= λ rows. Ok (row ∷ rows)) rest.1),
        record {
          visits_of = h.visits_of ∙ ap (map (visit_of trips stops)) (sym (ap (λ m. take m (h.passing.done ++ row ∷ rest.0)) n ∙ take_front h.passing.done (row ∷ rest.0)));
          known = λ i r l at. h.known i r (sym (get_front h.passing.done (row ∷ rest.0) i (omega (arith, l, n))) ∙ at);
          end = (row, ap (slice_get (h.passing.done ++ row ∷ rest.0)) n ∙ get_next h.passing.done rest.0 row, u);
        },
      )

below_more : (n : ℕ) (visits : List Visit) (visit : Visit) → ((i : ℕ) (v : Visit) → slice_get visits i ≡ Some v → v.trip < n) → visit.trip < n → (i : ℕ) (v : Visit) → slice_get (visits ++ visit ∷ []) i ≡ Some v → v.trip < n
below_more n [] visit h l zero v at = subst (λ w. w.trip < n) (same_Some _ _ at) l
below_more n [] visit h l (suc i) v at = absurd (none_some v at)
below_more n (w ∷ ws) visit h l zero v at = h 0 v at
below_more n (w ∷ ws) visit h l (suc i) v at = below_more n ws visit (λ j z. h (suc j) z) l i v at

pub below_pushed : (n : ℕ) (visits more : List Visit) (visit : Visit) → ((i : ℕ) (v : Visit) → slice_get visits i ≡ Some v → v.trip < n) → visit.trip < n → more ≡ visits ++ visit ∷ [] → (i : ℕ) (v : Visit) → slice_get more i ≡ Some v → v.trip < n
below_pushed n visits more visit h l is i v at = below_more n visits visit h l i v (ap (λ vs. slice_get vs i) (sym is) ∙ at)
