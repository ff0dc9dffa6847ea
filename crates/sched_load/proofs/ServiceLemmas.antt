-- Services as they are gathered, and the rows of calendar_dates.txt, one after another.
use Rattle.std.proofs.Common.{◌≡◌, ℕ, zero, suc, ◌+◌, ◌<◌, Bool, true, false, not, ◌&&◌, ◌||◌, List, [], ◌∷◌, ◌++◌, length, map, take, get_or, nat_eq, refl, sym, ap, ◌∙◌, subst, arith}
use Rattle.std.specs.Prelude.{slice_get, Option, Some, is_some, bytes_eq, Result, Err, IfOk, Vec, option_map}
use Rattle.std.specs.declared.alloc.AllocError.{AllocError}
use Rattle.std.specs.declared.alloc.Global.{Global}
use Rattle.std.specs.List.{list_any}
use Rattle.std.specs.Borrow.{Bor}
use Rattle.std.specs.BTreeMap.{insert_entry}
use Rattle.std.specs.Cmp.Lexicographic.{slice_cmp}
use Rattle.std.specs.Ordering.{nat_cmp}
use Rattle.std.specs.FinMap.Entries.{put}
use Rattle.std.proofs.lemmas.Cmp.{nat_list_cmp_total}
use Rattle.std.proofs.lemmas.List.{map_more, append_assoc}
use Rattle.std.proofs.lemmas.Option.{none-some as none_some, same_Some, slice_get-map}
use Rattle.gtfs_rows.specs.declared.rows.ExceptionRow.{ExceptionRow}
use Rattle.service_day.specs.declared.services.Exception.{Exception}
use Rattle.sched_types.specs.Timetable.{RisesById, number_of}
use Rattle.sched_load_defs.specs.declared.fault.File.TheVariants as file
use Rattle.sched_load_defs.specs.declared.fault.LoadFault.TheVariants as fault
use Rattle.sched_load_defs.specs.Numbers.{by_id, rows_with_keys}
use Rattle.sched_load_defs.specs.References.{refers_to_none, consistent_exceptions, row_at}
use Rattle.sched_load_defs.proofs.Listing.{paired}
use Rattle.sched_load.specs.Groups.{exceptions_of, exception_of}
use Rattle.sched_load.specs.Listed.{PutsNew}
use Rattle.row_tables.specs.Order.{texts_seen}
use Rattle.sched_load.specs.Services.{ids_gathered}
use Rattle.row_tables.proofs.Faults.{Judged, judged_twin, judged_more}
use Rattle.sched_load.proofs.Grouping.{group_judged, groups_more}
use Rattle.row_tables.proofs.Keyed.{keyed_push, keyed_paired, put_map}
use Rattle.row_tables.proofs.Places.{text_cmp, text_inserted, true_false}
use Rattle.row_tables.proofs.Numbered.{has_by_number, text_same, text_itself}

or_true : (a b : Bool) → b ≡ true → (a || b) ≡ true
or_true a b e = grind arith

gathered_push : (ids : List (List ℕ)) (id : List ℕ) → ids_gathered (ids ++ id ∷ []) ≡ put (slice_cmp nat_cmp) id tt (ids_gathered ids)
gathered_push ids id =
    ap (map (λ (entry : List ℕ × List ℕ). (entry.0, tt))) (keyed_push (slice_cmp nat_cmp) nat_list_cmp_total text_same (λ i. i) ids id (λ k x at tied. sym (text_same id x tied)))
    ∙ sym (put_map (slice_cmp nat_cmp) (λ (i : Unit {0}). id) (λ (i : List ℕ). tt) id id (rows_with_keys (slice_cmp nat_cmp) (λ i. i) ids))

-- the service of one row more
pub gathered_more : {R : Type 0} (service_of : R → List ℕ) (rows : List R) (i : ℕ) (row : R) (k : Bor (List ℕ)) (before : List (List ℕ)) (old new : List (Bor (List ℕ) × Unit {0})) → i < length rows → row ≡ get_or rows i row → k.now ≡ service_of row → new ≡ insert_entry text_cmp old k tt
    → texts_seen old ≡ ids_gathered (before ++ map service_of (take i rows)) → texts_seen new ≡ ids_gathered (before ++ map service_of (take (i + 1) rows))
gathered_more service_of rows i row k before old new within is key inserted so_far =
    ap texts_seen inserted ∙ text_inserted k tt old ∙ ap (λ id. put (slice_cmp nat_cmp) id tt (texts_seen old)) key ∙ ap (put (slice_cmp nat_cmp) (service_of row) tt) so_far
    ∙ sym (gathered_push (before ++ map service_of (take i rows)) (service_of row))
    ∙ ap ids_gathered (append_assoc before (map service_of (take i rows)) (service_of row ∷ []))
    ∙ ap (λ ids. ids_gathered (before ++ ids)) (ap (λ r. map service_of (take i rows) ++ service_of r ∷ []) is ∙ sym (map_more service_of rows i row within))

keys_of_pairs : (ids : List (List ℕ)) → map (λ (entry : List ℕ × Unit {0}). entry.0) (map (λ (entry : List ℕ × List ℕ). (entry.0, tt)) (paired (slice_cmp nat_cmp) nat_list_cmp_total text_same (λ i. i) ids)) ≡ ids
keys_of_pairs [] = refl
keys_of_pairs (id ∷ ids) = ap (λ rest. id ∷ rest) (keys_of_pairs ids)

-- the ids that were gathered are listed
pub gathered_all : (ids : List (List ℕ)) → map (λ entry. entry.0) (ids_gathered ids) ≡ by_id (λ id. id) ids
gathered_all ids = ap (λ es. map (λ (entry : List ℕ × Unit {0}). entry.0) (map (λ (entry : List ℕ × List ℕ). (entry.0, tt)) es)) (keyed_paired (slice_cmp nat_cmp) nat_list_cmp_total text_same (λ i. i) ids) ∙ keys_of_pairs (by_id (λ id. id) ids)

abbrev pub same_exception : ExceptionRow → ExceptionRow → Bool
same_exception a b = bytes_eq a.service_id b.service_id && nat_eq a.date b.date

module _ (services : List (List ℕ)) (up : RisesById (λ id. id) services) (rows : List ExceptionRow) (n : ℕ) (row : ExceptionRow) (s : ℕ) (before after : List (List (ℕ × Exception))) (fresh : Bool) where
  turned_puts : before ≡ exceptions_of services (take n rows) → PutsNew before after s row.date (exception_of row) fresh → PutsNew (exceptions_of services (take n rows)) after s row.date (exception_of row) fresh
  turned_puts b puts = subst (λ x. PutsNew x after s row.date (exception_of row) fresh) b puts

  pub exception_twin : Judged file.CalendarDates refers_to_none same_exception rows n → slice_get rows n ≡ Some row → number_of (λ id. id) services row.service_id ≡ Some s
      → before ≡ exceptions_of services (take n rows) → PutsNew before after s row.date (exception_of row) fresh → fresh ≡ false → consistent_exceptions rows ≡ Err (fault.Duplicate file.CalendarDates (row_at n))
  exception_twin j at e b puts old =
      judged_twin file.CalendarDates refers_to_none same_exception rows n row j at refl
      (group_judged (λ r. r.service_id) (λ v. v.date) exception_of (λ id. id) services up rows n row at s e after fresh (turned_puts b puts) ∙ ap not old)

  pub exceptions_more : Judged file.CalendarDates refers_to_none same_exception rows n → slice_get rows n ≡ Some row → number_of (λ id. id) services row.service_id ≡ Some s
      → before ≡ exceptions_of services (take n rows) → PutsNew before after s row.date (exception_of row) fresh → fresh ≡ true
      → Judged file.CalendarDates refers_to_none same_exception rows (n + 1) × (after ≡ exceptions_of services (take (n + 1) rows))
  exceptions_more j at e b puts new = (
    judged_more file.CalendarDates refers_to_none same_exception rows n row j at refl
        (group_judged (λ r. r.service_id) (λ v. v.date) exception_of (λ id. id) services up rows n row at s e after fresh (turned_puts b puts) ∙ ap not new),
    groups_more (λ r. r.service_id) (λ v. v.date) exception_of (λ id. id) services up rows n row at s e after fresh (turned_puts b puts) new,
  )

pub gathered_ok : (names : Result (Vec (List ℕ) Global) AllocError) (ids : List (List ℕ)) (es : List (List ℕ × Unit {0})) → IfOk names (λ v. v.items ≡ map (λ entry. entry.0) es) → es ≡ ids_gathered ids → IfOk names (λ v. v.items ≡ by_id (λ id. id) ids)
gathered_ok names ids es h e = grind (arith, gathered_all)

-- a service that a row of calendar_dates.txt names has a number
pub any_at : {X : Type 0} (test : X → Bool) (xs : List X) (k : ℕ) (x : X) → slice_get xs k ≡ Some x → test x ≡ true → list_any test xs ≡ true
any_at test [] k x at e = absurd (none_some x at)
any_at test (y ∷ ys) zero x at e = ap (λ b. b || list_any test ys) (ap test (same_Some _ _ at) ∙ e)
any_at test (y ∷ ys) (suc k) x at e = or_true (test y) (list_any test ys) (any_at test ys k x at e)

any_behind : {X : Type 0} (test : X → Bool) (xs ys : List X) → list_any test ys ≡ true → list_any test (xs ++ ys) ≡ true
any_behind test [] ys e = e
any_behind test (x ∷ xs) ys e = or_true (test x) (list_any test (xs ++ ys)) (any_behind test xs ys e)

pub some_of : {A : Type 0} (o : Option A) → is_some o ≡ true → (x : A) × (o ≡ Some x)
some_of o e = grind (arith, true_false)

pub known_service : (before : List (List ℕ)) (rows : List ExceptionRow) (i : ℕ) (row : ExceptionRow) → slice_get rows i ≡ Some row → (number : ℕ) × (number_of (λ id. id) (by_id (λ id. id) (before ++ map (λ r. r.service_id) rows)) row.service_id ≡ Some number)
known_service before rows i row at =
    let ids = before ++ map (λ (r : ExceptionRow). r.service_id) rows in
    some_of _ (has_by_number (λ (id : List ℕ). id) row.service_id ids
    ∙ any_behind (λ id. bytes_eq id row.service_id) before (map (λ (r : ExceptionRow). r.service_id) rows)
    (any_at (λ id. bytes_eq id row.service_id) (map (λ (r : ExceptionRow). r.service_id) rows) i row.service_id (slice_get-map (λ (r : ExceptionRow). r.service_id) rows i ∙ ap (option_map (λ (r : ExceptionRow). r.service_id)) at) (text_itself row.service_id)))
