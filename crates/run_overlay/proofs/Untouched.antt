-- For a run that no change of an id touches the same update counts before and after.
use Rattle.std.proofs.Common.{◌≡◌, ℕ, List, [], ◌∷◌, Bool, true, false, cond, Option, Some, None, map, filter, refl, sym, ap, ◌∙◌}
use Rattle.std.specs.Prelude.{◌||◌, T}
use Rattle.std.specs.Cmp.{IsTotalOrder}
use Rattle.std.specs.FinMap.{IsAntisymmetric, find, is_sorted}
use Rattle.std.specs.FinMap.Entries.{same_entries}
use Rattle.std.specs.List.{cons_option, filter_map, list_any}
use Rattle.std.specs.Ordering.{eq_by_cmp}
use Rattle.std.specs.Str.{bytes_eq}
use Rattle.std.specs.declared.cmp.Ordering.{Ordering}
use Rattle.std.proofs.lemmas.List.Folds.{list_any-append}
use Rattle.feed_defs.specs.declared.history.Stored.{Stored}
use Rattle.feed_defs.specs.History.{Change as EntityChange}
use Rattle.feed_defs.proofs.Applied.{sorted_filter}
use Rattle.order.specs.Order.{greatest}
use Rattle.sched_types.specs.declared.rows.Run.{Run}
use Rattle.sched_types.specs.Timetable.{Timetable}
use Rattle.board_defs.specs.Choice.{Update, choice_cmp, chosen, is_about}
use Rattle.shared_list.proofs.Middle.{second_so}
use Rattle.run_overlay.specs.declared.id_changes.IdChange.{IdChange}
use Rattle.run_overlay.specs.Changing.{id_change_by, run_in, runs_of_id, touched_runs}
use Rattle.run_overlay.specs.Keys.{id_cmp}
use Rattle.run_overlay.specs.Kept.{IsTable, mentions_of}
use Rattle.run_overlay.specs.Sought.{is_same_run}
use Rattle.run_overlay.specs.Updates.{update_alone, updates_of}
use Rattle.run_overlay.proofs.AllRuns.{any_flat, any_map}
use Rattle.run_overlay.proofs.Choosing.{mentions, run_itself}
use Rattle.run_overlay.proofs.Mentioned.{before_is, id_same, ids_exact, ids_total, mention_held}
use Rattle.keyed_lists.proofs.Tables.{none_after}

-- ---- lists

-- of what items give, what passes a test
abbrev passing_option : {X : Type 0} → (X → Bool) → Option X → Bool
passing_option p None = false
passing_option p (Some x) = p x

abbrev kept_given : {A X : Type 0} → (A → Option X) → (X → Bool) → List A → List A
kept_given f p items = filter (λ a. passing_option p (f a)) items

filter_given : {A X : Type 0} (f : A → Option X) (p : X → Bool) (items : List A) → filter p (filter_map f items) ≡ filter_map f (kept_given f p items)
filter_given f p [] = refl
filter_given {A} {X} f p (a ∷ items) = by_option (f a) refl (filter_given f p items) where
  by_test : (x : X) (b : Bool) → f a ≡ Some x → filter p (filter_map f items) ≡ filter_map f (kept_given f p items)
      → cond b (x ∷ filter p (filter_map f items)) (filter p (filter_map f items)) ≡ filter_map f (cond b (a ∷ kept_given f p items) (kept_given f p items))
  by_test x true at rest = ap (λ xs. x ∷ xs) rest ∙ sym (ap (λ o. cons_option o (filter_map f (kept_given f p items))) at)
  by_test x false at rest = rest

  by_option : (given : Option X) → f a ≡ given → filter p (filter_map f items) ≡ filter_map f (kept_given f p items)
      → filter p (cons_option given (filter_map f items)) ≡ filter_map f (cond (passing_option p given) (a ∷ kept_given f p items) (kept_given f p items))
  by_option None at rest = rest
  by_option (Some x) at rest = by_test x (p x) at rest

-- where none of some answers yes, one that is among them does not
none_of_any : (q : List ℕ → Bool) (ids : List (List ℕ)) (id : List ℕ) → list_any q ids ≡ false → list_any (bytes_eq id) ids ≡ true → q id ≡ false
none_of_any q [] id none among = absurd (cc)
none_of_any q (i ∷ ids) id none among = by_test (bytes_eq id i) refl (q i) refl none among (λ later there. none_of_any q ids id later there) where
  by_test : (b : Bool) → bytes_eq id i ≡ b → (c : Bool) → q i ≡ c → (c || list_any q ids) ≡ false → (b || list_any (bytes_eq id) ids) ≡ true
      → (list_any q ids ≡ false → list_any (bytes_eq id) ids ≡ true → q id ≡ false) → q id ≡ false
  by_test b at true here none among rest = absurd (cc)
  by_test true at false here none among rest = ap q (id_same id i at) ∙ here
  by_test false at false here none among rest = rest none among

neither : (a b : Bool) → (a || b) ≡ false → (a ≡ false) × (b ≡ false)
neither true b e = absurd (cc)
neither false b e = (refl, e)

-- ---- what is found among the entries that pass a test of their values

abbrev if_passing : {V : Type 0} → (V → Bool) → Option V → Option V
if_passing p None = None
if_passing p (Some v) = cond (p v) (Some v) None

module _ {I : Type 0} {cmp : I → I → Ordering} (o : IsTotalOrder cmp) (exact : IsAntisymmetric cmp) {V : Type 0} where
  abbrev passing : (V → Bool) → List (I × V) → List (I × V)
  passing p es = filter (λ e. p e.1) es

  find_passing : (p : V → Bool) (q : I) (es : List (I × V)) → T (is_sorted cmp es) → find cmp q (passing p es) ≡ if_passing p (find cmp q es)
  find_passing p q [] up = refl
  find_passing p q (e ∷ es) up = by_tests (p e.1) refl (eq_by_cmp cmp q e.0) refl (find_passing p q es (second_so _ _ up)) where
    by_tests : (b : Bool) → p e.1 ≡ b → (c : Bool) → eq_by_cmp cmp q e.0 ≡ c → find cmp q (passing p es) ≡ if_passing p (find cmp q es)
        → find cmp q (cond b (e ∷ passing p es) (passing p es)) ≡ if_passing p (cond c (Some e.1) (find cmp q es))
    by_tests true passes true tie rest = ap (λ c. cond c (Some e.1) (find cmp q (passing p es))) tie ∙ sym (ap (λ b. cond b (Some e.1) None) passes)
    by_tests true passes false apart rest = ap (λ c. cond c (Some e.1) (find cmp q (passing p es))) apart ∙ rest
    by_tests false fails true tie rest = rest ∙ ap (if_passing p) (none_after o exact q e es up tie) ∙ sym (ap (λ b. cond b (Some e.1) None) fails)
    by_tests false fails false apart rest = rest

-- ---- runs

module _ (t : Timetable) (old new : List EntityChange) (was : IsTable old) (is : IsTable new) (ids : List (List ℕ)) (others : (id : List ℕ) → list_any (bytes_eq id) ids ≡ false → find id_cmp id new ≡ find id_cmp id old) (run : Run) where
  abbrev change_at : List ℕ → IdChange
  change_at id = id_change_by t (mentions_of t old).links new id

  -- what is held is about the run
  abbrev is_about_held : Stored → Bool
  is_about_held s = passing_option (is_about t run) (update_alone s)

  -- then its run is among those of its id
  not_about : (held : Option Stored) → list_any (is_same_run run) (run_in (mention_held t held)) ≡ false → if_passing is_about_held held ≡ None
  not_about None none = refl
  not_about (Some s) none = by_update (update_alone s) refl where
    by_about : (u : Update) → update_alone s ≡ Some u → (b : Bool) → is_about t run u ≡ b → cond b (Some s) None ≡ None
    by_about u has false about = refl
    by_about u has true about =
        let there : list_any (is_same_run run) (run_in (mention_held t (Some s))) ≡ true =
        ap (λ m. list_any (is_same_run run) (run_in m)) (mentions t s u run has about) ∙ ap (λ b. b || false) (run_itself run) in
        absurd (let clash : true ≡ false = sym there ∙ none in cc)

    by_update : (given : Option Update) → update_alone s ≡ given → cond (passing_option (is_about t run) given) (Some s) None ≡ None
    by_update None has = refl
    by_update (Some u) has = by_about u has (is_about t run u) refl

  before_mention : (id : List ℕ) → (change_at id).before ≡ mention_held t (find id_cmp id old)
  unfolding mentions_of
  before_mention id = before_is t old was id

  -- where no run of an id is this one, what is held under it is not about this run, neither before nor after
  of_untouched : (id : List ℕ) → list_any (is_same_run run) (runs_of_id (change_at id)) ≡ false → if_passing is_about_held (find id_cmp id new) ≡ if_passing is_about_held (find id_cmp id old)
  of_untouched id none =
      let parts = neither (list_any (is_same_run run) (run_in (change_at id).before)) (list_any (is_same_run run) (run_in (mention_held t (find id_cmp id new))))
      (sym (list_any-append (is_same_run run) (run_in (change_at id).before) (run_in (mention_held t (find id_cmp id new)))) ∙ none) in
      not_about (find id_cmp id new) parts.1
      ∙ sym (not_about (find id_cmp id old) (ap (λ m. list_any (is_same_run run) (run_in m)) (sym (before_mention id)) ∙ parts.0))

  module _ (none : list_any (is_same_run run) (touched_runs (map change_at ids)) ≡ false) where
    none_by_id : list_any (λ id. list_any (is_same_run run) (runs_of_id (change_at id))) ids ≡ false
    none_by_id =
        sym
        (any_flat (is_same_run run) runs_of_id (map change_at ids)
        ∙ any_map (λ one. list_any (is_same_run run) (runs_of_id one)) change_at ids)
        ∙ none

    same_held : (id : List ℕ) → if_passing is_about_held (find id_cmp id new) ≡ if_passing is_about_held (find id_cmp id old)
    same_held id = by_among (list_any (bytes_eq id) ids) refl where
      by_among : (b : Bool) → list_any (bytes_eq id) ids ≡ b → if_passing is_about_held (find id_cmp id new) ≡ if_passing is_about_held (find id_cmp id old)
      by_among true among = of_untouched id (none_of_any (λ i. list_any (is_same_run run) (runs_of_id (change_at i))) ids id none_by_id among)
      by_among false apart = ap (if_passing is_about_held) (others id apart)

    abbrev about_in : List EntityChange → List EntityChange
    about_in es = filter (λ e. is_about_held e.1) es

    same_about : about_in new ≡ about_in old
    same_about =
        same_entries id_cmp ids_total ids_exact (about_in new) (about_in old) (sorted_filter (λ e. is_about_held e.1) new is.rising) (sorted_filter (λ e. is_about_held e.1) old was.rising)
        (λ id. find_passing ids_total ids_exact is_about_held id new is.rising ∙ same_held id ∙ sym (find_passing ids_total ids_exact is_about_held id old was.rising))

    -- the same update counts
    pub untouched : chosen t (updates_of new) run ≡ chosen t (updates_of old) run
    unfolding chosen updates_of
    untouched =
        ap (greatest choice_cmp)
        (filter_given (λ change. update_alone change.1) (is_about t run) new
        ∙ ap (filter_map (λ change. update_alone change.1)) same_about
        ∙ sym (filter_given (λ change. update_alone change.1) (is_about t run) old))
