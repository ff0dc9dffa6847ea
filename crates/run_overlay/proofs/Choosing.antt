-- The first candidate of a run is the update that counts for it.
use Rattle.std.proofs.Common.{◌≡◌, ℕ, List, [], ◌∷◌, true, false, ◌&&◌, cond, nat_eq, Option, Some, None, map, filter, refl, sym, ap, subst, ◌∙◌, Less, Equal, Greater}
use Rattle.std.specs.Prelude.{IfSome, T, not, slice_get, unwrap_or}
use Rattle.std.specs.Cmp.{IsTotalOrder, unsigned_tied}
use Rattle.std.specs.FinMap.{find, is_sorted}
use Rattle.std.specs.List.{AllByRecursion, filter_map}
use Rattle.std.specs.Option.{option_and_then, option_map}
use Rattle.std.specs.Ordering.{is_eq, is_gt, is_lt, nat_cmp, ordering_reverse, ordering_then}
use Rattle.std.specs.Cmp.Lexicographic.{nat_list_cmp_total, slice_cmp}
use Rattle.std.specs.declared.cmp.Ordering.{Ordering}
use Rattle.std.proofs.lemmas.Bool.{and_parts, eq-eqb, eqb-true}
use Rattle.std.proofs.lemmas.Cmp.{back_total, nat_cmp_total, on_total, then_total, tied_itself}
use Rattle.rt_types.specs.declared.trip_update.TripUpdate.{TripUpdate}
use Rattle.feed_defs.specs.declared.history.Stored.{Stored}
use Rattle.feed_defs.specs.History.{Change as EntityChange}
use Rattle.order.proofs.Lists.{equal_then}
use Rattle.order.proofs.OrderedMap.{each_greatest}
use Rattle.sched_types.specs.declared.rows.Run.{Run}
use Rattle.sched_types.specs.Timetable.{Timetable, is_run}
use Rattle.trip_match_defs.specs.declared.found.Found.{Found}
use Rattle.trip_match_defs.specs.declared.found.Found.TheVariants as found
use Rattle.trip_match_defs.specs.Matching.{match_of}
use Rattle.board_defs.specs.Choice.{Update, choice_cmp, chosen, is_about, is_run_found, update_of}
use Rattle.shared_list.specs.Order.{entries_from}
use Rattle.shared_list.proofs.Middle.{second_so, sorted_behind}
use Rattle.run_overlay.specs.declared.candidate.Candidate.{Candidate}
use Rattle.run_overlay.specs.declared.mention.Mention.{Mention}
use Rattle.keyed_lists.specs.Keyed.{by_key}
use Rattle.run_overlay.specs.Keys.{CandidateKey, candidate_cmp, candidate_key, id_cmp, run_cmp, weight_cmp}
use Rattle.run_overlay.specs.Kept.{IsTable, candidate_of}
use Rattle.run_overlay.specs.Orders.{candidates_exact, candidates_total, runs_total, weights_exact, weights_total}
use Rattle.run_overlay.specs.Turning.{first_of, is_of_run}
use Rattle.run_overlay.specs.Updates.{about_found, about_stored, about_update, held_alone, mention_in, update_alone, updates_of}
use Rattle.keyed_lists.proofs.Effects.{sorted_by_key}
use Rattle.keyed_lists.proofs.Entries.{HasItsKey, all_from, all_given, all_passing, by_key_keyed, by_key_so, first_least, found_each, none_passing, of_some}
use Rattle.order.proofs.Greatest.{above_greatest, neither_above, none_greatest}
use Rattle.run_overlay.proofs.Matches.{RunsIfFound, match_runs}
use Rattle.run_overlay.proofs.Mentioned.{candidate_at, candidate_is, find_candidate, ids_exact, ids_total, mention_held, own_ids}
use Rattle.keyed_lists.proofs.Tables.{all_each, all_of, all_with, found_so, tie_self}

choices_total : IsTotalOrder choice_cmp
choices_total =
    then_total (on_total (λ (u : Update). u.stamp) nat_cmp_total)
    (then_total (on_total (λ (u : Update). u.feed) (back_total nat_cmp_total)) (on_total (λ (u : Update). u.id) nat_list_cmp_total))

-- ---- runs

-- two runs tie just where their numbers are equal
pub run_tied : (a b : Run) → is_eq (run_cmp a b) ≡ (nat_eq a.trip b.trip && nat_eq a.day b.day)
run_tied a b =
    equal_then (nat_cmp a.trip b.trip) (nat_cmp a.day b.day)
    ∙ ap (λ c. c && is_eq (nat_cmp a.day b.day)) (unsigned_tied a.trip b.trip)
    ∙ ap (λ c. nat_eq a.trip b.trip && c) (unsigned_tied a.day b.day)

pub run_same : (a b : Run) → (nat_eq a.trip b.trip && nat_eq a.day b.day) ≡ true → a ≡ b
run_same a b same =
    let parts = and_parts (nat_eq a.trip b.trip) (nat_eq a.day b.day) same in
    λ i. record { trip = eqb-true a.trip b.trip parts.0 i; day = eqb-true a.day b.day parts.1 i }

pub run_itself : (run : Run) → (nat_eq run.trip run.trip && nat_eq run.day run.day) ≡ true
run_itself run = ap (λ b. b && nat_eq run.day run.day) (eq-eqb run.trip run.trip refl) ∙ eq-eqb run.day run.day refl

-- what is about a run is found as that run
pub found_is : (run : Run) (f : Found) → is_run_found run f ≡ true → f ≡ found.Run run
found_is run (found.Run other) same = ap found.Run (run_same other run same)
found_is run found.Added same = cc
found_is run (found.NoMatch why) same = cc

-- what counts for a run is about it, so that it is one of the timetable
about_runs : (t : Timetable) (run : Run) (u : Update) → is_about t run u ≡ true → is_run t run ≡ true
about_runs t run u about = subst (RunsIfFound t) (found_is run (match_of t u.update.trip u.stamp) about) (match_runs t u.update.trip u.stamp)

pub chosen_runs : (t : Timetable) (updates : List Update) (run : Run) → IfSome (chosen t updates run) (λ u. is_run t run ≡ true)
unfolding chosen
chosen_runs t updates run =
    each_greatest choice_cmp (λ u. is_run t run ≡ true) (filter (is_about t run) updates)
    (all_each (λ u. Unit {0} × (is_about t run u ≡ true)) (λ u. is_run t run ≡ true) (λ u passes. about_runs t run u passes.1) (filter (is_about t run) updates)
    (all_passing (λ u. Unit {0}) (is_about t run) updates (all_of (λ u. Unit {0}) (λ u. tt) updates)))

-- ---- updates of entities

-- the update of an entity has its id, and is of the feed alone
pub id_of_update : (s : Stored) (given : Option TripUpdate) (u : Update) → update_of (held_alone s) given ≡ Some u → u.id ≡ s.entity.id
id_of_update s None u at = cc
id_of_update s (Some update) u at = sym (ap (λ o. unwrap_or (option_map (λ (x : Update). x.id) o) []) at)

feed_of_update : (s : Stored) (given : Option TripUpdate) (u : Update) → update_of (held_alone s) given ≡ Some u → u.feed ≡ 0
feed_of_update s None u at = cc
feed_of_update s (Some update) u at = sym (ap (λ o. unwrap_or (option_map (λ (x : Update). x.feed) o) 0) at)

pub held_trip : (s : Stored) (given : Option TripUpdate) (u : Update) → update_of (held_alone s) given ≡ Some u → given ≡ Some u.update
held_trip s None u at = cc
held_trip s (Some update) u at = ap (option_map (λ (x : Update). x.update)) at

-- A mention of what a table has under an id: the entity, its update, the run that this is about, and its stamp.
pub record IsMentioned (t : Timetable) (held : Option Stored) (mention : Mention) : Type 0 where
  pub stored : Stored
  pub update : Update
  pub at : held ≡ Some stored
  pub has : update_alone stored ≡ Some update
  pub about : match_of t update.update.trip update.stamp ≡ found.Run mention.run
  pub stamp : update.stamp ≡ mention.stamp

module _ (t : Timetable) where
  by_match : (s : Stored) (u : Update) (f : Found) (m : Mention) → update_alone s ≡ Some u → match_of t u.update.trip u.stamp ≡ f → mention_in (about_found u.stamp f) ≡ Some m → IsMentioned t (Some s) m
  by_match s u (found.Run run) m has about at =
      let is : (record { run = run; stamp = u.stamp }) ≡ m = cc in
      record {
        stored = s;
        update = u;
        at = refl;
        has = has;
        about = about ∙ ap (λ (x : Mention). found.Run x.run) is;
        stamp = ap (λ (x : Mention). x.stamp) is;
      }
  by_match s u found.Added m has about at = absurd (cc)
  by_match s u (found.NoMatch why) m has about at = absurd (cc)

  by_update : (s : Stored) (given : Option Update) (m : Mention) → update_alone s ≡ given → mention_in (about_update t given) ≡ Some m → IsMentioned t (Some s) m
  by_update s None m has at = absurd (cc)
  by_update s (Some u) m has at = by_match s u (match_of t u.update.trip u.stamp) m has refl at

  pub mentioned : (held : Option Stored) (m : Mention) → mention_held t held ≡ Some m → IsMentioned t held m
  mentioned None m at = absurd (cc)
  mentioned (Some s) m at = by_update s (update_alone s) m refl at

  -- an update about a run mentions it
  pub mentions : (s : Stored) (u : Update) (run : Run) → update_alone s ≡ Some u → is_about t run u ≡ true → mention_held t (Some s) ≡ Some (record { run = run; stamp = u.stamp })
  mentions s u run has about =
      ap (λ given. mention_in (about_update t given)) has
      ∙ ap (λ f. mention_in (about_found u.stamp f)) (found_is run (match_of t u.update.trip u.stamp) about)

-- ---- the candidates of a table

module _ (t : Timetable) (es : List EntityChange) (table : IsTable es) where
  abbrev candidates : List (CandidateKey × Candidate)
  candidates = by_key candidate_cmp candidate_key (filter_map (candidate_of t) es)

  -- each update is that of what is held under its id
  abbrev IsHeld : Update → Type 0
  IsHeld u = option_and_then update_alone (find id_cmp u.id es) ≡ Some u

  abbrev IsOwn : EntityChange → Type 0
  IsOwn e = (find id_cmp e.0 es ≡ Some e.1) × (e.1.entity.id ≡ e.0)

  own_entries : AllByRecursion IsOwn es
  own_entries =
      all_with (λ e. find id_cmp e.0 es ≡ Some e.1) (λ (e : EntityChange). e.1.entity.id ≡ e.0) IsOwn (λ e found own. (found, own)) es
      (found_each ids_total ids_exact (λ (s : Stored). s.entity.id) es table.rising) (own_ids es table)

  held_update : (e : EntityChange) → IsOwn e → (u : Update) → update_alone e.1 ≡ Some u → IsHeld u
  held_update e own u has =
      ap (λ id. option_and_then update_alone (find id_cmp id es)) (id_of_update e.1 e.1.entity.trip_update u has ∙ own.1)
      ∙ ap (option_and_then update_alone) own.0
      ∙ has

  all_held : AllByRecursion IsHeld (updates_of es)
  unfolding updates_of
  all_held = all_from (λ change. update_alone change.1) IsHeld es (all_each IsOwn (λ e. (u : Update) → update_alone e.1 ≡ Some u → IsHeld u) held_update es own_entries)

  -- each candidate is one of a mention under its id
  abbrev IsOfTable : Candidate → Type 0
  IsOfTable x = mention_held t (find id_cmp x.id es) ≡ Some x.mention

  of_entry : (e : EntityChange) (mention : Option Mention) → mention_in (about_stored t e.1) ≡ mention → find id_cmp e.0 es ≡ Some e.1
      → (x : Candidate) → option_map (λ m. record { mention = m; id = e.0 }) mention ≡ Some x → IsOfTable x
  of_entry e None about found x at = cc
  of_entry e (Some m) about found x at =
      let is : (record { mention = m; id = e.0 }) ≡ x = cc in
      ap (λ (y : Candidate). mention_held t (find id_cmp y.id es)) (sym is)
      ∙ ap (mention_held t) found
      ∙ about
      ∙ ap (λ (y : Candidate). Some y.mention) is

  candidates_so : AllByRecursion (λ e. IsOfTable e.1) candidates
  candidates_so =
      by_key_so candidates_exact (λ k x. IsOfTable x) candidate_key (filter_map (candidate_of t) es)
      (all_from (candidate_of t) IsOfTable es
      (all_each IsOwn (λ e. (x : Candidate) → candidate_of t e ≡ Some x → IsOfTable x) (λ e own x at. of_entry e (mention_in (about_stored t e.1)) refl own.0 x at) es own_entries))

  items_so : (P : Candidate → Type 0) (entries : List (CandidateKey × Candidate)) → AllByRecursion (λ e. P e.1) entries → AllByRecursion P (map (λ e. e.1) entries)
  items_so P [] all = tt
  items_so P (e ∷ entries) all = (all.0, items_so P entries all.1)

  module _ (run : Run) where
    abbrev pub as_candidate : Update → Candidate
    as_candidate u = record { mention = record { run = run; stamp = u.stamp }; id = u.id }

    -- the update that counts is that of what is held under its id, and is about the run
    abbrev pub Counts : Update → Type 0
    Counts u = IsHeld u × (is_about t run u ≡ true)

    pub chosen_so : IfSome (chosen t (updates_of es) run) Counts
    unfolding chosen
    chosen_so = each_greatest choice_cmp Counts (filter (is_about t run) (updates_of es)) (all_passing IsHeld (is_about t run) (updates_of es) all_held)

    -- so its run is mentioned there
    mentioned_at : (u : Update) (held : Option Stored) → option_and_then update_alone held ≡ Some u → is_about t run u ≡ true → mention_held t held ≡ Some (record { run = run; stamp = u.stamp })
    mentioned_at u None has about = absurd (cc)
    mentioned_at u (Some s) has about = mentions t s u run has about

    -- and it is among the candidates
    abbrev key_at : Update → CandidateKey
    key_at u = candidate_key (as_candidate u)

    among : (u : Update) → Counts u → find candidate_cmp (key_at u) candidates ≡ Some (as_candidate u)
    among u counts =
        find_candidate t es table (key_at u)
        ∙ candidate_is t (key_at u) (find id_cmp u.id es)
        ∙ ap (candidate_at t (key_at u) u.id) (mentioned_at u (find id_cmp u.id es) counts.0 counts.1)
        ∙ ap (λ b. cond b (Some (as_candidate u)) None) (tie_self candidates_total candidates_exact (key_at u))

    -- of a mention under an id the update is one about the run, and so not above the one that counts
    abbrev IsUnder : Update → List ℕ → Stored → Type 0
    IsUnder u id s = (v : Update) → update_alone s ≡ Some v → is_about t run v ≡ true → is_gt (choice_cmp v u) ≡ false

    none_above : (u : Update) → chosen t (updates_of es) run ≡ Some u → (id : List ℕ) → IfSome (find id_cmp id es) (IsUnder u id)
    unfolding chosen updates_of
    none_above u counts id =
        found_so ids_total ids_exact (IsUnder u) id es
        (all_given (λ change. update_alone change.1) (is_about t run) (λ v. is_gt (choice_cmp v u) ≡ false) es
        (above_greatest choices_total (filter (is_about t run) (updates_of es)) u counts))

    none_there : chosen t (updates_of es) run ≡ None → (id : List ℕ) → IfSome (find id_cmp id es) (λ s. (v : Update) → update_alone s ≡ Some v → is_about t run v ≡ true → ⊥)
    unfolding chosen updates_of
    none_there counts id =
        found_so ids_total ids_exact (λ i s. (v : Update) → update_alone s ≡ Some v → is_about t run v ≡ true → ⊥) id es
        (all_given (λ change. update_alone change.1) (is_about t run) (λ v. ⊥) es
        (none_greatest choice_cmp (λ v. ⊥) (filter (is_about t run) (updates_of es)) counts))

    is_about_it : (x : Candidate) (told : IsMentioned t (find id_cmp x.id es) x.mention) → is_of_run run x ≡ true → is_about t run told.update ≡ true
    is_about_it x told own = ap (is_run_found run) told.about ∙ own

    -- two updates of the feed are ordered as their stamps and ids are
    weighed : (v u : Update) (x : Candidate) → v.feed ≡ 0 → u.feed ≡ 0 → v.stamp ≡ x.mention.stamp → v.id ≡ x.id → choice_cmp v u ≡ weight_cmp (u.stamp, u.id) (x.mention.stamp, x.id)
    weighed v u x feed other stamp id =
        ap (λ n. ordering_then (nat_cmp v.stamp u.stamp) (ordering_then (nat_cmp n v.feed) (slice_cmp nat_cmp v.id u.id))) other
        ∙ ap (λ n. ordering_then (nat_cmp v.stamp u.stamp) (ordering_then (nat_cmp 0 n) (slice_cmp nat_cmp v.id u.id))) feed
        ∙ ap (λ n. ordering_then (nat_cmp n u.stamp) (slice_cmp nat_cmp v.id u.id)) stamp
        ∙ ap (λ i. ordering_then (nat_cmp x.mention.stamp u.stamp) (slice_cmp nat_cmp i u.id)) id

    feed_there : (held : Option Stored) (u : Update) → option_and_then update_alone held ≡ Some u → u.feed ≡ 0
    feed_there None u has = absurd (cc)
    feed_there (Some s) u has = feed_of_update s s.entity.trip_update u has

    -- what is found under an id has it
    own_id_of : (id : List ℕ) (s : Stored) → find id_cmp id es ≡ Some s → s.entity.id ≡ id
    own_id_of id s at = of_some (λ (x : Stored). x.entity.id ≡ id) (find id_cmp id es) s at (found_so ids_total ids_exact (λ i (x : Stored). x.entity.id ≡ i) id es (own_ids es table))

    -- the first of those of the run is the one that counts
    same_one : (x : Candidate) (rest : List Candidate) (u : Update) → filter (is_of_run run) (map (λ e. e.1) candidates) ≡ x ∷ rest → IsOfTable x → is_of_run run x ≡ true → chosen t (updates_of es) run ≡ Some u → Counts u → x ≡ as_candidate u
    same_one x rest u first its own counts held =
        let told = mentioned t (find id_cmp x.id es) x.mention its in
        let on_run : x.mention.run ≡ run = run_same x.mention.run run own in
        let own_id : told.update.id ≡ x.id = id_of_update told.stored told.stored.entity.trip_update told.update told.has ∙ own_id_of x.id told.stored told.at in
        let up : is_gt (weight_cmp (u.stamp, u.id) (x.mention.stamp, x.id)) ≡ false =
        ap is_gt (sym (weighed told.update u x (feed_of_update told.stored told.stored.entity.trip_update told.update told.has) (feed_there (find id_cmp u.id es) u held.0) told.stamp own_id))
        ∙ of_some (IsUnder u x.id) (find id_cmp x.id es) told.stored told.at (none_above u counts x.id) told.update told.has (is_about_it x told own) in
        let least : is_gt (candidate_cmp (candidate_key x) (key_at u)) ≡ false =
        of_some (λ y. is_of_run run y ≡ true → is_gt (candidate_cmp (candidate_key x) (candidate_key y)) ≡ false) (find candidate_cmp (key_at u) candidates) (as_candidate u) (among u held)
        (found_so candidates_total candidates_exact (λ k y. is_of_run run y ≡ true → is_gt (candidate_cmp (candidate_key x) (candidate_key y)) ≡ false) (key_at u) candidates
        (first_least candidates_total candidates_exact candidate_key (is_of_run run) candidates (sorted_by_key candidates_total candidate_key (filter_map (candidate_of t) es))
        (by_key_keyed candidates_total candidates_exact candidate_key (filter_map (candidate_of t) es)) x rest first))
        (run_itself run) in
        let tie : run_cmp x.mention.run run ≡ Equal = ap (λ r. run_cmp r run) on_run ∙ tied_itself runs_total run in
        let down : is_gt (weight_cmp (x.mention.stamp, x.id) (u.stamp, u.id)) ≡ false =
        sym (ap (λ r. is_gt (ordering_then r (weight_cmp (x.mention.stamp, x.id) (u.stamp, u.id)))) tie) ∙ least in
        let weights : (x.mention.stamp, x.id) ≡ (u.stamp, u.id) = weights_exact (x.mention.stamp, x.id) (u.stamp, u.id) (neither_above weights_total (x.mention.stamp, x.id) (u.stamp, u.id) down up) in
        λ i. record { mention = record { run = on_run i; stamp = (weights i).0 }; id = (weights i).1 }

    first_with : (firsts : List Candidate) → filter (is_of_run run) (map (λ e. e.1) candidates) ≡ firsts → AllByRecursion (λ x. IsOfTable x × (is_of_run run x ≡ true)) firsts
        → (best : Option Update) → chosen t (updates_of es) run ≡ best → IfSome best Counts → slice_get firsts 0 ≡ option_map as_candidate best
    first_with [] at all None counts held = refl
    first_with [] at all (Some u) counts held = absurd (of_some (λ y. is_of_run run y ≡ true → ⊥) (find candidate_cmp (key_at u) candidates) (as_candidate u) (among u held)
        (found_so candidates_total candidates_exact (λ k y. is_of_run run y ≡ true → ⊥) (key_at u) candidates (none_passing (λ e. e.1) (is_of_run run) candidates at))
        (run_itself run))
    first_with (x ∷ rest) at all None counts held =
        let told = mentioned t (find id_cmp x.id es) x.mention all.0.0 in
        absurd (of_some (λ s. (v : Update) → update_alone s ≡ Some v → is_about t run v ≡ true → ⊥) (find id_cmp x.id es) told.stored told.at (none_there counts x.id) told.update told.has (is_about_it x told all.0.1))
    first_with (x ∷ rest) at all (Some u) counts held = ap Some (same_one x rest u at all.0.0 all.0.1 counts held)

    -- The first candidate of a run is the update that counts for it.
    pub first_chosen : first_of run candidates ≡ option_map as_candidate (chosen t (updates_of es) run)
    first_chosen =
        first_with (filter (is_of_run run) (map (λ e. e.1) candidates)) refl
        (all_passing IsOfTable (is_of_run run) (map (λ e. e.1) candidates) (items_so IsOfTable candidates candidates_so))
        (chosen t (updates_of es) run) refl chosen_so

-- ---- the first candidate from the run on

module _ (run : Run) where
  abbrev pub from_run : List (CandidateKey × Candidate) → List (CandidateKey × Candidate)
  from_run entries = entries_from candidate_cmp (run, None) entries

  -- if it is of the run
  abbrev pub head_of : List Candidate → Option Candidate
  head_of [] = None
  head_of (x ∷ xs) = cond (is_of_run run x) (Some x) None

  abbrev run_order : Candidate → Ordering
  run_order x = run_cmp x.mention.run run

  of_run : (x : Candidate) → is_of_run run x ≡ is_eq (run_order x)
  of_run x = sym (run_tied x.mention.run run)

  abbrev those_of : List (CandidateKey × Candidate) → List Candidate
  those_of es = filter (is_of_run run) (map (λ e. e.1) es)

  -- those of later runs are not of the run
  none_later : (es : List (CandidateKey × Candidate)) → AllByRecursion (λ e. run_order e.1 ≡ Greater) es → those_of es ≡ []
  none_later [] all = refl
  none_later (e ∷ es) all =
      ap (λ b. cond b (e.1 ∷ those_of es) (those_of es)) (of_run e.1 ∙ ap is_eq all.0)
      ∙ none_later es all.1

  -- what goes after one of a later run is of a later run
  later_on : (x y : Candidate) → run_order x ≡ Greater → candidate_cmp (candidate_key x) (candidate_key y) ≡ Less → run_order y ≡ Greater
  later_on x y later less = by_order (run_cmp x.mention.run y.mention.run) refl less where
    back : (r : Ordering) → run_cmp x.mention.run y.mention.run ≡ r → r ≡ Less → run_order y ≡ Greater
    back r at is =
        runs_total.antisymm y.mention.run run
        ∙ ap ordering_reverse
        (runs_total.trans run x.mention.run y.mention.run
        (runs_total.antisymm run x.mention.run ∙ ap ordering_reverse later) (at ∙ is))

    by_order : (r : Ordering) → run_cmp x.mention.run y.mention.run ≡ r → ordering_then r (weight_cmp (x.mention.stamp, x.id) (y.mention.stamp, y.id)) ≡ Less → run_order y ≡ Greater
    by_order Less at less = back Less at refl
    by_order Equal at less = sym (runs_total.congr x.mention.run y.mention.run run at) ∙ later
    by_order Greater at less = cc

  -- the first from the run on, if it is of the run, is the first of the run
  pub first_from : (es : List (CandidateKey × Candidate)) → T (is_sorted candidate_cmp es) → AllByRecursion (HasItsKey candidate_key) es → head_of (map (λ e. e.1) (from_run es)) ≡ first_of run es
  first_from [] up keyed = refl
  first_from (e ∷ es) up keyed =
      ap (λ k. head_of (map (λ y. y.1) (cond (not (is_lt (candidate_cmp k (run, None)))) (e ∷ from_run es) (from_run es)))) keyed.0
      ∙ by_order (run_order e.1) refl (first_from es (second_so _ _ up) keyed.1)
      ∙ ap (λ b. slice_get (cond b (e.1 ∷ those_of es) (those_of es)) 0) (sym (of_run e.1))
    where
      later_all : run_order e.1 ≡ Greater → AllByRecursion (λ y. run_order y.1 ≡ Greater) es
      later_all later =
          all_with (λ y. candidate_cmp e.0 y.0 ≡ Less) (λ y. y.0 ≡ candidate_key y.1) (λ y. run_order y.1 ≡ Greater)
          (λ y less own. later_on e.1 y.1 later (ap (λ k. candidate_cmp k (candidate_key y.1)) (sym keyed.0) ∙ ap (candidate_cmp e.0) (sym own) ∙ less))
          es (sorted_behind candidates_total e es up) keyed.1

      by_order : (r : Ordering) → run_order e.1 ≡ r → head_of (map (λ y. y.1) (from_run es)) ≡ slice_get (those_of es) 0
          → head_of (map (λ y. y.1) (cond (not (is_lt (ordering_then r Greater))) (e ∷ from_run es) (from_run es))) ≡ slice_get (cond (is_eq r) (e.1 ∷ those_of es) (those_of es)) 0
      by_order Less at later = later
      by_order Equal at later = ap (λ b. cond b (Some e.1) None) (of_run e.1 ∙ ap is_eq at)
      by_order Greater at later =
          ap (λ b. cond b (Some e.1) None) (of_run e.1 ∙ ap is_eq at)
          ∙ sym (ap (λ xs. slice_get xs 0) (none_later es (later_all at)))
