-- The lists of what updates are about, after the changes of some ids, are those of the table that there is then.
use Rattle.std.proofs.Common.{◌≡◌, ℕ, List, [], ◌∷◌, ◌++◌, Bool, true, false, cond, Option, Some, None, map, refl, sym, ap, subst, ◌∙◌, inl, inr}
use Rattle.std.specs.Prelude.{◌⊎◌, IfSome}
use Rattle.std.specs.Cmp.{IsTotalOrder}
use Rattle.std.specs.Cmp.Lexicographic.{bytes_decides, nat_list_cmp_total}
use Rattle.std.specs.FinMap.{IsAntisymmetric, find, slice_cmp-IsAntisymmetric, nat_cmp-IsAntisymmetric}
use Rattle.std.specs.List.{AllByRecursion, filter_map, flat_map, list_any}
use Rattle.std.specs.Option.{option_map}
use Rattle.std.specs.Ordering.{eq_by_cmp}
use Rattle.std.specs.Str.{bytes_eq}
use Rattle.std.proofs.lemmas.List.Folds.{flat_map-map}
use Rattle.std.proofs.lemmas.Map.Text.{is_eq-slice_cmp}
use Rattle.shared_list.specs.declared.change.Change.{Change}
use Rattle.feed_defs.specs.declared.history.Stored.{Stored}
use Rattle.feed_defs.specs.History.{Change as EntityChange}
use Rattle.sched_types.specs.Timetable.{Timetable}
use Rattle.run_overlay.specs.declared.candidate.Candidate.{Candidate}
use Rattle.run_overlay.specs.declared.id_changes.IdChange.{IdChange}
use Rattle.run_overlay.specs.declared.link.Link.{Link}
use Rattle.run_overlay.specs.declared.mention.About.{About}
use Rattle.run_overlay.specs.declared.mention.About.TheVariants as about
use Rattle.run_overlay.specs.declared.mention.Mention.{Mention}
use Rattle.run_overlay.specs.Changing.{id_change_by, link_change, link_changes, going, coming, candidate_changes, added_change, added_changes, only_added, mentions_after}
use Rattle.keyed_lists.specs.Keyed.{by_key, changed}
use Rattle.run_overlay.specs.Keys.{CandidateKey, id_cmp, link_key, stored_key, candidate_key, candidate_cmp}
use Rattle.run_overlay.specs.Kept.{IsTable, added_of, candidate_of, if_added, link_of, mentions_of}
use Rattle.run_overlay.specs.Orders.{candidates_total, candidates_exact}
use Rattle.run_overlay.specs.Updates.{about_held, about_stored, mention_in}
use Rattle.keyed_lists.proofs.Effects.{IsSegment, all_changed, effect, flat_same, sorted_by_key}
use Rattle.keyed_lists.proofs.Tables.{TellsId, all_each, all_of, find_of_entries, found_so, given_at, if_tied, tie_same, tie_self}

-- ---- ids

pub ids_total : IsTotalOrder id_cmp
ids_total = nat_list_cmp_total

pub ids_exact : IsAntisymmetric id_cmp
ids_exact = slice_cmp-IsAntisymmetric nat_cmp-IsAntisymmetric

pub id_tie : (a b : List ℕ) → eq_by_cmp id_cmp a b ≡ bytes_eq a b
id_tie a b = is_eq-slice_cmp a b

pub id_same : (a b : List ℕ) → bytes_eq a b ≡ true → a ≡ b
id_same a b e = (bytes_decides a b).0 e

-- ---- what a table holds

own_each : (items : List Stored) → AllByRecursion (λ (e : EntityChange). e.1.entity.id ≡ e.0) (map (λ s. (s.entity.id, s)) items)
own_each [] = tt
own_each (s ∷ items) = (refl, own_each items)

-- each entity of a table has the id under which it is held
pub own_ids : (es : List EntityChange) → IsTable es → AllByRecursion (λ (e : EntityChange). e.1.entity.id ≡ e.0) es
own_ids es table =
    subst (λ (xs : List EntityChange). AllByRecursion (λ e. e.1.entity.id ≡ e.0) xs) table.keyed (own_each (map (λ c. c.1) es))

module _ (t : Timetable) where
  -- the run that what is held under an id is about
  abbrev pub mention_held : Option Stored → Option Mention
  mention_held found = mention_in (about_held t found)

  -- ---- links

  abbrev link_with : List ℕ → Mention → Link
  link_with id mention = record { id = id; mention = mention }

  abbrev pub link_at : List ℕ → Option Stored → Option Link
  link_at id found = given_at id_cmp link_key (λ k. k) (link_of t) id found

  link_tells : (id : List ℕ) (mention : Option Mention) → TellsId id_cmp link_key (λ k. k) id (option_map (link_with id) mention)
  link_tells id None = tt
  link_tells id (Some mention) = λ k tie. tie_same ids_total ids_exact k id tie

  pub find_link : (es : List EntityChange) → IsTable es → (id : List ℕ) → find id_cmp id (by_key id_cmp link_key (filter_map (link_of t) es)) ≡ link_at id (find id_cmp id es)
  find_link es table id =
      find_of_entries ids_total ids_exact ids_total link_key (λ k. k) (link_of t) id es table.rising
      (all_of (λ e. TellsId id_cmp link_key (λ k. k) e.0 (link_of t e)) (λ e. link_tells e.0 (mention_in (about_stored t e.1))) es)

  own_link : (id : List ℕ) (mention : Option Mention) → if_tied id_cmp link_key id (option_map (link_with id) mention) ≡ option_map (link_with id) mention
  own_link id None = refl
  own_link id (Some mention) = ap (λ b. cond b (Some (link_with id mention)) None) (tie_self ids_total ids_exact id)

  -- it is that of the run that the entity is about
  link_is : (id : List ℕ) (found : Option Stored) → link_at id found ≡ option_map (link_with id) (mention_held found)
  link_is id None = refl
  link_is id (Some s) = own_link id (mention_in (about_stored t s))

  mention_back : (id : List ℕ) (mention : Option Mention) → option_map (λ (link : Link). link.mention) (option_map (link_with id) mention) ≡ mention
  mention_back id None = refl
  mention_back id (Some mention) = refl

  -- so the links of a table tell the run that an id's entity is about
  pub before_is : (es : List EntityChange) → IsTable es → (id : List ℕ) → option_map (λ (link : Link). link.mention) (find id_cmp id (by_key id_cmp link_key (filter_map (link_of t) es))) ≡ mention_held (find id_cmp id es)
  before_is es table id =
      ap (option_map (λ (link : Link). link.mention)) (find_link es table id ∙ link_is id (find id_cmp id es))
      ∙ mention_back id (mention_held (find id_cmp id es))

  other_link : (k id : List ℕ) → eq_by_cmp id_cmp k id ≡ false → (before now : Option Mention) (found : Option Link) → effect id_cmp link_key k (link_change id before now) found ≡ found
  other_link k id e before (Some mention) found = ap (λ b. cond b (Some (link_with id mention)) found) e
  other_link k id e (Some mention) None found = ap (λ b. cond b None found) e
  other_link k id e None None found = refl

  its_link : (id : List ℕ) (before now : Option Mention) (found : Option Link) → (found ≡ option_map (link_with id) before) ⊎ (found ≡ option_map (link_with id) now)
      → effect id_cmp link_key id (link_change id before now) found ≡ option_map (link_with id) now
  its_link id before (Some mention) found fine = ap (λ b. cond b (Some (link_with id mention)) found) (tie_self ids_total ids_exact id)
  its_link id (Some mention) None found fine = ap (λ b. cond b None found) (tie_self ids_total ids_exact id)
  its_link id None None found (inl e) = e
  its_link id None None found (inr e) = e

  -- ---- candidates

  abbrev pub candidate_with : List ℕ → Mention → Candidate
  candidate_with id mention = record { mention = mention; id = id }

  abbrev pub weight_id : Option (ℕ × List ℕ) → List ℕ
  weight_id None = []
  weight_id (Some weight) = weight.1

  abbrev pub id_of : CandidateKey → List ℕ
  id_of k = weight_id k.1

  abbrev pub candidate_at : CandidateKey → List ℕ → Option Mention → Option Candidate
  candidate_at k id mention = if_tied candidate_cmp candidate_key k (option_map (candidate_with id) mention)

  abbrev pub candidate_given : CandidateKey → Option Stored → Option Candidate
  candidate_given k found = given_at candidate_cmp candidate_key id_of (candidate_of t) k found

  candidate_tells : (id : List ℕ) (mention : Option Mention) → TellsId candidate_cmp candidate_key id_of id (option_map (candidate_with id) mention)
  candidate_tells id None = tt
  candidate_tells id (Some mention) = λ k tie. ap id_of (tie_same candidates_total candidates_exact k (candidate_key (candidate_with id mention)) tie)

  pub find_candidate : (es : List EntityChange) → IsTable es → (k : CandidateKey) → find candidate_cmp k (by_key candidate_cmp candidate_key (filter_map (candidate_of t) es)) ≡ candidate_given k (find id_cmp (id_of k) es)
  find_candidate es table k =
      find_of_entries ids_total ids_exact candidates_total candidate_key id_of (candidate_of t) k es table.rising
      (all_of (λ e. TellsId candidate_cmp candidate_key id_of e.0 (candidate_of t e)) (λ e. candidate_tells e.0 (mention_in (about_stored t e.1))) es)

  pub candidate_is : (k : CandidateKey) (found : Option Stored) → candidate_given k found ≡ candidate_at k (id_of k) (mention_held found)
  candidate_is k None = refl
  candidate_is k (Some s) = refl

  abbrev candidate_change : List ℕ → Option Mention → Option Mention → List (Change Candidate CandidateKey)
  candidate_change id before now = going id before ++ coming id now

  abbrev has_key : CandidateKey → List ℕ → Mention → Bool
  has_key k id mention = eq_by_cmp candidate_cmp k (candidate_key (candidate_with id mention))

  other_key : (k : CandidateKey) (id : List ℕ) → bytes_eq (id_of k) id ≡ false → (mention : Mention) → has_key k id mention ≡ false
  other_key k id other mention = by_test (has_key k id mention) refl where
    by_test : (b : Bool) → has_key k id mention ≡ b → b ≡ false
    by_test false tie = refl
    by_test true tie =
        let own : id_of k ≡ id = ap id_of (tie_same candidates_total candidates_exact k (candidate_key (candidate_with id mention)) tie) in
        sym (ap (λ i. bytes_eq i id) own ∙ (bytes_decides id id).1 refl) ∙ other

  other_candidate : (k : CandidateKey) (id : List ℕ) → bytes_eq (id_of k) id ≡ false → (before now : Option Mention) (found : Option Candidate) → effect candidate_cmp candidate_key k (candidate_change id before now) found ≡ found
  other_candidate k id e None None found = refl
  other_candidate k id e (Some b) None found = ap (λ c. cond c None found) (other_key k id e b)
  other_candidate k id e None (Some n) found = ap (λ c. cond c (Some (candidate_with id n)) found) (other_key k id e n)
  other_candidate k id e (Some b) (Some n) found =
      ap (λ c. cond c (Some (candidate_with id n)) (cond (has_key k id b) None found)) (other_key k id e n)
      ∙ ap (λ c. cond c None found) (other_key k id e b)

  gone : (b : Bool) (x : Candidate) (found : Option Candidate) → (found ≡ cond b (Some x) None) ⊎ (found ≡ None) → cond b None found ≡ None
  gone true x found fine = refl
  gone false x found (inl e) = e
  gone false x found (inr e) = e

  its_candidate : (k : CandidateKey) (id : List ℕ) (before now : Option Mention) (found : Option Candidate) → (found ≡ candidate_at k id before) ⊎ (found ≡ candidate_at k id now)
      → effect candidate_cmp candidate_key k (candidate_change id before now) found ≡ candidate_at k id now
  its_candidate k id None None found (inl e) = e
  its_candidate k id None None found (inr e) = e
  its_candidate k id (Some b) None found fine = gone (has_key k id b) (candidate_with id b) found fine
  its_candidate k id None (Some n) found fine = by_test (has_key k id n) fine where
    by_test : (c : Bool) → (found ≡ None) ⊎ (found ≡ cond c (Some (candidate_with id n)) None) → cond c (Some (candidate_with id n)) found ≡ cond c (Some (candidate_with id n)) None
    by_test true fine = refl
    by_test false (inl e) = e
    by_test false (inr e) = e
  its_candidate k id (Some b) (Some n) found fine = by_test (has_key k id n) fine where
    by_test : (c : Bool) → (found ≡ candidate_at k id (Some b)) ⊎ (found ≡ cond c (Some (candidate_with id n)) None)
        → cond c (Some (candidate_with id n)) (cond (has_key k id b) None found) ≡ cond c (Some (candidate_with id n)) None
    by_test true fine = refl
    by_test false fine = gone (has_key k id b) (candidate_with id b) found fine

  -- ---- entities with updates of added trips

  abbrev added_held : Option Stored → Option Stored
  added_held None = None
  added_held (Some s) = if_added (about_stored t s) s

  abbrev added_at : List ℕ → Option Stored → Option Stored
  added_at id found = given_at id_cmp stored_key (λ k. k) (added_of t) id found

  added_tells : (id : List ℕ) (s : Stored) (kind : About) → s.entity.id ≡ id → TellsId id_cmp stored_key (λ k. k) id (if_added kind s)
  added_tells id s (about.Run mention) own = tt
  added_tells id s about.Added own = λ k tie. tie_same ids_total ids_exact k s.entity.id tie ∙ own
  added_tells id s about.Nothing own = tt

  find_added : (es : List EntityChange) → IsTable es → (id : List ℕ) → find id_cmp id (by_key id_cmp stored_key (filter_map (added_of t) es)) ≡ added_at id (find id_cmp id es)
  find_added es table id =
      find_of_entries ids_total ids_exact ids_total stored_key (λ k. k) (added_of t) id es table.rising
      (all_each (λ e. e.1.entity.id ≡ e.0) (λ e. TellsId id_cmp stored_key (λ k. k) e.0 (added_of t e)) (λ e own. added_tells e.0 e.1 (about_stored t e.1) own) es (own_ids es table))

  -- an entity that is held has the id
  abbrev HasId : List ℕ → Option Stored → Type 0
  HasId id None = Unit {0}
  HasId id (Some s) = s.entity.id ≡ id

  other_added : (k id : List ℕ) → eq_by_cmp id_cmp k id ≡ false → (found : Option Stored) → HasId id found → (before : Option Stored) → effect id_cmp stored_key k (added_change id (added_held found) ∷ []) before ≡ before
  other_added k id e None own before = ap (λ b. cond b None before) e
  other_added k id e (Some s) own before = by_kind (about_stored t s) where
    by_kind : (kind : About) → effect id_cmp stored_key k (added_change id (if_added kind s) ∷ []) before ≡ before
    by_kind (about.Run mention) = ap (λ b. cond b None before) e
    by_kind about.Added = ap (λ b. cond b (Some s) before) (ap (eq_by_cmp id_cmp k) own ∙ e)
    by_kind about.Nothing = ap (λ b. cond b None before) e

  its_added : (id : List ℕ) (found : Option Stored) → HasId id found → (before : Option Stored) → effect id_cmp stored_key id (added_change id (added_held found) ∷ []) before ≡ added_at id found
  its_added id None own before = ap (λ b. cond b None before) (tie_self ids_total ids_exact id)
  its_added id (Some s) own before = by_kind (about_stored t s) where
    tie : eq_by_cmp id_cmp id s.entity.id ≡ true
    tie = ap (eq_by_cmp id_cmp id) own ∙ tie_self ids_total ids_exact id

    by_kind : (kind : About) → effect id_cmp stored_key id (added_change id (if_added kind s) ∷ []) before ≡ if_tied id_cmp stored_key id (if_added kind s)
    by_kind (about.Run mention) = ap (λ b. cond b None before) (tie_self ids_total ids_exact id)
    by_kind about.Added = ap (λ b. cond b (Some s) before) tie ∙ sym (ap (λ b. cond b (Some s) None) tie)
    by_kind about.Nothing = ap (λ b. cond b None before) (tie_self ids_total ids_exact id)

  -- ---- all three lists

  module _ (old new : List EntityChange) (was : IsTable old) (is : IsTable new) (ids : List (List ℕ)) (others : (id : List ℕ) → list_any (bytes_eq id) ids ≡ false → find id_cmp id new ≡ find id_cmp id old) where
    abbrev old_links : List (List ℕ × Link)
    old_links = by_key id_cmp link_key (filter_map (link_of t) old)

    abbrev changes : List IdChange
    changes = map (id_change_by t old_links new) ids

    abbrev mention_before : List ℕ → Option Mention
    mention_before id = mention_held (find id_cmp id old)

    abbrev mention_after : List ℕ → Option Mention
    mention_after id = mention_held (find id_cmp id new)

    same_bytes : (k id : List ℕ) → bytes_eq k id ≡ false → eq_by_cmp id_cmp k id ≡ false
    same_bytes k id e = id_tie k id ∙ e

    found_id : (id : List ℕ) → HasId id (find id_cmp id new)
    found_id id = by_found (find id_cmp id new) (found_so ids_total ids_exact (λ i s. s.entity.id ≡ i) id new (own_ids new is)) where
      by_found : (found : Option Stored) → IfSome found (λ s. s.entity.id ≡ id) → HasId id found
      by_found None own = tt
      by_found (Some s) own = own

    -- links
    abbrev link_segment : List ℕ → List (Change Link (List ℕ))
    link_segment id = link_change id (mention_before id) (mention_after id)

    links_segments : (k id : List ℕ) → IsSegment id_cmp link_key k link_segment (bytes_eq k) (link_at k (find id_cmp k new)) (λ found. (found ≡ link_at k (find id_cmp k old)) ⊎ (found ≡ link_at k (find id_cmp k new))) id
    links_segments k id = record {
      apart = λ e found. other_link k id (same_bytes k id e) (mention_before id) (mention_after id) found;
      own = λ e found fine.
          subst (λ i. effect id_cmp link_key k (link_segment i) found ≡ link_at k (find id_cmp k new)) (id_same k id e)
          (its_link k (mention_before k) (mention_after k) found (by_fine found fine) ∙ sym (link_is k (find id_cmp k new)));
    } where
      by_fine : (found : Option Link) → (found ≡ link_at k (find id_cmp k old)) ⊎ (found ≡ link_at k (find id_cmp k new))
          → (found ≡ option_map (link_with k) (mention_before k)) ⊎ (found ≡ option_map (link_with k) (mention_after k))
      by_fine found (inl e) = inl (e ∙ link_is k (find id_cmp k old))
      by_fine found (inr e) = inr (e ∙ link_is k (find id_cmp k new))

    links_are : changed id_cmp link_key old_links (flat_map link_changes changes) ≡ by_key id_cmp link_key (filter_map (link_of t) new)
    links_are =
        ap (changed id_cmp link_key old_links)
        (flat_map-map link_changes (id_change_by t old_links new) ids
        ∙ flat_same (λ id. link_changes (id_change_by t old_links new id)) link_segment (λ id. ap (λ before. link_change id before (mention_after id)) (before_is old was id)) ids)
        ∙ all_changed ids_total ids_exact link_key (λ k. bytes_eq k) link_segment (λ k. link_at k (find id_cmp k old)) (λ k. link_at k (find id_cmp k new)) ids (λ k e. ap (link_at k) (others k e))
        old_links (by_key id_cmp link_key (filter_map (link_of t) new)) (sorted_by_key ids_total link_key (filter_map (link_of t) old)) (sorted_by_key ids_total link_key (filter_map (link_of t) new))
        (find_link old was) (find_link new is) links_segments

    -- candidates
    abbrev candidate_segment : List ℕ → List (Change Candidate CandidateKey)
    candidate_segment id = candidate_change id (mention_before id) (mention_after id)

    candidates_segments : (k : CandidateKey) (id : List ℕ) → IsSegment candidate_cmp candidate_key k candidate_segment (bytes_eq (id_of k)) (candidate_given k (find id_cmp (id_of k) new)) (λ found. (found ≡ candidate_given k (find id_cmp (id_of k) old)) ⊎ (found ≡ candidate_given k (find id_cmp (id_of k) new))) id
    candidates_segments k id = record {
      apart = λ e found. other_candidate k id e (mention_before id) (mention_after id) found;
      own = λ e found fine.
          subst (λ i. effect candidate_cmp candidate_key k (candidate_segment i) found ≡ candidate_given k (find id_cmp (id_of k) new)) (id_same (id_of k) id e)
          (its_candidate k (id_of k) (mention_before (id_of k)) (mention_after (id_of k)) found (by_fine found fine) ∙ sym (candidate_is k (find id_cmp (id_of k) new)));
    } where
      by_fine : (found : Option Candidate) → (found ≡ candidate_given k (find id_cmp (id_of k) old)) ⊎ (found ≡ candidate_given k (find id_cmp (id_of k) new))
          → (found ≡ candidate_at k (id_of k) (mention_before (id_of k))) ⊎ (found ≡ candidate_at k (id_of k) (mention_after (id_of k)))
      by_fine found (inl e) = inl (e ∙ candidate_is k (find id_cmp (id_of k) old))
      by_fine found (inr e) = inr (e ∙ candidate_is k (find id_cmp (id_of k) new))

    abbrev old_candidates : List (CandidateKey × Candidate)
    old_candidates = by_key candidate_cmp candidate_key (filter_map (candidate_of t) old)

    candidates_are : changed candidate_cmp candidate_key old_candidates (flat_map candidate_changes changes) ≡ by_key candidate_cmp candidate_key (filter_map (candidate_of t) new)
    candidates_are =
        ap (changed candidate_cmp candidate_key old_candidates)
        (flat_map-map candidate_changes (id_change_by t old_links new) ids
        ∙ flat_same (λ id. candidate_changes (id_change_by t old_links new id)) candidate_segment (λ id. ap (λ before. going id before ++ coming id (mention_after id)) (before_is old was id)) ids)
        ∙ all_changed candidates_total candidates_exact candidate_key (λ k. bytes_eq (id_of k)) candidate_segment (λ k. candidate_given k (find id_cmp (id_of k) old)) (λ k. candidate_given k (find id_cmp (id_of k) new)) ids (λ k e. ap (candidate_given k) (others (id_of k) e))
        old_candidates (by_key candidate_cmp candidate_key (filter_map (candidate_of t) new)) (sorted_by_key candidates_total candidate_key (filter_map (candidate_of t) old)) (sorted_by_key candidates_total candidate_key (filter_map (candidate_of t) new))
        (find_candidate old was) (find_candidate new is) candidates_segments

    -- entities with updates of added trips
    abbrev added_segment : List ℕ → List (Change Stored (List ℕ))
    added_segment id = added_change id (added_held (find id_cmp id new)) ∷ []

    by_change : (id : List ℕ) → added_changes new (id_change_by t old_links new id) ≡ added_segment id
    by_change id = ap (λ found. added_change id found ∷ []) (by_found (find id_cmp id new)) where
      by_found : (found : Option Stored) → only_added (record { id = id; before = option_map (λ (link : Link). link.mention) (find id_cmp id old_links); after = about_held t found }) found ≡ added_held found
      by_found None = refl
      by_found (Some s) = refl

    added_segments : (k id : List ℕ) → IsSegment id_cmp stored_key k added_segment (bytes_eq k) (added_at k (find id_cmp k new)) (λ found. (found ≡ added_at k (find id_cmp k old)) ⊎ (found ≡ added_at k (find id_cmp k new))) id
    added_segments k id = record {
      apart = λ e before. other_added k id (same_bytes k id e) (find id_cmp id new) (found_id id) before;
      own = λ e before fine.
          subst (λ i. effect id_cmp stored_key k (added_segment i) before ≡ added_at k (find id_cmp k new)) (id_same k id e)
          (its_added k (find id_cmp k new) (found_id k) before);
    }

    abbrev old_added : List EntityChange
    old_added = by_key id_cmp stored_key (filter_map (added_of t) old)

    added_are : changed id_cmp stored_key old_added (flat_map (added_changes new) changes) ≡ by_key id_cmp stored_key (filter_map (added_of t) new)
    added_are =
        ap (changed id_cmp stored_key old_added)
        (flat_map-map (added_changes new) (id_change_by t old_links new) ids
        ∙ flat_same (λ id. added_changes new (id_change_by t old_links new id)) added_segment by_change ids)
        ∙ all_changed ids_total ids_exact stored_key (λ k. bytes_eq k) added_segment (λ k. added_at k (find id_cmp k old)) (λ k. added_at k (find id_cmp k new)) ids (λ k e. ap (added_at k) (others k e))
        old_added (by_key id_cmp stored_key (filter_map (added_of t) new)) (sorted_by_key ids_total stored_key (filter_map (added_of t) old)) (sorted_by_key ids_total stored_key (filter_map (added_of t) new))
        (find_added old was) (find_added new is) added_segments

    -- all that is kept of what updates are about
    pub mentions_are : mentions_after new (map (id_change_by t (mentions_of t old).links new) ids) (mentions_of t old) ≡ mentions_of t new
    unfolding mentions_of
    mentions_are = λ i. record { links = links_are i; candidates = candidates_are i; added = added_are i }
