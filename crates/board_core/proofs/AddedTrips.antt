-- The updates of added trips that overlays keep are those of all that their feeds hold.
use Rattle.std.proofs.Common.{◌≡◌, ℕ, ◌+◌, ◌<◌, List, [], ◌∷◌, ◌++◌, length, drop, get_or, Bool, true, false, cond, Option, Some, None, map, filter, refl, sym, ap, subst, ◌∙◌, append-nil, append_assoc}
use Rattle.std.specs.Prelude.{T, fold, if◌then◌else◌}
use Rattle.std.specs.Cmp.{IsTotalOrder}
use Rattle.std.specs.FinMap.{is_sorted, put}
use Rattle.std.specs.List.{AllByRecursion, cons_option, filter_map}
use Rattle.std.specs.Option.{option_to_list}
use Rattle.std.specs.declared.cmp.Ordering.{Ordering}
use Rattle.std.proofs.lemmas.Cmp.{nat_list_cmp_total}
use Rattle.std.proofs.lemmas.List.{drop_more}
use Rattle.std.proofs.lemmas.List.Elements.{filter-append, filter_map-append}
use Rattle.rt_types.specs.declared.trip_update.TripUpdate.{TripUpdate}
use Rattle.feed_defs.specs.declared.history.Stored.{Stored}
use Rattle.feed_defs.specs.History.{Change}
use Rattle.feed_defs.proofs.Applied.{sorted_filter}
use Rattle.sched_types.specs.Timetable.{Timetable}
use Rattle.trip_match_defs.specs.declared.found.Found.{Found}
use Rattle.trip_match_defs.specs.declared.found.Found.TheVariants as found
use Rattle.trip_match_defs.specs.Matching.{match_of}
use Rattle.shared_list.specs.Order.{entries}
use Rattle.shared_list.proofs.Middle.{put_middle, sorted_before}
use Rattle.keyed_lists.specs.Keyed.{by_key, with_item}
use Rattle.keyed_lists.proofs.Entries.{HasItsKey, keyed_each}
use Rattle.order.proofs.Lists.{cons_is}
use Rattle.board_defs.specs.Choice.{Update, if_counting, is_added_found, is_added_update, stamp_or, update_at, update_of}
use Rattle.board_defs.specs.Feeds.{HubFeed, counts_at, held_as, held_by, held_in}
use Rattle.run_overlay.specs.Keys.{id_cmp, stored_key}
use Rattle.run_overlay.specs.Kept.{FeedOverlay, IsTable, added_of, if_added, mentions_of, overlay_of}
use Rattle.run_overlay.specs.Updates.{about_found, about_update, held_alone}
use Rattle.board_parts.specs.Walks.{held_of}
use Rattle.board_parts.proofs.Lists.{filter_each, kept}
use Rattle.board_core.specs.declared.feeds.ScheduleFeed.{ScheduleFeed}
use Rattle.board_core.specs.FeedsOfSchedule.{hub_feed_of}

-- ---- lists

over_map : {X Y Z : Type 0} (f : Y → Option Z) (g : X → Y) (xs : List X) → filter_map f (map g xs) ≡ filter_map (λ x. f (g x)) xs
over_map f g [] = refl
over_map f g (x ∷ xs) = ap (cons_option (f (g x))) (over_map f g xs)

-- what comes of the items that pass
over_filter : {X Y : Type 0} (p : X → Bool) (g : X → Option Y) (xs : List X) → filter_map g (filter p xs) ≡ filter_map (λ x. if p x then g x else None) xs
over_filter p g [] = refl
over_filter p g (x ∷ xs) = by_test (p x) (over_filter p g xs) where
  by_test : (b : Bool) → filter_map g (filter p xs) ≡ filter_map (λ y. if p y then g y else None) xs
      → filter_map g (cond b (x ∷ filter p xs) (filter p xs)) ≡ cons_option (if b then g x else None) (filter_map (λ y. if p y then g y else None) xs)
  by_test true rest = ap (cons_option (g x)) rest
  by_test false rest = rest

-- ---- a list by keys, of items whose keys rise

module _ {K X : Type 0} {cmp : K → K → Ordering} (o : IsTotalOrder cmp) (key : X → K) where
  put_last : (es : List (K × X)) (x : X) (more : List (K × X)) → T (is_sorted cmp (es ++ (key x, x) ∷ more)) → put cmp (key x) x es ≡ es ++ (key x, x) ∷ []
  put_last es x more h = ap (put cmp (key x) x) (sym (append-nil es)) ∙ put_middle o (key x) x es [] [] (sorted_before o es (key x, x) more h) tt

  put_all : (es : List (K × X)) (xs : List X) → T (is_sorted cmp (es ++ entries key xs)) → fold (with_item cmp key) es xs ≡ es ++ entries key xs
  put_all es [] h = sym (append-nil es)
  put_all es (x ∷ xs) h =
      ap (λ ys. fold (with_item cmp key) ys xs) (put_last es x (entries key xs) h)
      ∙ put_all (es ++ (key x, x) ∷ []) xs (subst (λ (ys : List (K × X)). T (is_sorted cmp ys)) (sym (append_assoc es ((key x, x) ∷ []) (entries key xs))) h)
      ∙ append_assoc es ((key x, x) ∷ []) (entries key xs)

  rising_by_key : (xs : List X) → T (is_sorted cmp (entries key xs)) → by_key cmp key xs ≡ entries key xs
  unfolding by_key
  rising_by_key xs h = put_all [] xs h

-- entries under their own keys stay so where some are left out
own_entries : {K X : Type 0} (key : X → K) (p : K × X → Bool) (es : List (K × X)) → AllByRecursion (HasItsKey key) es → entries key (map (λ e. e.1) (filter p es)) ≡ filter p es
own_entries key p [] own = refl
own_entries key p (e ∷ es) own = by_test (p e) (own_entries key p es own.1) where
  by_test : (b : Bool) → entries key (map (λ x. x.1) (filter p es)) ≡ filter p es → entries key (map (λ x. x.1) (cond b (e ∷ filter p es) (filter p es))) ≡ cond b (e ∷ filter p es) (filter p es)
  by_test true rest = λ i. (sym own.0 i, e.1) ∷ rest i
  by_test false rest = rest

-- ---- the updates of some entities of a feed

module _ (at : ℕ) where
  abbrev pub stored_updates : HubFeed → List Stored → List Update
  stored_updates one items = filter_map (λ stored. update_at at (held_of one.number one.feed stored)) items

  -- one entity more
  pub one_more : (one : HubFeed) (was now all : List Update) (items left : List Stored) (stored : Stored) → was ++ stored_updates one items ≡ all → items ≡ stored ∷ left
      → now ≡ was ++ option_to_list (update_at at (held_of one.number one.feed stored)) → now ++ stored_updates one left ≡ all
  one_more one was now all items left stored so_far split pushed =
      let given = update_at at (held_of one.number one.feed stored) in
      ap (λ us. us ++ stored_updates one left) pushed
      ∙ append_assoc was (option_to_list given) (stored_updates one left)
      ∙ ap (λ us. was ++ us) (sym (ap (stored_updates one) split ∙ cons_is given (stored_updates one left)))
      ∙ so_far

-- ---- what an overlay keeps of added trips

module _ (t : Timetable) where
  abbrev is_added_given : Stored → Option TripUpdate → Bool
  is_added_given s None = false
  is_added_given s (Some update) = is_added_found (match_of t update.trip (stamp_or s.stamp update.timestamp))

  abbrev is_added : Change → Bool
  is_added change = is_added_given change.1 change.1.entity.trip_update

  taken : (s : Stored) (given : Option TripUpdate) → if_added (about_update t (update_of (held_alone s) given)) s ≡ (if is_added_given s given then Some s else None)
  taken s None = refl
  taken s (Some update) =
      let stamp = stamp_or s.stamp update.timestamp in
      by_found stamp (match_of t update.trip stamp)
    where
      by_found : (stamp : ℕ) (is : Found) → if_added (about_found stamp is) s ≡ (if is_added_found is then Some s else None)
      by_found stamp (found.Run run) = refl
      by_found stamp found.Added = refl
      by_found stamp (found.NoMatch why) = refl

  each_added : (es : List Change) → filter_map (added_of t) es ≡ map (λ change. change.1) (filter is_added es)
  each_added [] = refl
  each_added (e ∷ es) =
      ap (λ o. cons_option o (filter_map (added_of t) es)) (taken e.1 e.1.entity.trip_update)
      ∙ by_test (is_added e) (each_added es)
    where
      by_test : (b : Bool) → filter_map (added_of t) es ≡ map (λ change. change.1) (filter is_added es)
          → cons_option (if b then Some e.1 else None) (filter_map (added_of t) es) ≡ map (λ change. change.1) (cond b (e ∷ filter is_added es) (filter is_added es))
      by_test true rest = ap (λ ss. e.1 ∷ ss) rest
      by_test false rest = rest

  added_are : (es : List Change) → IsTable es → (overlay_of t es).mentions.added ≡ filter is_added es
  unfolding overlay_of mentions_of
  added_are es table =
      let own = own_entries stored_key is_added es (keyed_each stored_key es table.keyed) in
      ap (by_key id_cmp stored_key) (each_added es)
      ∙ rising_by_key nat_list_cmp_total stored_key (map (λ change. change.1) (filter is_added es))
      (subst (λ (ys : List Change). T (is_sorted id_cmp ys)) (sym own) (sorted_filter is_added es table.rising))
      ∙ own

  -- ---- those that count at a moment

  module _ (at : ℕ) where
    abbrev its_update : HubFeed → Change → Option Update
    its_update one change = update_at at (held_as one change)

    none_either : (b : Bool) → ◌≡◌ {A = Option Update} (if b then None else None) None
    none_either true = refl
    none_either false = refl

    -- whether it is of an added trip does not depend on its age
    counting_added : (u : Update) (counts : Bool) → (if is_added_update t u then (if counts then Some u else None) else None) ≡ kept (is_added_update t) (if counts then Some u else None)
    counting_added u true = refl
    counting_added u false = none_either (is_added_update t u)

    added_where : (one : HubFeed) (s : Stored) (given : Option TripUpdate)
        → (if is_added_given s given then if_counting at (held_of one.number one.feed s) (update_of (held_of one.number one.feed s) given) else None)
        ≡ kept (is_added_update t) (if_counting at (held_of one.number one.feed s) (update_of (held_of one.number one.feed s) given))
    added_where one s None = refl
    added_where one s (Some update) =
        let stamp = stamp_or s.stamp update.timestamp in
        counting_added (record { stamp = stamp; feed = one.number; id = s.entity.id; update = update }) (counts_at one.feed.max_age stamp at)

    -- of one feed
    abbrev pub added_by : HubFeed → List Update
    added_by one = filter (is_added_update t) (filter_map (update_at at) (held_by one))

    pub of_feed : (one : HubFeed) (overlay : FeedOverlay) (items : List Stored) → overlay ≡ overlay_of t one.fold.entities → IsTable one.fold.entities
        → items ≡ map (λ change. change.1) overlay.mentions.added → stored_updates at one items ≡ added_by one
    of_feed one overlay items is table are =
        let es = one.fold.entities in
        ap (stored_updates at one) (are ∙ ap (λ (x : FeedOverlay). map (λ change. change.1) x.mentions.added) is ∙ ap (map (λ change. change.1)) (added_are es table))
        ∙ over_map (λ stored. update_at at (held_of one.number one.feed stored)) (λ change. change.1) (filter is_added es)
        ∙ over_filter is_added (its_update one) es
        ∙ filter_each (is_added_update t) (its_update one) (λ change. if is_added change then its_update one change else None) es (λ change. added_where one change.1 change.1.entity.trip_update)
        ∙ ap (filter (is_added_update t)) (sym (over_map (update_at at) (held_as one) es))

    -- of some feeds
    abbrev pub added_in : List HubFeed → List Update
    added_in feeds = filter (is_added_update t) (filter_map (update_at at) (held_in feeds))

    added_first : (one : HubFeed) (feeds : List HubFeed) → added_in (one ∷ feeds) ≡ added_by one ++ added_in feeds
    added_first one feeds =
        ap (filter (is_added_update t)) (filter_map-append (update_at at) (held_by one) (held_in feeds))
        ∙ filter-append (is_added_update t) (filter_map (update_at at) (held_by one)) (filter_map (update_at at) (held_in feeds))

    -- one feed more
    pub feed_more : (feeds : List ScheduleFeed) (i : ℕ) (one : ScheduleFeed) (was now all : List Update) → i < length feeds → one ≡ get_or feeds i one
        → was ++ added_in (map hub_feed_of (drop i feeds)) ≡ all → now ≡ was ++ added_by (hub_feed_of one) → now ++ added_in (map hub_feed_of (drop (i + 1) feeds)) ≡ all
    feed_more feeds i one was now all h there so_far pushed =
        let rest = added_in (map hub_feed_of (drop (i + 1) feeds)) in
        ap (λ us. us ++ rest) pushed
        ∙ append_assoc was (added_by (hub_feed_of one)) rest
        ∙ ap (λ us. was ++ us) (sym (ap (λ xs. added_in (map hub_feed_of xs)) (drop_more feeds i one h ∙ ap (λ x. x ∷ drop (i + 1) feeds) (sym there)) ∙ added_first (hub_feed_of one) (map hub_feed_of (drop (i + 1) feeds))))
        ∙ so_far
