-- Of one legal history, what a feed holds with a stamp that is not above an earlier one of the feed was held then.
use Rattle.std.proofs.Common.{◌-◌, length-append, ◌≡◌, ◌⊎◌, inl, inr, ◌<◌, ◌≤◌, ℕ, zero, suc, ◌+◌, List, [], ◌∷◌, ◌++◌, map, length, take, drop, Bool, true, false, cond, Some, None, refl, sym, ap, ◌∙◌, subst, append_assoc, append-nil, arith}
use Rattle.std.specs.Prelude.{nat_lt, nat_eq, unwrap_or, fold, filter, slice_index_or, if◌then◌else◌}
use Rattle.std.specs.List.{last_or, filter_map, range_with_len, AllByRecursion}
use Rattle.std.specs.List.{find as find_first}
use Rattle.std.specs.Ordering.{eq_by_cmp}
use Rattle.std.specs.FinMap.{find, put}
use Rattle.std.specs.FinMap.Entries.{find-put}
use Rattle.std.proofs.lemmas.Bool.{and_parts}
use Rattle.std.proofs.lemmas.Bool.Decides.{nat_tests}
use Rattle.std.proofs.lemmas.Cmp.{nat_list_cmp_total}
use Rattle.std.proofs.Math.Seq.{take-length}
use Rattle.std.proofs.lemmas.List.{map-append, take-append-le}
use Rattle.std.proofs.lemmas.List.Elements.{filter_map-append}
use Rattle.rt_types.specs.declared.message.Entity.{Entity}
use Rattle.rt_types.specs.declared.message.FeedMessage.{FeedMessage}
use Rattle.feed_defs.specs.declared.history.Entry.{Entry}
use Rattle.feed_defs.specs.declared.history.Stored.{Stored}
use Rattle.feed_defs.specs.History.{Change, is_rising, stamp_of, stamps_of, last_stamp, message_of, messages_of, is_full, is_kept, changes_with, changes_without, entities_of, entities_after}
use Rattle.feed_defs.proofs.Applied.{find-without, held_more, held_none}
use Rattle.feed_defs.proofs.Kept.{id_cmp}
use Rattle.feed_defs.proofs.Sifted.{each_then, each_append}
use Rattle.sched_types.specs.declared.plans.NamedFeed.{NamedFeed}
use Rattle.sched_types.specs.Schedules.{Schedules}
use Rattle.board_defs.specs.Feeds.{HubFeed, feeds_from, is_of_schedule, schedule_feeds}
use Rattle.board_defs.specs.Fold.{FeedFold, feed_fold, fold_of}
use Rattle.board_defs.specs.Views.{HubKept, StandsFor, no_fold, folds_of}
use Rattle.delta_defs.specs.Changes.{held_before}
use Rattle.delta_defs.specs.Kept.{KeptView, is_newest, newest_views, view_of, views_with}
use Rattle.delta_defs.specs.OneHistory.{IsOfHistory, AreOfHistory, AreOfOneHistory, stamp_before, HoldsSince, FeedHoldsSince}

-- ---- what newer messages leave

none_some : {A : Type 0} (a : A) → None ≡ Some a → ⊥
none_some a e = cc

some_is : (a b : Stored) → Some a ≡ Some b → a ≡ b
some_is a b e = cc

module _ (bound : ℕ) (q : List ℕ) (s : Stored) (early : s.stamp ≤ bound) where
  -- what has that stamp is no newer one
  not_newer : (c : Stored) → bound < c.stamp → Some c ≡ Some s → ⊥
  not_newer c newer e = let same : c.stamp ≡ s.stamp = ap (λ (x : Stored). x.stamp) (some_is c s e) in omega arith

  one_change : (es : List Change) (c : Change) → bound < c.1.stamp → find id_cmp q (changes_with es c) ≡ Some s → find id_cmp q es ≡ Some s
  one_change es c newer = by_kind (is_kept c)
    where
      by_put : (t : Bool) → cond t (Some c.1) (find id_cmp q es) ≡ Some s → find id_cmp q es ≡ Some s
      by_put true e = absurd (not_newer c.1 newer e)
      by_put false e = e

      by_gone : (t : Bool) → cond t None (find id_cmp q es) ≡ Some s → find id_cmp q es ≡ Some s
      by_gone true e = absurd (none_some s e)
      by_gone false e = e

      by_kind : (b : Bool) → find id_cmp q (if b then put id_cmp c.0 c.1 es else changes_without c.0 es) ≡ Some s → find id_cmp q es ≡ Some s
      by_kind true e = by_put (eq_by_cmp id_cmp q c.0) (sym (find-put id_cmp nat_list_cmp_total q c.0 c.1 es) ∙ e)
      by_kind false e = by_gone (eq_by_cmp id_cmp q c.0) (sym (find-without q c.0 es) ∙ e)

  all_changes : (stamp : ℕ) → bound < stamp → (entities : List Entity) (es : List Change)
      → find id_cmp q (fold changes_with es (map (λ e. (e.id, record { entity = e; stamp = stamp })) entities)) ≡ Some s → find id_cmp q es ≡ Some s
  all_changes stamp newer [] es e = e
  all_changes stamp newer (x ∷ xs) es e =
      one_change es (x.id, record { entity = x; stamp = stamp }) newer (all_changes stamp newer xs (changes_with es (x.id, record { entity = x; stamp = stamp })) e)

  one_message : (m : FeedMessage) (es : List Change) → bound < stamp_of m → find id_cmp q (entities_after m es) ≡ Some s → find id_cmp q es ≡ Some s
  unfolding entities_after
  one_message m es newer e = by_kind (is_full m) (all_changes (stamp_of m) newer m.entity (if is_full m then [] else es) e)
    where
      by_kind : (b : Bool) → find id_cmp q (if b then [] else es) ≡ Some s → find id_cmp q es ≡ Some s
      by_kind true none = absurd (none_some s none)
      by_kind false found = found

  all_messages : (ms ns : List FeedMessage) → AllByRecursion (λ m. bound < stamp_of m) ns → find id_cmp q (entities_of (ms ++ ns)) ≡ Some s → find id_cmp q (entities_of ms) ≡ Some s
  all_messages ms [] newer e = ap (λ xs. find id_cmp q (entities_of xs)) (sym (append-nil ms)) ∙ e
  all_messages ms (n ∷ ns) newer e =
      one_message n (entities_of ms) newer.0
      (ap (find id_cmp q) (sym (held_more ms n))
      ∙ all_messages (ms ++ n ∷ []) ns newer.1 (ap (λ xs. find id_cmp q (entities_of xs)) (append_assoc ms (n ∷ []) ns) ∙ e))

-- ---- stamps that rise

above : (bound x : ℕ) (ys : List ℕ) → bound ≤ x → is_rising (x ∷ ys) ≡ true → AllByRecursion (λ y. bound < y) ys
above bound x [] low rising = tt
above bound x (y ∷ ys) low rising =
    let parts = and_parts (nat_lt x y) (is_rising (y ∷ ys)) rising in
    let first = parts.0 in
    let less : x < y = grind (arith, nat_tests) in
    (omega arith, above bound y ys (omega arith) parts.1)

behind_last : (x : ℕ) (xs ys : List ℕ) → is_rising (x ∷ (xs ++ ys)) ≡ true → AllByRecursion (λ y. unwrap_or (last_or (Some x) xs) 0 < y) ys
behind_last x [] ys rising = above x x ys (omega arith) rising
behind_last x (z ∷ zs) ys rising = behind_last z zs ys (and_parts (nat_lt x z) (is_rising (z ∷ (zs ++ ys))) rising).1

each_stamp : (P : ℕ → Type 0) (ms : List FeedMessage) → AllByRecursion P (map stamp_of ms) → AllByRecursion (λ m. P (stamp_of m)) ms
each_stamp P [] each = tt
each_stamp P (m ∷ ms) each = (each.0, each_stamp P ms each.1)

front_and_back : (n : ℕ) (h : List Entry) → take n h ++ drop n h ≡ h
front_and_back zero h = refl
front_and_back (suc n) [] = refl
front_and_back (suc n) (x ∷ h) = ap (λ xs. x ∷ xs) (front_and_back n h)

-- ---- one feed

-- What a feed holds under an id, with a stamp that is not above that of its last message of the first so many, is what
-- it held under that id then, if there was a message.
same_then : (front behind : List FeedMessage) (id : List ℕ) (s : Stored) → is_rising (map stamp_of (front ++ behind)) ≡ true
    → find id_cmp id (entities_of (front ++ behind)) ≡ Some s → s.stamp ≤ unwrap_or (last_or None (map stamp_of front)) 0
    → (find id_cmp id (entities_of front) ≡ Some s) ⊎ (entities_of front ≡ [])
same_then [] behind id s rising now early = inr held_none
same_then (m ∷ ms) behind id s rising now early =
    let newer = behind_last (stamp_of m) (map stamp_of ms) (map stamp_of behind) (ap (λ xs. is_rising (stamp_of m ∷ xs)) (sym (map-append stamp_of ms behind)) ∙ rising) in
    inl (all_messages (unwrap_or (last_or None (map stamp_of (m ∷ ms))) 0) id s early (m ∷ ms) behind (each_stamp (λ y. unwrap_or (last_or None (map stamp_of (m ∷ ms))) 0 < y) behind newer) now)

held_then : (h : List Entry) (first feed : ℕ) → is_rising (stamps_of feed h) ≡ true → HoldsSince (last_stamp feed (take first h)) (entities_of (messages_of feed (take first h))) (entities_of (messages_of feed h))
unfolding messages_of
held_then h first feed rising =
    let front = filter_map (message_of feed) (take first h) in
    let behind = filter_map (message_of feed) (drop first h) in
    let parts : front ++ behind ≡ filter_map (message_of feed) h = sym (filter_map-append (message_of feed) (take first h) (drop first h)) ∙ ap (filter_map (message_of feed)) (front_and_back first h) in
    record { was_held = λ id s now early. same_then front behind id s (ap (λ xs. is_rising (map stamp_of xs)) parts ∙ rising) (ap (λ xs. find id_cmp id (entities_of xs)) parts ∙ now) early }

-- ---- the feeds of a schedule

at_place : (g : List Entry) (first n i feed : ℕ) → feed ≡ first + i
    → (slice_index_or (map (feed_fold g) (range_with_len first n)) i no_fold ≡ feed_fold g feed) ⊎ (slice_index_or (map (feed_fold g) (range_with_len first n)) i no_fold ≡ no_fold)
at_place g first zero zero feed at = inr refl
at_place g first zero (suc i) feed at = inr refl
at_place g first (suc n) zero feed at = let same : first ≡ feed = omega arith in inl (ap (feed_fold g) same)
at_place g first (suc n) (suc i) feed at = at_place g (first + 1) n i feed (omega arith)

one_feed : (feeds : ℕ) (h : List Entry) (first : ℕ) → ((feed : ℕ) → is_rising (stamps_of feed h) ≡ true) → (old : List FeedFold) → old ≡ fold_of feeds (take first h) → (one : HubFeed) → one.fold ≡ feed_fold h one.number → FeedHoldsSince old one
unfolding fold_of
one_feed feeds h first rising old was one is =
    by_place (at_place (take first h) 0 feeds one.number one.number (omega arith))
  where
    held : slice_index_or old one.number no_fold ≡ slice_index_or (map (feed_fold (take first h)) (range_with_len 0 feeds)) one.number no_fold
    held = ap (λ (folds : List FeedFold). slice_index_or folds one.number no_fold) was

    by_place : (slice_index_or (map (feed_fold (take first h)) (range_with_len 0 feeds)) one.number no_fold ≡ feed_fold (take first h) one.number) ⊎ (slice_index_or (map (feed_fold (take first h)) (range_with_len 0 feeds)) one.number no_fold ≡ no_fold)
        → FeedHoldsSince old one
    by_place (inl there) =
        subst (λ (f : FeedFold). HoldsSince (stamp_before old one) (held_before old one) f.entities) (sym is)
        (subst (λ (f : FeedFold). HoldsSince f.stamp f.entities (feed_fold h one.number).entities) (sym (held ∙ there)) (held_then h first one.number (rising one.number)))
    by_place (inr past) = record { was_held = λ id s now early. inr (ap (λ (f : FeedFold). f.entities) (held ∙ past)) }

module _ (plan : ℕ) (h : List Entry) where
  each_number : (first n : ℕ) (feeds : List NamedFeed) → AllByRecursion (λ one. one.fold ≡ feed_fold h one.number) (filter (is_of_schedule plan) (feeds_from first feeds (map (feed_fold h) (range_with_len first n))))
  each_number first n [] = tt
  each_number first zero (feed ∷ feeds) = tt
  each_number first (suc n) (feed ∷ feeds) = chosen (nat_eq feed.plan plan) (each_number (first + 1) n feeds)
    where
      others : List HubFeed
      others = filter (is_of_schedule plan) (feeds_from (first + 1) feeds (map (feed_fold h) (range_with_len (first + 1) n)))

      chosen : (b : Bool) → AllByRecursion (λ one. one.fold ≡ feed_fold h one.number) others
          → AllByRecursion (λ one. one.fold ≡ feed_fold h one.number) (cond b (record { number = first; feed = feed; fold = feed_fold h first } ∷ others) others)
      chosen true rest = (refl, rest)
      chosen false rest = rest

-- Of one history each feed has what it had, where the stamp is not above.
pub all_held_since : (plan : ℕ) (old : KeptView) (view : HubKept) → AreOfOneHistory (old ∷ []) view → AllByRecursion (FeedHoldsSince old.folds) (schedule_feeds plan view.plans.feeds (folds_of view))
unfolding fold_of
all_held_since plan old view one =
    each_then (one_feed (length view.plans.feeds) one.history old.number one.rising old.folds one.are.0.folds) (schedule_feeds plan view.plans.feeds (folds_of view))
    (subst (λ (folds : List FeedFold). AllByRecursion (λ x. x.fold ≡ feed_fold one.history x.number) (schedule_feeds plan view.plans.feeds folds)) (sym one.stands.feeds)
    (each_number plan one.history 0 (length view.plans.feeds) view.plans.feeds))

-- ---- views that are kept

some_view : (a b : KeptView) → Some a ≡ Some b → a ≡ b
some_view a b e = cc

found_among : (P : KeptView → Type 0) (test : KeptView → Bool) (views : List KeptView) (old : KeptView) → AllByRecursion P views → find_first test views ≡ Some old → P old
found_among P test [] old each e = absurd (none_some old e)
found_among P test (v ∷ views) old each e = by_test (test v) e (found_among P test views old each.1)
  where
    by_test : (b : Bool) → (if b then Some v else find_first test views) ≡ Some old → (find_first test views ≡ Some old → P old) → P old
    by_test true is rest = subst P (some_view v old is) each.0
    by_test false is rest = rest is

-- a view that is found is of the history too
pub found_of_one : (test : KeptView → Bool) (kept : List KeptView) (old : KeptView) (view : HubKept) → Some old ≡ find_first test kept → AreOfOneHistory kept view → AreOfOneHistory (old ∷ []) view
found_of_one test kept old view found one = record {
  history = one.history;
  rising = one.rising;
  stands = one.stands;
  are = (found_among (IsOfHistory view.plans one.history) test kept old one.are (sym found), tt);
}

-- views of a history are of what it goes on to be
pub of_longer : (plans : Schedules) (h more : List Entry) (kept : List KeptView) → AreOfHistory plans h kept → AreOfHistory plans (h ++ more) kept
of_longer plans h more [] are = tt
of_longer plans h more (view ∷ kept) are = (
  record {
    within = let few = are.0.within in let longer = length-append h more in omega arith;
    folds = are.0.folds ∙ ap (fold_of (length plans.feeds)) (sym (take-append-le view.number h more are.0.within));
  },
  of_longer plans h more kept are.1,
)

drop_each : {X : Type 0} (P : X → Type 0) (n : ℕ) (xs : List X) → AllByRecursion P xs → AllByRecursion P (drop n xs)
drop_each P zero xs each = each
drop_each P (suc n) [] each = each
drop_each P (suc n) (x ∷ xs) each = drop_each P n xs each.1

-- so are they with one more
pub of_history_with : (plans : Schedules) (h : List Entry) (view : KeptView) (kept : List KeptView) → IsOfHistory plans h view → AreOfHistory plans h kept → AreOfHistory plans h (views_with view kept)
of_history_with plans h view kept is are = by_newest (is_newest view.number kept)
  where
    by_newest : (b : Bool) → AreOfHistory plans h (if b then kept else newest_views (kept ++ view ∷ []))
    by_newest true = are
    by_newest false = drop_each (IsOfHistory plans h) (length (kept ++ view ∷ []) - 64) (kept ++ view ∷ []) (each_append (IsOfHistory plans h) kept (view ∷ []) are (is, tt))

-- what is kept of a view that stands for a history is of it
pub view_of_history : (h : List Entry) (view : HubKept) → StandsFor h view → IsOfHistory view.plans h (view_of view)
view_of_history h view stands = record {
  within = let whole = stands.entries in omega arith;
  folds = stands.feeds ∙ ap (fold_of (length view.plans.feeds)) (sym (take-length h) ∙ ap (λ n. take n h) (sym stands.entries));
}
