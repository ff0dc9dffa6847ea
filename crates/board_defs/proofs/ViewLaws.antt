-- What a view stands for at first, and with one message more.
use Rattle.std.proofs.Common.{◌≡◌, ◌≢◌, ℕ, zero, suc, ◌+◌, ◌<◌, ◌≤◌, List, [], ◌∷◌, length, map, get_or, set, replicate, refl, sym, ap, ◌∙◌, arith}
use Rattle.std.specs.List.{range_with_len}
use Rattle.std.proofs.Math.ListN.{length-set}
use Rattle.std.proofs.lemmas.List.{map-set, length-append, length-replicate}
use Rattle.std.proofs.lemmas.List.FromFn.{get_or-map-range_with_len}
use Rattle.std.proofs.lemmas.List.Elements.{All-set, All-replicate}
use Rattle.std.proofs.lemmas.List.Folds.{sum_by-replicate}
use Rattle.std.proofs.lemmas.List.Sums.{sum_by-set, sum_by-le}
use Rattle.rt_types.specs.declared.message.FeedMessage.{FeedMessage}
use Rattle.feed_defs.specs.declared.history.Entry.{Entry}
use Rattle.feed_defs.specs.History.{messages_of}
use Rattle.feed_defs.proofs.Applied.{held_more, held_none}
use Rattle.feed_defs.proofs.Legal.{grown, messages_of-own, messages_of-other, last_stamp-own}
use Rattle.sched_types.specs.Schedules.{Schedules}
use Rattle.text_defs.specs.Moments.{last_moment}
use Rattle.board_defs.specs.Fold.{feed_fold, fold_of}
use Rattle.board_defs.specs.Views.{FeedKept, HubKept, no_fold, fold_after, nothing_kept, feed_after, feed_at, hub_first, hub_with, hub_after, IsHub, StandsFor}

-- ---- lists made from a range

map_same : {X : Type 0} (f g : ℕ → X) (a n : ℕ) → ((k : ℕ) → a ≤ k → f k ≡ g k) → map f (range_with_len a n) ≡ map g (range_with_len a n)
map_same f g a zero same = refl
map_same f g a (suc n) same =
    ap (λ x. x ∷ map f (range_with_len (a + 1) n)) (same a (omega arith))
    ∙ ap (λ xs. g a ∷ xs) (map_same f g (a + 1) n (λ k low. same k (omega arith)))

map_constant : {X : Type 0} (f : ℕ → X) (y : X) (a n : ℕ) → ((k : ℕ) → y ≡ f k) → replicate n y ≡ map f (range_with_len a n)
map_constant f y a zero same = refl
map_constant f y a (suc n) same =
    ap (λ x. x ∷ replicate n y) (same a) ∙ ap (λ xs. f a ∷ xs) (map_constant f y (a + 1) n same)

-- two functions that differ at one number alone
set_range : {X : Type 0} (f g : ℕ → X) (a n k j : ℕ) → k < n → a + k ≡ j → ((i : ℕ) → i ≢ j → f i ≡ g i) → set (map f (range_with_len a n)) k (g j) ≡ map g (range_with_len a n)
set_range f g a zero k j h at same = elim h [ ]
set_range f g a (suc n) zero j h at same =
    let here : j ≡ a = omega arith in
    ap (λ i. g i ∷ map f (range_with_len (a + 1) n)) here
    ∙ ap (λ xs. g a ∷ xs) (map_same f g (a + 1) n (λ i low. same i (λ e. omega arith)))
set_range f g a (suc n) (suc k) j h at same =
    ap (λ x. x ∷ set (map f (range_with_len (a + 1) n)) k (g j)) (same a (λ e. omega arith))
    ∙ ap (λ xs. g a ∷ xs) (set_range f g (a + 1) n k j (omega arith) (omega arith) same)

-- ---- one feed

-- with no history a feed says nothing
nothing_said : (feed : ℕ) → no_fold ≡ feed_fold [] feed
unfolding messages_of
nothing_said feed = rw held_none refl

-- the message of a feed with one message more
said_more : (h : List Entry) (feed : ℕ) (m : FeedMessage) → fold_after m (feed_fold h feed) ≡ feed_fold (grown h feed m) feed
said_more h feed m =
    rw (last_stamp-own feed h m, messages_of-own feed h m, held_more (messages_of feed h) m, length-append (messages_of feed h) (m ∷ []))
    refl

-- and of the others as before
others_same : (h : List Entry) (k : ℕ) (m : FeedMessage) (feed : ℕ) → feed ≢ k → feed_fold h feed ≡ feed_fold (grown h k m) feed
others_same h k m feed other = rw (messages_of-other feed k h m other) refl

-- ---- a hub

maps_replicate : (n : ℕ) → map (λ feed. feed.fold) (replicate n nothing_kept) ≡ replicate n no_fold
maps_replicate zero = refl
maps_replicate (suc n) = ap (λ xs. no_fold ∷ xs) (maps_replicate n)

-- a hub that accepted nothing stands for the empty history
pub stands_first : (plans : Schedules) → StandsFor [] (hub_first plans)
unfolding fold_of
stands_first plans = record {
  feeds = maps_replicate (length plans.feeds) ∙ map_constant (feed_fold []) no_fold 0 (length plans.feeds) nothing_said;
  entries = refl;
}

-- what is kept of a feed is what the history says of it
pub fold_at : (h : List Entry) (kept : HubKept) (feed : ℕ) → StandsFor h kept → feed < length kept.plans.feeds → (feed_at kept feed).fold ≡ feed_fold h feed
unfolding fold_of
fold_at h kept feed stands within =
    sym (get_or-of_map kept.feeds feed)
    ∙ ap (λ folds. get_or folds feed no_fold) stands.feeds
    ∙ get_or-map-range_with_len (feed_fold h) 0 (length kept.plans.feeds) feed feed no_fold within (omega arith)
  where
    get_or-of_map : (xs : List FeedKept) (i : ℕ) → get_or (map (λ x. x.fold) xs) i no_fold ≡ (get_or xs i nothing_kept).fold
    get_or-of_map [] i = refl
    get_or-of_map (x ∷ xs) zero = refl
    get_or-of_map (x ∷ xs) (suc i) = get_or-of_map xs i

-- with one message more of a feed it stands for the history with that at its end
pub stands_more : (h : List Entry) (kept : HubKept) (feed : ℕ) (m : FeedMessage) → StandsFor h kept → feed < length kept.plans.feeds → StandsFor (grown h feed m) (hub_after feed m kept)
unfolding fold_of
stands_more h kept feed m stands within = record {
  feeds =
      map-set (λ x. x.fold) kept.feeds feed (feed_after m (feed_at kept feed))
      ∙ ap (λ fold. set (map (λ x. x.fold) kept.feeds) feed (fold_after m fold)) (fold_at h kept feed stands within)
      ∙ ap (λ folds. set folds feed (fold_after m (feed_fold h feed))) stands.feeds
      ∙ ap (λ fold. set (map (feed_fold h) (range_with_len 0 (length kept.plans.feeds))) feed fold) (said_more h feed m)
      ∙ set_range (feed_fold h) (feed_fold (grown h feed m)) 0 (length kept.plans.feeds) feed feed within (omega arith) (others_same h feed m);
  entries = ap (λ n. n + 1) stands.entries ∙ sym (length-append h (record { feed = feed; message = m } ∷ []));
}

-- ---- what is true of all that is kept

abbrev count_of : FeedKept → ℕ
count_of feed = feed.fold.count

pub IsHub-first : (plans : Schedules) → IsHub (hub_first plans)
IsHub-first plans = record {
  all = length-replicate (length plans.feeds) nothing_kept;
  counted = sum_by-replicate count_of (length plans.feeds) nothing_kept ∙ omega arith;
  few = All-replicate (λ feed. count_of feed ≤ last_moment) (length plans.feeds) nothing_kept (omega arith);
}

-- a part whose count is one more in its feed's place
pub IsHub-with : (kept : HubKept) (feed : ℕ) (view : FeedKept) → IsHub kept → feed < length kept.feeds → view.fold.count ≡ (feed_at kept feed).fold.count + 1 → view.fold.count ≤ last_moment → IsHub (hub_with feed view kept)
IsHub-with kept feed view is within more few = record {
  all = length-set kept.feeds feed view ∙ is.all;
  counted = omega (arith, sum_by-set count_of kept.feeds feed view nothing_kept within, is.counted, more);
  few = All-set (λ x. count_of x ≤ last_moment) kept.feeds feed view few is.few;
}

-- of up to 64 feeds there are fewer messages than a count of 64 bits holds
pub entries_fit : (kept : HubKept) → IsHub kept → length kept.plans.feeds ≤ 64 → kept.entries ≤ 16217747251136
entries_fit kept is few_feeds =
    let all = sum_by-le count_of last_moment kept.feeds is.few in
    omega (arith, all, is.counted, is.all)
