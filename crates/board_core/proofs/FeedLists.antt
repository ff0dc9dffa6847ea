-- The feeds of a schedule, one after another.
use Rattle.std.proofs.Common.{◌≡◌, ℕ, ◌+◌, ◌<◌, List, [], ◌∷◌, ◌++◌, length, drop, get_or, cond, Some, map, filter, refl, sym, ap, subst, ◌∙◌, append_assoc, arith}
use Rattle.std.specs.Prelude.{◌==◌}
use Rattle.std.specs.List.{All}
use Rattle.std.specs.Option.{option_and_then}
use Rattle.std.proofs.lemmas.Bool.{eq-eqb, ne_eqb}
use Rattle.std.proofs.lemmas.List.{drop_more, get_or-map, length-map, map-append}
use Rattle.std.proofs.lemmas.List.Elements.{All-push}
use Rattle.std.proofs.lemmas.Option.{slice_get-get_or}
use Rattle.sched_types.specs.declared.plans.NamedFeed.{NamedFeed}
use Rattle.sched_types.specs.Schedules.{Schedules}
use Rattle.sched_types.specs.Timetable.{Timetable}
use Rattle.board_defs.specs.Feeds.{HubFeed, feeds_from, is_of_schedule, schedule_feeds}
use Rattle.board_defs.specs.Fold.{FeedFold}
use Rattle.board_defs.specs.Rows.{timetable_in}
use Rattle.board_defs.specs.Views.{HubKept, feed_at, folds_of, nothing_kept}
use Rattle.feed_view.specs.Kept.{IsOver, kept_of}
use Rattle.board_parts.specs.Whole.{timetable_of}
use Rattle.board_core.specs.declared.feeds.ScheduleFeed.{ScheduleFeed}
use Rattle.board_core.specs.FeedsOfSchedule.{hub_feed_of}

-- each is over the timetable of the schedule
abbrev AreOver : Schedules → ℕ → List ScheduleFeed → Type 0
AreOver plans schedule feeds = (t : Timetable) → timetable_in plans schedule ≡ Some t → All (λ (one : ScheduleFeed). IsOver t one.view.now) feeds

module _ (schedule : ℕ) (named : List NamedFeed) (folds : List FeedFold) where
  -- those from a number on
  abbrev pub left_from : ℕ → List HubFeed
  left_from i = filter (is_of_schedule schedule) (feeds_from i (drop i named) (drop i folds))

  first_left : (i : ℕ) (feed : NamedFeed) (fold : FeedFold) → i < length named → i < length folds → feed ≡ get_or named i feed → fold ≡ get_or folds i fold
      → left_from i ≡ cond (feed.plan == schedule) (record { number = i; feed = feed; fold = fold } ∷ left_from (i + 1)) (left_from (i + 1))
  first_left i feed fold h g is says =
      ap (λ xs. filter (is_of_schedule schedule) (feeds_from i xs (drop i folds))) (drop_more named i feed h ∙ ap (λ x. x ∷ drop (i + 1) named) (sym is))
      ∙ ap (λ ys. filter (is_of_schedule schedule) (feeds_from i (feed ∷ drop (i + 1) named) ys)) (drop_more folds i fold g ∙ ap (λ y. y ∷ drop (i + 1) folds) (sym says))

-- the feeds so far, and those that are left
pub record AreSoFar (view : HubKept) (schedule i : ℕ) (feeds : List ScheduleFeed) : Type 0 where
  pub goes : map hub_feed_of feeds ++ left_from schedule view.plans.feeds (folds_of view) i ≡ schedule_feeds schedule view.plans.feeds (folds_of view)
  pub over : AreOver view.plans schedule feeds

-- one feed more, which is the next of those that the view shows
module _ (view : HubKept) (schedule i : ℕ) (shown : List NamedFeed) (feed : NamedFeed) (are : shown ≡ view.plans.feeds) (all : length view.feeds ≡ length view.plans.feeds) (h : i < length shown) (is : feed ≡ get_or shown i feed) (feeds now : List ScheduleFeed) where
  abbrev named : List NamedFeed
  named = view.plans.feeds

  abbrev left : ℕ → List HubFeed
  left j = left_from schedule named (folds_of view) j

  abbrev hub_feed : FeedFold → HubFeed
  hub_feed fold = record { number = i; feed = feed; fold = fold }

  within : i < length named
  within = subst (λ (xs : List NamedFeed). i < length xs) are h

  there : feed ≡ get_or named i feed
  there = is ∙ ap (λ xs. get_or xs i feed) are

  first : (fold : FeedFold) → fold ≡ (feed_at view i).fold → left i ≡ cond (feed.plan == schedule) (hub_feed fold ∷ left (i + 1)) (left (i + 1))
  first fold says =
      let size : length (folds_of view) ≡ length view.feeds = length-map view.feeds (λ one. one.fold) in
      first_left schedule named (folds_of view) i feed fold within (omega (arith, size, all, within)) there
      (says ∙ sym (get_or-map (λ one. one.fold) view.feeds i nothing_kept fold (omega (arith, all, within))))

  pub skips : (feed.plan ≡ schedule → ⊥) → now ≡ feeds → AreSoFar view schedule i feeds → AreSoFar view schedule (i + 1) now
  skips other stays so_far =
      let fold = (feed_at view i).fold in
      let goes_on : left i ≡ left (i + 1) = first fold refl ∙ ap (λ b. cond b (hub_feed fold ∷ left (i + 1)) (left (i + 1))) (ne_eqb feed.plan schedule other) in
      record {
        goes = ap (λ xs. map hub_feed_of xs ++ left (i + 1)) stays ∙ ap (λ xs. map hub_feed_of feeds ++ xs) (sym goes_on) ∙ so_far.goes;
        over = λ t its. subst (All (λ (x : ScheduleFeed). IsOver t x.view.now)) (sym stays) (so_far.over t its);
      }

  pub takes : (one : ScheduleFeed) → feed.plan ≡ schedule → one.number ≡ i → one.feed.now ≡ feed → kept_of one.view.now ≡ feed_at view i → ((t : Timetable) → timetable_of view.plans i ≡ Some t → IsOver t one.view.now)
      → now ≡ feeds ++ one ∷ [] → AreSoFar view schedule i feeds → AreSoFar view schedule (i + 1) now
  takes one passes number same holds over pushed so_far =
      let fold = one.view.now.fold in
      let goes_on : left i ≡ hub_feed fold ∷ left (i + 1) = first fold (ap (λ kept. kept.fold) holds) ∙ ap (λ b. cond b (hub_feed fold ∷ left (i + 1)) (left (i + 1))) (eq-eqb feed.plan schedule passes) in
      record {
        goes =
            ap (λ xs. map hub_feed_of xs ++ left (i + 1)) pushed
            ∙ ap (λ xs. xs ++ left (i + 1)) (map-append hub_feed_of feeds (one ∷ []))
            ∙ append_assoc (map hub_feed_of feeds) (hub_feed_of one ∷ []) (left (i + 1))
            ∙ ap (λ xs. map hub_feed_of feeds ++ xs) ((λ j. record { number = number j; feed = same j; fold = fold } ∷ left (i + 1)) ∙ sym goes_on)
            ∙ so_far.goes;
        over = λ t its.
            subst (All (λ (x : ScheduleFeed). IsOver t x.view.now)) (sym pushed)
            (All-push (λ (x : ScheduleFeed). IsOver t x.view.now) feeds one (so_far.over t its)
            (over t
            (ap (option_and_then (λ (x : NamedFeed). timetable_in view.plans x.plan)) (slice_get-get_or named i feed within ∙ ap Some (sym there))
            ∙ ap (timetable_in view.plans) passes
            ∙ its)));
      }
