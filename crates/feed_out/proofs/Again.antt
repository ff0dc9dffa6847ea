-- The combined feed of messages that were read is read again.
use Rattle.std.proofs.Common.{◌≡◌, ℕ, zero, suc, ◌+◌, ◌^◌, ◌<◌, Bool, true, false, cond, nat_eq, IsTrue, Some, List, [], ◌∷◌, ◌++◌, filter, length, map, slice_get, Ok, sym, ap, ◌∙◌, subst, refl, arith, codes}
use Rattle.std.specs.Prelude.{IsAscii, ◌&&◌, nat_le}
use Rattle.std.specs.List.{range_with_len, AllByRecursion}
use Rattle.std.specs.Str.{is_utf8}
use Rattle.std.specs.List.{list_all}
use Rattle.std.proofs.lemmas.Bool.{and_parts}
use Rattle.std.proofs.lemmas.Bool.Decides.{nat_tests}
use Rattle.std.proofs.lemmas.List.{map-append}
use Rattle.std.proofs.lemmas.Str.{IsAscii-append, IsUtf8-from_ascii, is_utf8-from_IsUtf8}
use Rattle.std.proofs.lemmas.Str.Ascii.{IsAscii-cons, IsAscii-nil}
use Rattle.rt_types.specs.declared.enums.Incrementality.TheVariants.{FullDataset}
use Rattle.text_defs.specs.Names.{is_name_byte, is_name}
use Rattle.feed_defs.specs.declared.history.Entry.{Entry}
use Rattle.feed_defs.specs.History.{Change, messages_of, WereRead}
use Rattle.feed_defs.specs.Table.{read, write}
use Rattle.feed_defs.proofs.DataSet.{ReadsAgain, WasSaid, message_again, entities_said}
use Rattle.feed_defs.proofs.RenamedAgain.{entity_under}
use Rattle.feed_defs.proofs.Said.{held_each, each_of_feed}
use Rattle.feed_defs.proofs.Sifted.{each_then, each_append}
use Rattle.sched_types.specs.declared.plans.NamedFeed.{NamedFeed}
use Rattle.sched_types.specs.Schedules.{AreSchedules}
use Rattle.board_defs.specs.Feed.{newest_of, combined_entity, prefix_of, feed_message, feed_bytes, combined_feed}
use Rattle.board_defs.specs.Feeds.{HubFeed, feeds_from, is_of_schedule, schedule_feeds, held_as, held_by, held_in}
use Rattle.board_defs.specs.Fold.{FeedFold, feed_fold, fold_of}
use Rattle.board_defs.specs.Views.{HubKept, StandsFor, folds_of}
use Rattle.feed_out.specs.Fields.{schedule_message}

-- that each entity of what a feed says was read
abbrev pub IsSaid : FeedFold → Type 0
IsSaid fold = AllByRecursion (λ change. WasSaid change.1.entity) fold.entities

-- what the history says of each feed was read
pub folds_said : (h : List Entry) → WereRead h → (feeds : ℕ) → AllByRecursion IsSaid (fold_of feeds h)
unfolding fold_of
folds_said h were feeds = from 0 feeds
  where
    said : AllByRecursion (λ entry. AllByRecursion WasSaid entry.message.entity) h
    said = each_then (λ entry was. entities_said was.bytes entry.message was.are_bytes was.is) h were

    from : (a n : ℕ) → AllByRecursion IsSaid (map (feed_fold h) (range_with_len a n))
    from a zero = tt
    from a (suc n) = (held_each WasSaid (messages_of a h) (each_of_feed (λ m. AllByRecursion WasSaid m.entity) a h said), from (a + 1) n)

-- a name before the colon of an id is text
abbrev pub IsNameText : NamedFeed → Type 0
IsNameText feed = is_utf8 (feed.name ++ codes ":") ≡ true

module _ (prefix : List ℕ) (is_text : is_utf8 prefix ≡ true) where
  one_feed : (one : HubFeed) → IsNameText one.feed → (changes : List Change) → AllByRecursion (λ change. WasSaid change.1.entity) changes → AllByRecursion ReadsAgain (map (combined_entity prefix) (map (held_as one) changes))
  one_feed one named [] each = tt
  one_feed one named (c ∷ cs) each = (entity_under prefix is_text one.feed.name named (each.0.payload ∷ []) c.1.entity (each.0.are_bytes, tt) each.0.is, one_feed one named cs each.1)

  all_feeds : (plan first : ℕ) (feeds : List NamedFeed) (folds : List FeedFold) → AllByRecursion IsNameText feeds → AllByRecursion IsSaid folds
      → AllByRecursion ReadsAgain (map (combined_entity prefix) (held_in (filter (is_of_schedule plan) (feeds_from first feeds folds))))
  all_feeds plan first [] folds named each = tt
  all_feeds plan first (feed ∷ feeds) [] named each = tt
  all_feeds plan first (feed ∷ feeds) (fold ∷ folds) named each = chosen (nat_eq feed.plan plan) (all_feeds plan (first + 1) feeds folds named.1 each.1)
    where
      one : HubFeed
      one = record { number = first; feed = feed; fold = fold }

      others : List HubFeed
      others = filter (is_of_schedule plan) (feeds_from (first + 1) feeds folds)

      chosen : (b : Bool) → AllByRecursion ReadsAgain (map (combined_entity prefix) (held_in others)) → AllByRecursion ReadsAgain (map (combined_entity prefix) (held_in (cond b (one ∷ others) others)))
      chosen true rest =
          subst (AllByRecursion ReadsAgain) (sym (map-append (combined_entity prefix) (held_by one) (held_in others)))
          (each_append ReadsAgain (map (combined_entity prefix) (held_by one)) (map (combined_entity prefix) (held_in others)) (one_feed one named.0 fold.entities each.0) rest)
      chosen false rest = rest

  pub feed_again : (plan : ℕ) (feeds : List NamedFeed) (folds : List FeedFold) → AllByRecursion IsNameText feeds → AllByRecursion IsSaid folds
      → newest_of (schedule_feeds plan feeds folds) < 2 ^ 64 → length (write (feed_message prefix (schedule_feeds plan feeds folds))) < 2 ^ 64
      → read (write (feed_message prefix (schedule_feeds plan feeds folds))) ≡ Ok (feed_message prefix (schedule_feeds plan feeds folds))
  feed_again plan feeds folds named each low small =
      let ours = schedule_feeds plan feeds folds in
      message_again FullDataset (newest_of ours) (map (combined_entity prefix) (held_in ours)) low (all_feeds plan 0 feeds folds named each) small

-- ---- names are texts

byte_small : (b : ℕ) → is_name_byte b ≡ true → b < 128
byte_small b e = grind (arith, nat_tests)

letters : (bytes : List ℕ) → list_all is_name_byte bytes ≡ true → IsAscii bytes
letters [] e = IsAscii-nil
letters (b ∷ bytes) e = let parts = and_parts (is_name_byte b) (list_all is_name_byte bytes) e in IsAscii-cons b bytes (byte_small b parts.0) (letters bytes parts.1)

name_text : (name : List ℕ) → is_name name ≡ true → is_utf8 (name ++ codes ":") ≡ true
unfolding is_name
name_text name e =
    let parts = and_parts (nat_le 1 (length name) && nat_le (length name) 32) (list_all is_name_byte name) e in
    is_utf8-from_IsUtf8 (name ++ codes ":") (IsUtf8-from_ascii (name ++ codes ":")
    (IsAscii-append name (codes ":") (letters name parts.1) (IsAscii-cons 58 [] (omega arith) IsAscii-nil)))

-- the names of feeds are
pub names_text : (feeds : List NamedFeed) → ((i : ℕ) (feed : NamedFeed) → slice_get feeds i ≡ Some feed → IsTrue (is_name feed.name)) → AllByRecursion IsNameText feeds
names_text [] each = tt
names_text (feed ∷ feeds) each = (name_text feed.name (each 0 feed refl), names_text feeds (λ i other at. each (suc i) other at))

-- ---- the combined feed of a hub

pub bytes_again : (kept : HubKept) (plan : ℕ) (feeds : List HubFeed) (newest : ℕ) (bytes prefix : List ℕ) → bytes ≡ combined_feed kept.plans plan (folds_of kept) → length bytes < 2 ^ 64 → prefix ≡ prefix_of kept.plans plan → is_utf8 prefix ≡ true
    → AreSchedules kept.plans → feeds ≡ schedule_feeds plan kept.plans.feeds (folds_of kept) → newest ≡ newest_of feeds → newest < 2 ^ 64
    → (h : List Entry) → WereRead h → StandsFor h kept → read bytes ≡ Ok (schedule_message kept.plans plan (folds_of kept))
unfolding feed_bytes
bytes_again kept plan feeds newest bytes prefix is small its_prefix is_text sound its_feeds stamp low h were stands =
    ap read is
    ∙ feed_again (prefix_of kept.plans plan) (subst (λ p. is_utf8 p ≡ true) its_prefix is_text) plan kept.plans.feeds (folds_of kept) (names_text kept.plans.feeds sound.feed_named)
    (subst (AllByRecursion IsSaid) (sym stands.feeds) (folds_said h were (length kept.plans.feeds)))
    (subst (λ n. n < 2 ^ 64) (stamp ∙ ap newest_of its_feeds) low) (subst (λ xs. length xs < 2 ^ 64) is small)
