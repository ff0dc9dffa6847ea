-- Where the messages were read, the bytes of the difference read as it.
use Rattle.std.proofs.Common.{◌≡◌, ◌<◌, ◌^◌, ℕ, List, [], ◌∷◌, ◌++◌, length, Bool, true, false, Option, Some, None, Ok, refl, sym, ap, ◌∙◌, subst, codes}
use Rattle.std.specs.Prelude.{IfSome, if◌then◌else◌}
use Rattle.std.specs.List.{filter_map, flat_map, cons_option, AllByRecursion}
use Rattle.std.specs.Str.{is_utf8}
use Rattle.std.proofs.lemmas.List.Concat.{flat_map-cons}
use Rattle.rt_types.specs.declared.enums.Incrementality.TheVariants.{Differential}
use Rattle.rt_types.specs.declared.message.Entity.{Entity}
use Rattle.feed_defs.specs.declared.history.Entry.{Entry}
use Rattle.feed_defs.specs.declared.history.Stored.{Stored}
use Rattle.feed_defs.specs.Combined.{entity_under_feed, gone}
use Rattle.feed_defs.specs.History.{Change, WereRead}
use Rattle.feed_defs.specs.Table.{read, write}
use Rattle.feed_defs.proofs.DataSet.{ReadsAgain, WasSaid, gone_again, id_said, message_again}
use Rattle.feed_defs.proofs.RenamedAgain.{entity_under, texts_joined}
use Rattle.feed_defs.proofs.Sifted.{each_append}
use Rattle.sched_types.specs.Schedules.{AreSchedules}
use Rattle.board_defs.specs.Feed.{newest_of, prefix_of}
use Rattle.board_defs.specs.Feeds.{HubFeed, schedule_feeds}
use Rattle.board_defs.specs.Fold.{FeedFold, fold_of}
use Rattle.board_defs.specs.Views.{HubKept, StandsFor, folds_of}
use Rattle.feed_out.proofs.Again.{IsSaid, IsNameText, folds_said, names_text}
use Rattle.delta_defs.specs.Changes.{is_same, combined_of, change_sent, held_under, ids_of_both, feed_changes, held_before, changes, changes_bytes}
use Rattle.delta_defs.proofs.Applying.{IsKeyed, IsTable, found_keyed, named_one, at_number, each_feed, each_fold}
use Rattle.delta_defs.proofs.Tables.{folds_tables}
use Rattle.delta_out.proofs.LawLemmas.{found_has}

each_there : {X Y : Type 0} (P : Y → Type 0) (f : X → Option Y) (xs : List X) → ((x : X) → IfSome (f x) P) → AllByRecursion P (filter_map f xs)
each_there P f [] each = tt
each_there P f (x ∷ xs) each = kept (f x) (each x) (each_there P f xs each)
  where
    kept : (o : Option _) → IfSome o P → AllByRecursion P (filter_map f xs) → AllByRecursion P (cons_option o (filter_map f xs))
    kept None here rest = rest
    kept (Some y) here rest = (here, rest)

module _ (prefix : List ℕ) (text : is_utf8 prefix ≡ true) where
  -- an entity that a feed holds, as the combined feed has it
  held_again : (one : HubFeed) → IsNameText one.feed → (s : Stored) → WasSaid s.entity → ReadsAgain (named_one prefix one s)
  held_again one named s said = entity_under prefix text one.feed.name named (said.payload ∷ []) s.entity (said.are_bytes, tt) said.is

  -- what is sent of an id
  sent_again : (one : HubFeed) → IsNameText one.feed → (was is : List Change) → AllByRecursion IsKeyed was → AllByRecursion (λ c. WasSaid c.1.entity) was → AllByRecursion (λ c. WasSaid c.1.entity) is
      → (id : List ℕ) → IfSome (change_sent prefix one id (held_under id was) (held_under id is)) ReadsAgain
  sent_again one named was is keyed before after id = by_case (held_under id was) refl (held_under id is) refl
    where
      by_same : (b : Bool) (s : Stored) → ReadsAgain (named_one prefix one s) → IfSome (if b then None else Some (combined_of prefix one id s)) ReadsAgain
      by_same true s again = tt
      by_same false s again = again

      by_case : (w : Option Stored) → held_under id was ≡ w → (s : Option Stored) → held_under id is ≡ s → IfSome (change_sent prefix one id w s) ReadsAgain
      by_case None at None now = tt
      by_case (Some w) at None now =
          let said = found_has (λ x. WasSaid x.entity) id w was before at in
          subst (λ k. ReadsAgain (entity_under_feed one.feed.name (gone k))) (found_keyed id w was keyed at)
          (gone_again (one.feed.name ++ codes ":" ++ w.entity.id) (texts_joined (one.feed.name ++ codes ":") w.entity.id named (id_said w.entity said)))
      by_case None at (Some s) now = held_again one named s (found_has (λ x. WasSaid x.entity) id s is after now)
      by_case (Some w) at (Some s) now = by_same (is_same (combined_of prefix one id w) (combined_of prefix one id s)) s (held_again one named s (found_has (λ x. WasSaid x.entity) id s is after now))

  feeds_again : (old : List FeedFold) → AllByRecursion IsTable old → AllByRecursion IsSaid old → (feeds : List HubFeed) → AllByRecursion (λ one. IsNameText one.feed) feeds → AllByRecursion (λ one. IsSaid one.fold) feeds
      → AllByRecursion ReadsAgain (flat_map (λ one. feed_changes prefix (held_before old one) one) feeds)
  feeds_again old tables before [] named after = tt
  feeds_again old tables before (one ∷ feeds) named after =
      let was = held_before old one in
      subst (AllByRecursion ReadsAgain) (sym (flat_map-cons (λ x. feed_changes prefix (held_before old x) x) one feeds))
      (each_append ReadsAgain (feed_changes prefix was one) (flat_map (λ x. feed_changes prefix (held_before old x) x) feeds)
      (each_there ReadsAgain (λ id. change_sent prefix one id (held_under id was) (held_under id one.fold.entities)) (ids_of_both was one.fold.entities)
      (sent_again one named.0 was one.fold.entities (at_number IsTable (tt, tt) old tables one.number).1 (at_number IsSaid tt old before one.number) after.0))
      (feeds_again old tables before feeds named.1 after.1))

pub reads_as : (kept : HubKept) (plan : ℕ) (old : List FeedFold) (feeds : List HubFeed) (newest : ℕ) (prefix : List ℕ) → length (changes_bytes kept.plans plan old (folds_of kept)) < 2 ^ 64
    → prefix ≡ prefix_of kept.plans plan → is_utf8 prefix ≡ true → AreSchedules kept.plans → feeds ≡ schedule_feeds plan kept.plans.feeds (folds_of kept) → newest ≡ newest_of feeds → newest < 2 ^ 64
    → (g h : List Entry) → WereRead g → WereRead h → old ≡ fold_of (length kept.plans.feeds) g → StandsFor h kept
    → read (changes_bytes kept.plans plan old (folds_of kept)) ≡ Ok (changes kept.plans plan old (folds_of kept))
unfolding changes_bytes
reads_as kept plan old feeds newest prefix small is text sound its_feeds stamp low g h were read_h before stands =
    let count = length kept.plans.feeds in
    let ours = schedule_feeds plan kept.plans.feeds (folds_of kept) in
    let own = prefix_of kept.plans plan in
    message_again Differential (newest_of ours) (changes kept.plans plan old (folds_of kept)).entity (subst (λ n. n < 2 ^ 64) (stamp ∙ ap newest_of its_feeds) low)
    (feeds_again own (subst (λ p. is_utf8 p ≡ true) is text) old
    (subst (AllByRecursion IsTable) (sym before) (folds_tables g count))
    (subst (AllByRecursion IsSaid) (sym before) (folds_said g were count)) ours
    (each_feed plan IsNameText 0 kept.plans.feeds (folds_of kept) (names_text kept.plans.feeds sound.feed_named))
    (each_fold plan IsSaid 0 kept.plans.feeds (folds_of kept) (subst (AllByRecursion IsSaid) (sym stands.feeds) (folds_said h read_h count))))
    small
