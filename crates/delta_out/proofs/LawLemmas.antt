-- Where the messages were read, the difference brings a reader from one combined feed to the other.
use Rattle.std.proofs.Common.{◌≡◌, inl, inr, ℕ, List, [], ◌∷◌, ◌++◌, map, length, Bool, true, false, cond, Some, Ok, sym, ap, ◌∙◌, subst, refl}
use Rattle.std.specs.List.{AllByRecursion}
use Rattle.std.specs.Str.{is_utf8}
use Rattle.std.specs.Ordering.{eq_by_cmp}
use Rattle.std.specs.FinMap.{find}
use Rattle.std.proofs.lemmas.Slice.Eq.{bytes_eq-Decides}
use Rattle.rt_types.specs.declared.message.Entity.{Entity}
use Rattle.answer_defs.proofs.Steps.{ok_is}
use Rattle.feed_defs.specs.declared.history.Entry.{Entry}
use Rattle.feed_defs.specs.declared.history.Stored.{Stored}
use Rattle.feed_defs.specs.History.{Change, changes_by_id, WereRead}
use Rattle.feed_defs.specs.Rows.{value, message_bytes}
use Rattle.feed_defs.specs.Table.{entity}
use Rattle.feed_defs.proofs.DataSet.{WasSaid}
use Rattle.feed_defs.proofs.Kept.{id_cmp}
use Rattle.feed_defs.proofs.RenamedAgain.{entity_under}
use Rattle.sched_types.specs.Schedules.{AreSchedules}
use Rattle.board_defs.specs.Feed.{prefix_of}
use Rattle.board_defs.specs.Feeds.{HubFeed, schedule_feeds}
use Rattle.board_defs.specs.Fold.{FeedFold, fold_of}
use Rattle.board_defs.specs.Views.{HubKept, StandsFor, folds_of}
use Rattle.feed_out.proofs.Again.{IsSaid, IsNameText, folds_said, names_text}
use Rattle.delta_defs.specs.Applied.{BringsTo}
use Rattle.delta_defs.specs.Changes.{held_under, held_before, changes}
use Rattle.delta_defs.proofs.Applying.{AreTold, IsTable, named_one, at_number, each_feed, each_fold, changes_bring}
use Rattle.delta_defs.proofs.IdOrder.{same_id, equal, or_else, found_alone, found_either}
use Rattle.delta_defs.proofs.Tables.{folds_tables, folds_count}
use Rattle.delta_feed.specs.Pairs.{IdPair, pair_under, pairs_of}
use Rattle.delta_feed.specs.Sent.{IsShort, AreShort, IsShortPair}
use Rattle.delta_out.specs.Feeds.{IsShortFeed}

-- what is found under an id has what each has
pub found_has : (P : Stored → Type 0) (id : List ℕ) (s : Stored) (es : List Change) → AllByRecursion (λ c. P c.1) es → find id_cmp id es ≡ Some s → P s
found_has P id s [] each found = absurd (cc)
found_has P id s (c ∷ es) each found = by_tie (eq_by_cmp id_cmp id c.0) found (found_has P id s es each.1)
  where
    by_tie : (b : Bool) → cond b (Some c.1) (find id_cmp id es) ≡ Some s → (find id_cmp id es ≡ Some s → P s) → P s
    by_tie true is rest = let same : c.1 ≡ s = cc in subst P same each.0
    by_tie false is rest = rest is

-- and each pair of an id that is in the list
each_at : (P : IdPair → Type 0) (was is es : List Change) → AllByRecursion P (map (pair_under was is) (map (λ c. c.0) es)) → (id : List ℕ) (x : Stored) → find id_cmp id es ≡ Some x → P (pair_under was is id)
each_at P was is [] each id x found = absurd (cc)
each_at P was is (c ∷ es) each id x found = by_tie (eq_by_cmp id_cmp id c.0) refl found (each_at P was is es each.1 id x)
  where
    by_tie : (b : Bool) → eq_by_cmp id_cmp id c.0 ≡ b → cond b (Some c.1) (find id_cmp id es) ≡ Some x → (find id_cmp id es ≡ Some x → P (pair_under was is id)) → P (pair_under was is id)
    by_tie true tie at rest = subst (λ k. P (pair_under was is k)) (sym (same_id id c.0 (equal _ tie))) each.0
    by_tie false tie at rest = rest at

module _ (prefix : List ℕ) (text : is_utf8 prefix ≡ true) where
  -- an entity that was said is read again from what is written of it
  back : (one : HubFeed) → IsNameText one.feed → (s : Stored) → WasSaid s.entity → IsShort (named_one prefix one s) → value entity (message_bytes entity (named_one prefix one s) ∷ []) ≡ Ok (named_one prefix one s)
  back one named s said short = entity_under prefix text one.feed.name named (said.payload ∷ []) s.entity (said.are_bytes, tt) said.is short

  -- what a feed held and holds under an id is the same, or both are short
  both_short : (name : List ℕ) (was is : List Change) → AllByRecursion (IsShortPair prefix name) (pairs_of was is) → (id : List ℕ) (w s : Stored) → held_under id was ≡ Some w → held_under id is ≡ Some s → AreShort prefix name (Some w) (Some s)
  both_short name was is each id w s at now =
      subst (AreShort prefix name (Some w)) now (subst (λ o. AreShort prefix name o (held_under id is)) at
      (each_at (IsShortPair prefix name) was is (changes_by_id (was ++ is)) each id w (found_alone id (was ++ is) ∙ found_either id was is ∙ ap (λ o. or_else o (find id_cmp id is)) at)))

  -- so two that are written alike are one
  one_alike : (old : List FeedFold) (one : HubFeed) → IsNameText one.feed → AllByRecursion (λ c. WasSaid c.1.entity) (held_before old one) → AllByRecursion (λ c. WasSaid c.1.entity) one.fold.entities → IsShortFeed prefix old one
      → AreTold prefix one (held_before old one) one.fold.entities
  one_alike old one named before after each id w s at now same = by_case (both_short one.feed.name (held_before old one) one.fold.entities each id w s at now)
    where
      a : Entity
      a = named_one prefix one w

      b : Entity
      b = named_one prefix one s

      by_case : AreShort prefix one.feed.name (Some w) (Some s) → a ≡ b
      by_case (inl stays) = ap (named_one prefix one) stays
      by_case (inr short) =
          ok_is a b
          (sym (back one named w (found_has (λ x. WasSaid x.entity) id w (held_before old one) before at) short.0)
          ∙ ap (λ bytes. value entity (bytes ∷ [])) ((bytes_eq-Decides (message_bytes entity a) (message_bytes entity b)).0 same)
          ∙ back one named s (found_has (λ x. WasSaid x.entity) id s one.fold.entities after now) short.1)

  all_alike : (old : List FeedFold) → AllByRecursion IsSaid old → (feeds : List HubFeed) → AllByRecursion (λ one. IsNameText one.feed) feeds → AllByRecursion (λ one. IsSaid one.fold) feeds → AllByRecursion (IsShortFeed prefix old) feeds
      → AllByRecursion (λ one. AreTold prefix one (held_before old one) one.fold.entities) feeds
  all_alike old before [] named after each = tt
  all_alike old before (one ∷ feeds) named after each =
      (one_alike old one named.0 (at_number IsSaid tt old before one.number) after.0 each.0, all_alike old before feeds named.1 after.1 each.1)

pub brings_to : (kept : HubKept) (plan : ℕ) (old folds : List FeedFold) (prefix : List ℕ) (feeds : List HubFeed) → prefix ≡ prefix_of kept.plans plan → is_utf8 prefix ≡ true → AreSchedules kept.plans
    → feeds ≡ schedule_feeds plan kept.plans.feeds (folds_of kept) → folds ≡ old → AllByRecursion (IsShortFeed prefix folds) feeds
    → (g h : List Entry) → WereRead g → WereRead h → old ≡ fold_of (length kept.plans.feeds) g → StandsFor h kept
    → BringsTo kept.plans plan old (folds_of kept) (changes kept.plans plan old (folds_of kept))
brings_to kept plan old folds prefix feeds is text sound its_feeds same each g h were read then stands =
    let count = length kept.plans.feeds in
    let ours = schedule_feeds plan kept.plans.feeds (folds_of kept) in
    let own = prefix_of kept.plans plan in
    let short : AllByRecursion (IsShortFeed own old) ours = subst (AllByRecursion (IsShortFeed own old)) its_feeds (subst (λ fs. AllByRecursion (IsShortFeed own fs) feeds) same (subst (λ p. AllByRecursion (IsShortFeed p folds) feeds) is each)) in
    let named : AllByRecursion IsNameText kept.plans.feeds = names_text kept.plans.feeds sound.feed_named in
    changes_bring kept.plans plan old (folds_of kept) sound
    (ap length then ∙ folds_count count g h ∙ sym (ap length stands.feeds))
    (subst (AllByRecursion IsTable) (sym then) (folds_tables g count))
    (subst (AllByRecursion IsTable) (sym stands.feeds) (folds_tables h count))
    (all_alike own (subst (λ p. is_utf8 p ≡ true) is text) old (subst (AllByRecursion IsSaid) (sym then) (folds_said g were count)) ours
    (each_feed plan IsNameText 0 kept.plans.feeds (folds_of kept) named)
    (each_fold plan IsSaid 0 kept.plans.feeds (folds_of kept) (subst (AllByRecursion IsSaid) (sym stands.feeds) (folds_said h read count)))
    short)
