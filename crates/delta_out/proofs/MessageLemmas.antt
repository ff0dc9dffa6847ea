-- The difference is a header, and then what is sent of each feed.
use Rattle.std.proofs.Common.{◌≡◌, ◌<◌, ℕ, List, [], ◌∷◌, ◌++◌, Option, Some, None, refl, sym, ap, ◌∙◌, append_assoc, length, get_or, codes}
use Rattle.std.specs.List.{flat_map, filter_map, cons_option}
use Rattle.std.proofs.lemmas.List.Folds.{flat_map-map}
use Rattle.std.proofs.lemmas.Grind.{flat_map-append}
use Rattle.rt_types.specs.declared.enums.Incrementality.TheVariants.{Differential}
use Rattle.rt_types.specs.declared.message.Entity.{Entity}
use Rattle.rt_types.specs.declared.message.Header.{Header}
use Rattle.feed_defs.specs.declared.history.Stored.{Stored}
use Rattle.feed_defs.specs.Table.{write}
use Rattle.feed_write.specs.Entities.{entity_field}
use Rattle.feed_write.proofs.Entities.{message_grows}
use Rattle.feed_out.specs.Fields.{header_of}
use Rattle.feed_out.proofs.Bytes.{prefix_is}
use Rattle.sched_types.specs.declared.plans.NamedPlan.{NamedPlan}
use Rattle.sched_types.specs.Schedules.{Schedules}
use Rattle.board_defs.specs.Feed.{newest_of, prefix_of}
use Rattle.board_defs.specs.Feeds.{HubFeed, schedule_feeds}
use Rattle.board_defs.specs.Fold.{FeedFold}
use Rattle.board_defs.specs.Views.{HubKept, folds_of}
use Rattle.delta_defs.specs.Changes.{change_sent, held_under, ids_of_both, feed_changes, held_before, changes, changes_bytes}
use Rattle.delta_feed.specs.Pairs.{pair_under}
use Rattle.delta_feed.specs.Sent.{entity_sent, field_of, pair_field}
use Rattle.delta_out.specs.Feeds.{feed_field}

sent_is : (prefix : List ℕ) (one : HubFeed) (id : List ℕ) (was is : Option Stored) → change_sent prefix one id was is ≡ entity_sent prefix one.feed.name id was is
sent_is prefix one id None None = refl
sent_is prefix one id (Some was) None = refl
sent_is prefix one id None (Some is) = refl
sent_is prefix one id (Some was) (Some is) = refl

-- the fields of those that are there, one by one
fields_each : (f : List ℕ → Option Entity) (ids : List (List ℕ)) → flat_map entity_field (filter_map f ids) ≡ flat_map (λ id. field_of (f id)) ids
fields_each f [] = refl
fields_each f (id ∷ ids) = by_answer (f id) (fields_each f ids)
  where
    by_answer : (o : Option Entity) → flat_map entity_field (filter_map f ids) ≡ flat_map (λ x. field_of (f x)) ids → flat_map entity_field (cons_option o (filter_map f ids)) ≡ field_of o ++ flat_map (λ x. field_of (f x)) ids
    by_answer None rest = rest
    by_answer (Some e) rest = ap (λ bytes. entity_field e ++ bytes) rest

flat_same : {X : Type 0} (f g : X → List ℕ) → ((x : X) → f x ≡ g x) → (xs : List X) → flat_map f xs ≡ flat_map g xs
flat_same f g same [] = refl
flat_same f g same (x ∷ xs) = λ i. same x i ++ flat_same f g same xs i

-- what is sent of a feed
pub feed_is : (prefix : List ℕ) (old : List FeedFold) (one : HubFeed) → flat_map entity_field (feed_changes prefix (held_before old one) one) ≡ feed_field prefix old one
feed_is prefix old one =
    let was = held_before old one in
    let is = one.fold.entities in
    fields_each (λ id. change_sent prefix one id (held_under id was) (held_under id is)) (ids_of_both was is)
    ∙ flat_same (λ id. field_of (change_sent prefix one id (held_under id was) (held_under id is))) (λ id. pair_field prefix one.feed.name (pair_under was is id)) (λ id. ap field_of (sent_is prefix one id (held_under id was) (held_under id is))) (ids_of_both was is)
    ∙ sym (flat_map-map (pair_field prefix one.feed.name) (pair_under was is) (ids_of_both was is))

feeds_are : (prefix : List ℕ) (old : List FeedFold) (feeds : List HubFeed) → flat_map entity_field (flat_map (λ one. feed_changes prefix (held_before old one) one) feeds) ≡ flat_map (feed_field prefix old) feeds
feeds_are prefix old [] = refl
feeds_are prefix old (one ∷ feeds) =
    flat_map-append entity_field (feed_changes prefix (held_before old one) one) (flat_map (λ x. feed_changes prefix (held_before old x) x) feeds)
    ∙ (λ i. feed_is prefix old one i ++ feeds_are prefix old feeds i)

abbrev differential_header : ℕ → Header
differential_header stamp = record { version = codes "2.0"; incrementality = Some Differential; timestamp = Some stamp; unknown = [] }

-- all of it
pub changes_are : (schedules : Schedules) (plan : ℕ) (old new : List FeedFold)
    → write (record { header = differential_header (newest_of (schedule_feeds plan schedules.feeds new)); entity = []; unknown = [] }) ++ flat_map (feed_field (prefix_of schedules plan) old) (schedule_feeds plan schedules.feeds new)
    ≡ changes_bytes schedules plan old new
unfolding changes_bytes
changes_are schedules plan old new =
    let ours = schedule_feeds plan schedules.feeds new in
    let head = differential_header (newest_of ours) in
    ap (λ bytes. write (record { header = head; entity = []; unknown = [] }) ++ bytes) (sym (feeds_are (prefix_of schedules plan) old ours))
    ∙ sym (message_grows head (changes schedules plan old new).entity)

-- what is appended is the difference
pub sent_are : (kept : HubKept) (schedules : Schedules) (plans : List NamedPlan) (plan : ℕ) (named : NamedPlan) (prefix : List ℕ) (feeds others : List HubFeed) (newest : ℕ) (old folds : List FeedFold) (before headed after : List ℕ)
    → schedules ≡ kept.plans → plans ≡ schedules.plans → plan < length kept.plans.plans → prefix ≡ (get_or plans plan named).prefix
    → feeds ≡ schedule_feeds plan kept.plans.feeds (folds_of kept) → newest ≡ newest_of feeds → folds ≡ old → others ≡ schedule_feeds plan kept.plans.feeds (folds_of kept)
    → headed ≡ before ++ write (header_of Differential newest) → after ≡ headed ++ flat_map (feed_field prefix folds) others
    → after ≡ before ++ changes_bytes kept.plans plan old (folds_of kept)
sent_are kept schedules plans plan named prefix feeds others newest old folds before headed after whole its_plans within is its_feeds stamp same its_others head written =
    let ours = schedule_feeds plan kept.plans.feeds (folds_of kept) in
    written
    ∙ (λ i. (head ∙ ap (λ n. before ++ write (header_of Differential n)) (stamp ∙ ap newest_of its_feeds)) i ++ flat_map (feed_field (prefix_is kept schedules plans plan named prefix whole its_plans within is i) (same i)) (its_others i))
    ∙ append_assoc before (write (header_of Differential (newest_of ours))) (flat_map (feed_field (prefix_of kept.plans plan) old) ours)
    ∙ ap (λ bytes. before ++ bytes) (changes_are kept.plans plan old (folds_of kept))
