-- What is written of the message of a hub's views is the combined feed.
use Rattle.std.proofs.Common.{◌≡◌, ◌<◌, ℕ, List, [], ◌++◌, length, map, get_or, sym, ap, ◌∙◌, append_assoc}
use Rattle.std.specs.Prelude.{unwrap_or}
use Rattle.std.specs.List.{flat_map}
use Rattle.std.specs.Option.{option_map}
use Rattle.std.proofs.lemmas.List.Folds.{flat_map-map}
use Rattle.std.proofs.lemmas.Option.{slice_get-get_or}
use Rattle.rt_types.specs.declared.enums.Incrementality.TheVariants.{FullDataset}
use Rattle.feed_defs.specs.Table.{write}
use Rattle.sched_types.specs.declared.plans.NamedPlan.{NamedPlan}
use Rattle.sched_types.specs.Schedules.{Schedules}
use Rattle.board_defs.specs.Feed.{newest_of, combined_entity, prefix_of, feed_message, feed_bytes, combined_feed}
use Rattle.board_defs.specs.Feeds.{HubFeed, HeldEntity, held_in, schedule_feeds, schedule_entities}
use Rattle.board_defs.specs.Views.{HubKept, folds_of}
use Rattle.feed_out.specs.Fields.{combined_field, header_of}
use Rattle.feed_write.specs.Entities.{entity_field}
use Rattle.feed_write.proofs.Entities.{message_grows}

-- the message has the prefix of its schedule
pub prefix_is : (kept : HubKept) (schedules : Schedules) (plans : List NamedPlan) (plan : ℕ) (named : NamedPlan) (prefix : List ℕ) → schedules ≡ kept.plans → plans ≡ schedules.plans
    → plan < length kept.plans.plans → prefix ≡ (get_or plans plan named).prefix → prefix ≡ prefix_of kept.plans plan
prefix_is kept schedules plans plan named prefix whole its_plans within is =
    is
    ∙ ap (λ xs. (get_or xs plan named).prefix) (its_plans ∙ ap (λ s. s.plans) whole)
    ∙ sym (ap (λ o. unwrap_or (option_map (λ n. n.prefix) o) []) (slice_get-get_or kept.plans.plans plan named within))

-- what is appended is the combined feed
pub bytes_are : (kept : HubKept) (schedules : Schedules) (plans : List NamedPlan) (plan : ℕ) (named : NamedPlan) (prefix : List ℕ) (feeds : List HubFeed) (entities : List HeldEntity) (newest : ℕ) (before headed after : List ℕ)
    → schedules ≡ kept.plans → plans ≡ schedules.plans → plan < length kept.plans.plans → prefix ≡ (get_or plans plan named).prefix
    → feeds ≡ schedule_feeds plan kept.plans.feeds (folds_of kept) → entities ≡ schedule_entities plan kept.plans.feeds (folds_of kept)
    → newest ≡ newest_of feeds → headed ≡ before ++ write (header_of FullDataset newest) → after ≡ headed ++ flat_map (combined_field prefix) entities
    → after ≡ before ++ combined_feed kept.plans plan (folds_of kept)
unfolding feed_bytes
bytes_are kept schedules plans plan named prefix feeds entities newest before headed after whole its_plans within is its_feeds its_entities stamp head written =
    let ours = schedule_feeds plan kept.plans.feeds (folds_of kept) in
    written
    ∙ ap (λ bytes. bytes ++ flat_map (combined_field prefix) entities)
    (head ∙ ap (λ n. before ++ write (header_of FullDataset n)) (stamp ∙ ap newest_of its_feeds))
    ∙ append_assoc before (write (header_of FullDataset (newest_of ours))) (flat_map (combined_field prefix) entities)
    ∙ ap (λ bytes. before ++ bytes) (
    ap (λ bytes. write (header_of FullDataset (newest_of ours)) ++ bytes)
    (ap (flat_map (combined_field prefix)) its_entities ∙ sym (flat_map-map entity_field (combined_entity prefix) (held_in ours)))
    ∙ sym (message_grows (header_of FullDataset (newest_of ours)).header (map (combined_entity prefix) (held_in ours)))
    ∙ ap (λ p. write (feed_message p ours)) (prefix_is kept schedules plans plan named prefix whole its_plans within is)
    )
