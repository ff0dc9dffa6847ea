-- What a message names of what is kept before it.
use Rattle.std.specs.Prelude.{◌≡◌, ℕ, if◌then◌else◌, Option, Some, None, List, length, map}
use Rattle.rt_types.specs.declared.message.FeedMessage.{FeedMessage}
use Rattle.feed_defs.specs.History.{Change, entities_after, is_full}
use Rattle.sched_types.specs.Timetable.{Timetable}
use Rattle.run_overlay.specs.declared.id_changes.IdBefore.{IdBefore}
use Rattle.run_overlay.specs.declared.link.Link.{Link}
use Rattle.run_overlay.specs.Changing.{id_before}
use Rattle.run_overlay.specs.Kept.{FeedOverlay, IsTable, overlay_of}

-- How many entities it has; and, where it is no whole data set, their ids, with the runs that the
-- updates under them were about before it.
pub record NamedIds : Type 0 where
  pub count : ℕ
  pub ids : Option (List IdBefore)

abbrev pub ids_named : List (List ℕ × Link) → FeedMessage → NamedIds
ids_named links message = record {
  count = length message.entity;
  ids =
      if is_full message
      then None
      else Some (map (λ entity. id_before links entity.id) message.entity);
}

abbrev pub named_by : FeedOverlay → FeedMessage → NamedIds
named_by overlay message = ids_named overlay.mentions.links message

-- The table is the one after a message, the overlay is that of the table before it, and the message
-- names these ids.
pub record IsAfter (t : Timetable) (overlay : FeedOverlay) (table : List Change)
    (named : NamedIds) : Type 0 where
  pub old : List Change
  pub message : FeedMessage
  pub was : IsTable old
  pub kept : overlay ≡ overlay_of t old
  pub now : table ≡ entities_after message old
  pub names : named ≡ named_by overlay message
