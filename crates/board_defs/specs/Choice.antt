-- Which update counts for a run, where several feeds or several entities of one feed speak of it.
use Rattle.std.specs.Prelude.{ℕ, Bool, true, false, not, ◌&&◌, ◌==◌, if◌then◌else◌, List, [], filter, Option, Some, None, unwrap_or}
use Rattle.std.specs.Cmp.Lexicographic.{slice_cmp}
use Rattle.std.specs.List.{filter_map, list_any}
use Rattle.std.specs.Ordering.{nat_cmp, is_gt, ordering_then}
use Rattle.std.specs.Str.{bytes_eq}
use Rattle.std.specs.declared.cmp.Ordering.{Ordering}
use Rattle.rt_types.specs.declared.descriptor.TripRef.{TripRef}
use Rattle.rt_types.specs.declared.trip_update.TripUpdate.{TripUpdate}
use Rattle.sched_types.specs.declared.plans.NamedFeed.{NamedFeed}
use Rattle.sched_types.specs.declared.rows.Run.{Run}
use Rattle.sched_types.specs.Timetable.{Timetable}
use Rattle.trip_match_defs.specs.declared.found.Found.{Found}
use Rattle.trip_match_defs.specs.declared.found.Found.TheVariants as found
use Rattle.trip_match_defs.specs.Matching.{match_of}
use Rattle.order.specs.Order.{greatest}
use Rattle.text_defs.specs.Moments.{is_stamp}
use Rattle.board_defs.specs.Feeds.{HeldEntity, counts_at, schedule_entities}
use Rattle.board_defs.specs.Fold.{FeedFold}

-- a trip update, with the number of its feed, the id of its entity, and its stamp
pub record Update : Type 0 where
  pub stamp : ℕ
  pub feed : ℕ
  pub id : List ℕ
  pub update : TripUpdate

-- an update's stamp is its own, where it has one that is a moment, else its message's (GTFS
-- Realtime, TripUpdate, timestamp)
abbrev pub stamp_or : ℕ → Option ℕ → ℕ
stamp_or message None = message
stamp_or message (Some own) = if is_stamp own then own else message

abbrev pub update_of : HeldEntity → Option TripUpdate → Option Update
update_of held None = None
update_of held (Some update) = Some (record {
  stamp = stamp_or held.stored.stamp update.timestamp;
  feed = held.number;
  id = held.stored.entity.id;
  update = update;
})

-- the trip update of an entity, if it has one
abbrev pub update_in : HeldEntity → Option Update
update_in held = update_of held held.stored.entity.trip_update

-- and where it counts at a moment, by its own stamp
abbrev pub if_counting : ℕ → HeldEntity → Option Update → Option Update
if_counting at held None = None
if_counting at held (Some u) =
    if counts_at held.feed.max_age u.stamp at then Some u else None

abbrev pub update_at : ℕ → HeldEntity → Option Update
update_at at held = if_counting at held (update_in held)

-- the trip updates in the feeds of a schedule that count at a moment, by feed and id
abbrev pub updates_at : ℕ → ℕ → List NamedFeed → List FeedFold → List Update
updates_at plan at feeds folds = filter_map (update_at at) (schedule_entities plan feeds folds)

-- whether what a trip descriptor is about is this run
abbrev pub is_run_found : Run → Found → Bool
is_run_found run (found.Run other) = (other.trip == run.trip) && (other.day == run.day)
is_run_found run found.Added = false
is_run_found run (found.NoMatch why) = false

-- whether an update is about a run, by its stamp
abbrev pub is_about : Timetable → Run → Update → Bool
is_about t run update = is_run_found run (match_of t update.update.trip update.stamp)

-- the later update counts more, then that of the lower feed number, then that of the greater id;
-- this order is this project's
abbrev pub choice_cmp : Update → Update → Ordering
choice_cmp a b =
    ordering_then (nat_cmp a.stamp b.stamp)
    (ordering_then (nat_cmp b.feed a.feed) (slice_cmp nat_cmp a.id b.id))

-- the update that counts for a run, if there is one
unfoldable pub chosen : Timetable → List Update → Run → Option Update
chosen t updates run = greatest choice_cmp (filter (is_about t run) updates)

-- ---- trips that were added to the timetable (GTFS Realtime, TripDescriptor, ADDED)

-- what a trip descriptor is about is an added trip
abbrev pub is_added_found : Found → Bool
is_added_found (found.Run run) = false
is_added_found found.Added = true
is_added_found (found.NoMatch why) = false

-- a text, empty where it is absent
abbrev pub text_or_none : Option (List ℕ) → List ℕ
text_or_none text = unwrap_or text []

-- the descriptor has this trip_id and this start_date
abbrev pub is_added_trip : List ℕ → List ℕ → TripRef → Bool
is_added_trip trip date named =
    bytes_eq (text_or_none named.trip_id) trip && bytes_eq (text_or_none named.start_date) date

-- whether an update is about an added trip, by its stamp
abbrev pub is_added_update : Timetable → Update → Bool
is_added_update t u = is_added_found (match_of t u.update.trip u.stamp)

-- two updates are of one added trip, where their trip_id and their start_date are the same
abbrev pub is_same_trip : Update → Update → Bool
is_same_trip u other =
    is_added_trip (text_or_none u.update.trip.trip_id) (text_or_none u.update.trip.start_date)
    other.update.trip

-- another update of the same added trip counts more
abbrev pub is_outdone : List Update → Update → Bool
is_outdone updates u =
    list_any (λ other. is_same_trip u other && is_gt (choice_cmp other u)) updates

-- of updates of added trips those that count, one for each trip, as they stood
abbrev pub not_outdone : List Update → List Update
not_outdone added = filter (λ u. not (is_outdone added u)) added

-- the updates that count for added trips
unfoldable pub added_updates : Timetable → List Update → List Update
added_updates t updates = not_outdone (filter (is_added_update t) updates)
