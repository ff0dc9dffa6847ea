-- The messages of a sample (GTFS Realtime 2.0), and the feeds that they go to.
use Rattle.std.specs.Prelude.{ℕ, ◌+◌, ◌-◌, ◌*◌, ◌/◌, ◌%◌, ◌==◌, ◌||◌, Bool, true, if◌then◌else◌, List, [], ◌∷◌, ◌++◌, map, Some, None, ℤ, pos, ◌-ℤ◌, codes}
use Rattle.std.specs.Fmt.{decimal}
use Rattle.std.specs.List.{range_with_len}
use Rattle.rt_types.specs.declared.enums.Incrementality.{Incrementality}
use Rattle.rt_types.specs.declared.enums.Incrementality.TheVariants.{FullDataset, Differential}
use Rattle.rt_types.specs.declared.descriptor.TripRef.{TripRef}
use Rattle.rt_types.specs.declared.message.Entity.{Entity}
use Rattle.rt_types.specs.declared.message.FeedMessage.{FeedMessage}
use Rattle.rt_types.specs.declared.message.Header.{Header}
use Rattle.rt_types.specs.declared.trip_update.Event.{Event}
use Rattle.rt_types.specs.declared.trip_update.StopUpdate.{StopUpdate}
use Rattle.rt_types.specs.declared.trip_update.TripUpdate.{TripUpdate}
use Rattle.feed_defs.specs.Table.{write}
use Rattle.hub_gen_defs.specs.Draws.{draw}
use Rattle.hub_gen_defs.specs.Network.{places, trip_id}

-- the entities of a message
abbrev pub entities : ℕ
entities = 20

-- ---- what an entity says

-- entities are named by their trips
abbrev pub entity_id : ℕ → List ℕ
entity_id trip = codes "e" ++ decimal trip

-- a trip's update is taken away
abbrev pub deleted : ℕ → Entity
deleted trip = record {
  id = entity_id trip;
  is_deleted = Some true;
  trip_update = None;
  vehicle = None;
  alert = None;
  unknown = [];
}

-- a trip of the first day of the timetable
abbrev pub trip_on_first_day : ℕ → TripRef
trip_on_first_day trip = record {
  trip_id = Some (trip_id trip);
  start_time = None;
  start_date = Some (codes "20250101");
  relation = None;
  route_id = None;
  direction_id = None;
  unknown = [];
}

-- a place is left so many seconds late, or early where below 0
abbrev pub departs_late : ℤ → Event
departs_late delay = record { delay = Some delay; time = None; uncertainty = None; unknown = [] }

abbrev pub left_late : ℕ → ℤ → StopUpdate
left_late sequence delay = record {
  stop_sequence = Some sequence;
  arrival = None;
  departure = Some (departs_late delay);
  stop_id = None;
  relation = None;
  properties = None;
  unknown = [];
}

-- a trip is late from a place on
abbrev pub late_update : ℕ → ℕ → ℤ → TripUpdate
late_update trip sequence delay = record {
  trip = trip_on_first_day trip;
  stop_time_update = left_late sequence delay ∷ [];
  vehicle = None;
  timestamp = None;
  delay = None;
  unknown = [];
}

abbrev pub late : ℕ → ℕ → ℤ → Entity
late trip sequence delay = record {
  id = entity_id trip;
  is_deleted = None;
  trip_update = Some (late_update trip sequence delay);
  vehicle = None;
  alert = None;
  unknown = [];
}

-- ---- what is drawn for it

-- the stop_sequence of the place, and the delay there, from 5 minutes early to 15 minutes late
abbrev pub sequence_by : ℕ → ℕ
sequence_by drawn = 1 + drawn / 16 % places

abbrev pub delay_by : ℕ → ℤ
delay_by drawn = pos (drawn / 512 % 1201) -ℤ pos 300

-- of ten entities one is deleted
abbrev pub entity_by : ℕ → ℕ → Entity
entity_by trip drawn = if drawn % 10 == 0 then deleted trip
    else late trip (sequence_by drawn) (delay_by drawn)

-- the entity of a number, from 0 on, among those of all messages: two draws, the first for its trip
abbrev pub entity_of : ℕ → ℕ → ℕ → Entity
entity_of seed trips number =
    entity_by (draw seed (2 * number) % trips) (draw seed (2 * number + 1))

-- so many entities, from that of a number on
unfoldable pub entities_from : ℕ → ℕ → ℕ → ℕ → List Entity
entities_from seed trips first count = map (entity_of seed trips) (range_with_len first count)

-- ---- messages, by number from 1

-- of fifty messages the first two, one of each feed, are whole data sets
abbrev pub is_whole : ℕ → Bool
is_whole message = (message % 50 == 1) || (message % 50 == 2)

abbrev pub incrementality_of : ℕ → Incrementality
incrementality_of message = if is_whole message then FullDataset else Differential

-- a message each second from the first day's midnight on
abbrev pub header_of : ℕ → Header
header_of message = record {
  version = codes "2.0";
  incrementality = Some (incrementality_of message);
  timestamp = Some (1735689600 + message);
  unknown = [];
}

abbrev pub message_of : ℕ → ℕ → ℕ → FeedMessage
message_of seed trips message = record {
  header = header_of message;
  entity = entities_from seed trips (entities * (message - 1)) entities;
  unknown = [];
}

-- ---- offers

-- bytes that are offered to a feed, by its number
pub record Offered : Type 0 where
  pub feed : ℕ
  pub bytes : List ℕ

-- the messages go to the two feeds in turn
abbrev pub feed_of : ℕ → ℕ
feed_of message = (message + 1) % 2

abbrev pub offer_of : ℕ → ℕ → ℕ → Offered
offer_of seed trips message = record {
  feed = feed_of message;
  bytes = write (message_of seed trips message);
}

-- so many messages, in order
unfoldable pub offers_of : ℕ → ℕ → ℕ → List Offered
offers_of seed trips messages = map (offer_of seed trips) (range_with_len 1 messages)
