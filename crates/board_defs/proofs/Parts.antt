-- The parts of the examples: messages with one trip update, and rows of the small city.
use Rattle.std.specs.Prelude.{ℕ, Some, None, Option, List, [], ℤ, pos, codes}
use Rattle.rt_types.specs.declared.descriptor.TripRef.{TripRef}
use Rattle.rt_types.specs.declared.enums.Incrementality.TheVariants.{FullDataset}
use Rattle.rt_types.specs.declared.enums.StopRelation.{StopRelation}
use Rattle.rt_types.specs.declared.enums.TripRelation.{TripRelation}
use Rattle.rt_types.specs.declared.message.Entity.{Entity}
use Rattle.rt_types.specs.declared.message.FeedMessage.{FeedMessage}
use Rattle.rt_types.specs.declared.trip_update.Event.{Event}
use Rattle.rt_types.specs.declared.trip_update.StopUpdate.{StopUpdate}
use Rattle.rt_types.specs.declared.trip_update.TripUpdate.{TripUpdate}
use Rattle.feed_defs.specs.declared.history.Entry.{Entry}
use Rattle.board_defs.specs.declared.row.Row.{Row}
use Rattle.board_defs.specs.declared.row.RowState.{RowState}

-- a trip of that id on that date
abbrev pub trip_on : List ℕ → List ℕ → Option TripRelation → TripRef
trip_on id date relation = record {
  trip_id = Some id;
  start_time = None;
  start_date = Some date;
  relation = relation;
  route_id = None;
  direction_id = None;
  unknown = [];
}

abbrev pub late : ℕ → Option Event
late seconds = Some (record { delay = Some (pos seconds); time = None; uncertainty = None; unknown = [] })

-- an update of the place with that sequence: when it is left, and its relation
abbrev pub stop_update : ℕ → Option Event → Option StopRelation → StopUpdate
stop_update sequence departure relation = record {
  stop_sequence = Some sequence;
  arrival = None;
  departure = departure;
  stop_id = None;
  relation = relation;
  properties = None;
  unknown = [];
}

abbrev pub trip_update : TripRef → List StopUpdate → TripUpdate
trip_update trip updates = record {
  trip = trip;
  stop_time_update = updates;
  vehicle = None;
  timestamp = None;
  delay = None;
  unknown = [];
}

abbrev pub entity_of : List ℕ → TripUpdate → Entity
entity_of id update = record {
  id = id;
  is_deleted = None;
  trip_update = Some update;
  vehicle = None;
  alert = None;
  unknown = [];
}

-- a whole data set of so many entities
abbrev pub message_at : ℕ → List Entity → FeedMessage
message_at stamp entities = record {
  header = record { version = codes "2.0"; incrementality = Some FullDataset; timestamp = Some stamp; unknown = [] };
  entity = entities;
  unknown = [];
}

abbrev pub entry_of : ℕ → FeedMessage → Entry
entry_of feed message = record { feed = feed; message = message }

-- trip T1 on 30 March 2025
abbrev pub first_trip : Option TripRelation → TripRef
first_trip relation = trip_on (codes "T1") (codes "20250330") relation

-- a row of a trip to the hill on 30 March 2025
abbrev pub hill_row : ℕ → ℕ → Option ℤ → RowState → List ℕ → List ℕ → Row
hill_row expected scheduled delay state trip platform = record {
  expected = pos expected;
  scheduled = Some (pos scheduled);
  delay = delay;
  state = state;
  route = codes "7";
  headsign = codes "Hill";
  trip = trip;
  date = codes "20250330";
  platform = platform;
}
