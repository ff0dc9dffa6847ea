-- The ids of an entity under a prefix, so that those of several timetables differ.
use Rattle.std.specs.Prelude.{ℕ, List, [], ◌++◌, map, if◌then◌else◌}
use Rattle.std.specs.Option.{option_map}
use Rattle.std.specs.Str.{bytes_eq}
use Rattle.rt_types.specs.declared.alert.Alert.{Alert}
use Rattle.rt_types.specs.declared.alert.Selector.{Selector}
use Rattle.rt_types.specs.declared.descriptor.TripRef.{TripRef}
use Rattle.rt_types.specs.declared.message.Entity.{Entity}
use Rattle.rt_types.specs.declared.trip_update.StopProps.{StopProps}
use Rattle.rt_types.specs.declared.trip_update.StopUpdate.{StopUpdate}
use Rattle.rt_types.specs.declared.trip_update.TripUpdate.{TripUpdate}
use Rattle.rt_types.specs.declared.vehicle.Vehicle.{Vehicle}

-- an id behind the prefix; an empty one stays empty
abbrev pub prefixed : List ℕ → List ℕ → List ℕ
prefixed prefix id = if bytes_eq id [] then [] else prefix ++ id

-- a trip_id and a route_id
abbrev pub renamed_trip : List ℕ → TripRef → TripRef
renamed_trip prefix m = record m {
  trip_id = option_map (prefixed prefix) m.trip_id;
  route_id = option_map (prefixed prefix) m.route_id;
}

-- an assigned_stop_id
abbrev pub renamed_properties : List ℕ → StopProps → StopProps
renamed_properties prefix m = record m {
  assigned_stop_id = option_map (prefixed prefix)
      m.assigned_stop_id;
}

-- a stop_id, and what its properties name
abbrev pub renamed_stop : List ℕ → StopUpdate → StopUpdate
renamed_stop prefix m = record m {
  stop_id = option_map (prefixed prefix) m.stop_id;
  properties = option_map (renamed_properties prefix) m.properties;
}

abbrev pub renamed_update : List ℕ → TripUpdate → TripUpdate
renamed_update prefix m = record m {
  trip = renamed_trip prefix m.trip;
  stop_time_update = map (renamed_stop prefix) m.stop_time_update;
}

abbrev pub renamed_vehicle : List ℕ → Vehicle → Vehicle
renamed_vehicle prefix m = record m {
  trip = option_map (renamed_trip prefix) m.trip;
  stop_id = option_map (prefixed prefix) m.stop_id;
}

-- an agency_id, a route_id and a stop_id, and what its trip names
abbrev pub renamed_selector : List ℕ → Selector → Selector
renamed_selector prefix m = record m {
  agency_id = option_map (prefixed prefix) m.agency_id;
  route_id = option_map (prefixed prefix) m.route_id;
  trip = option_map (renamed_trip prefix) m.trip;
  stop_id = option_map (prefixed prefix) m.stop_id;
}

abbrev pub renamed_alert : List ℕ → Alert → Alert
renamed_alert prefix m = record m {
  informed_entity = map (renamed_selector prefix)
      m.informed_entity;
}

-- Each id of the timetable within an entity stands behind the prefix. Its own id, those of vehicles
-- and all else stay.
abbrev pub renamed_entity : List ℕ → Entity → Entity
renamed_entity prefix m = record m {
  trip_update = option_map (renamed_update prefix) m.trip_update;
  vehicle = option_map (renamed_vehicle prefix) m.vehicle;
  alert = option_map (renamed_alert prefix) m.alert;
}
