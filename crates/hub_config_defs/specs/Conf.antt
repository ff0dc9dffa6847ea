-- The configuration of a document.
use Rattle.std.specs.Prelude.{ℕ, ◌+◌, List, [], ◌∷◌, ◌++◌, if◌then◌else◌, Option, Some, None, Result, Ok, Err}
use Rattle.std.specs.List.{position}
use Rattle.std.specs.Option.{unwrap_or}
use Rattle.std.specs.Str.{bytes_eq, is_utf8}
use Rattle.toml.specs.Data.{Items, no_items, item, Members, as_table}
use Rattle.toml.specs.Parse.{parse_document}
use Rattle.hub_config_defs.specs.declared.conf.PortKind.TheVariants.{Nothing}
use Rattle.hub_config_defs.specs.declared.conf.HubConf.{HubConf}
use Rattle.hub_config_defs.specs.declared.conf.ScheduleConf.{ScheduleConf}
use Rattle.hub_config_defs.specs.declared.conf.FeedConf.{FeedConf}
use Rattle.hub_config_defs.specs.declared.fault.TableName.TheVariants.{Top, Schedule, Feed}
use Rattle.hub_config_defs.specs.declared.fault.ConfFault.{ConfFault}
use Rattle.hub_config_defs.specs.declared.fault.ConfFault.TheVariants as fault
use Rattle.hub_config_defs.specs.declared.rule.Key.TheVariants as key
use Rattle.hub_config_defs.specs.Values.{number_at, text_at, tables_at, port_of}
use Rattle.hub_config_defs.specs.Faults.{fault_in}

-- then what follows, where there was no fault
abbrev pub and_then : {A B : Type 0} → Result A ConfFault → (A → Result B ConfFault)
    → Result B ConfFault
and_then (Ok x) more = more x
and_then (Err e) more = Err e

-- a value, unless there is a fault
abbrev pub unless : {A : Type 0} → Option ConfFault → A → Result A ConfFault
unless None value = Ok value
unless (Some e) value = Err e

-- the schedule that a table says
unfoldable pub schedule_of : Members → ScheduleConf
schedule_of ms = record {
  name = text_at key.ScheduleName ms;
  folder = text_at key.Folder ms;
  zone = text_at key.Zone ms;
  first = number_at key.First ms;
  days = number_at key.Days ms;
  prefix = text_at key.Prefix ms;
}

-- the index of the schedule of a name
unfoldable pub index_of : List ℕ → List ScheduleConf → ℕ
index_of name schedules = unwrap_or (position (λ s. bytes_eq s.name name) schedules) 0

-- the feed that a table says
unfoldable pub feed_of : List ScheduleConf → Members → FeedConf
feed_of schedules ms = record {
  name = text_at key.FeedName ms;
  schedule = index_of (text_at key.FeedSchedule ms) schedules;
  kind = unwrap_or (port_of (text_at key.Kind ms)) Nothing;
  place = text_at key.Place ms;
  max_age = number_at key.MaxAge ms;
  every = number_at key.Every ms;
  polls = number_at key.Polls ms;
  tries = number_at key.Tries ms;
}

-- a row of `schedule`, behind those before it
unfoldable pub schedule_row : ℕ → List ScheduleConf → Members → Result ScheduleConf ConfFault
schedule_row row before ms = unless (fault_in Schedule row ms before []) (schedule_of ms)

-- a row of `feed`, behind those before it
unfoldable pub feed_row : List ScheduleConf → ℕ → List FeedConf → Members
    → Result FeedConf ConfFault
feed_row schedules row before ms =
    unless (fault_in Feed row ms schedules before) (feed_of schedules ms)

-- one more row behind those before it, where there is a table
unfoldable pub added : {A : Type 0} → (List A → Members → Result A ConfFault) → List A
    → Option Members → Result (List A) ConfFault
added row_of before None = Ok before
added row_of before (Some ms) = and_then (row_of before ms) (λ value. Ok (before ++ value ∷ []))

-- the rows of an array of tables from a row on, behind those before it, or the first fault among
-- them
unfoldable pub rows_from : {A : Type 0} → (ℕ → List A → Members → Result A ConfFault) → ℕ → List A
    → Items → Result (List A) ConfFault
rows_from row_of row before no_items = Ok before
rows_from row_of row before (item d ds) =
    and_then (added (row_of row) before (as_table d)) (λ more. rows_from row_of (row + 1) more ds)

-- the configuration that a document says
unfoldable pub hub_of : Members → List ScheduleConf → List FeedConf → HubConf
hub_of ms schedules feeds = record {
  readers = number_at key.Readers ms;
  listen = text_at key.Listen ms;
  connections = number_at key.Connections ms;
  schedules = schedules;
  feeds = feeds;
}

-- its schedules, and its feeds
abbrev pub schedules_in : Members → Result (List ScheduleConf) ConfFault
schedules_in ms = rows_from schedule_row 1 [] (tables_at key.Schedules ms)

abbrev pub feeds_in : Members → List ScheduleConf → Result (List FeedConf) ConfFault
feeds_in ms schedules = rows_from (feed_row schedules) 1 [] (tables_at key.Feeds ms)

-- the configuration of a document, or its first fault: of its own keys, then of the schedules, then
-- of the feeds
unfoldable pub conf_in : Members → Result HubConf ConfFault
conf_in ms =
    and_then (unless (fault_in Top 0 ms [] []) ms) (λ _.
    and_then (schedules_in ms) (λ schedules.
    and_then (feeds_in ms schedules) (λ feeds. Ok (hub_of ms schedules feeds))))

-- the configuration of a document, if there is one
abbrev pub conf_in_document : Option Members → Result HubConf ConfFault
conf_in_document None = Err fault.Toml
conf_in_document (Some ms) = conf_in ms

-- the configuration of a text of bytes, or its first fault
unfoldable pub conf_of : List ℕ → Result HubConf ConfFault
conf_of bytes = if is_utf8 bytes then conf_in_document (parse_document bytes) else Err fault.Toml
