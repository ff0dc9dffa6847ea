-- The keys of a configuration's tables, what each may hold, and what stands for one that is absent.
use Rattle.std.specs.Prelude.{ℕ, List, [], ◌∷◌, codes}
use Rattle.hub_config_defs.specs.declared.fault.TableName.{TableName}
use Rattle.hub_config_defs.specs.declared.fault.TableName.TheVariants.{Top, Schedule, Feed}
use Rattle.hub_config_defs.specs.declared.rule.Key.{Key}
use Rattle.hub_config_defs.specs.declared.rule.Key.TheVariants.{Readers, Listen, Connections, Schedules, Feeds, ScheduleName, Folder, Zone, First, Days, Prefix, FeedName, FeedSchedule, Kind, Place, MaxAge, Every, Polls, Tries}
use Rattle.hub_config_defs.specs.declared.rule.Holds.{Holds}
use Rattle.hub_config_defs.specs.declared.rule.Holds.TheVariants.{Number, Date, AnyText, ShortText, NewSchedule, NewFeed, KnownSchedule, Port, Tables}

-- what stands for a key that is absent
pub data Default : Type 0 where
  required : Default
  number : ℕ → Default
  text : List ℕ → Default
  no_tables : Default

-- a key's name, what it may hold, and what stands for it where it is absent
pub record Rule : Type 0 where
  pub name : List ℕ
  pub holds : Holds
  pub absent : Default

-- the keys, a line each
unfoldable pub rule_of : Key → Rule
rule_of Readers = record { name = codes "readers"; holds = Number 1 64; absent = number 2 }
rule_of Listen = record {
  name = codes "listen";
  holds = AnyText;
  absent = text (codes "127.0.0.1:8080");
}
rule_of Connections = record {
  name = codes "connections";
  holds = Number 0 1000000000;
  absent = number 0;
}
rule_of Schedules = record { name = codes "schedule"; holds = Tables 1 8; absent = required }
rule_of Feeds = record { name = codes "feed"; holds = Tables 0 64; absent = no_tables }
rule_of ScheduleName = record { name = codes "name"; holds = NewSchedule; absent = required }
rule_of Folder = record { name = codes "folder"; holds = AnyText; absent = required }
rule_of Zone = record { name = codes "zone"; holds = AnyText; absent = required }
rule_of First = record { name = codes "first"; holds = Date; absent = required }
rule_of Days = record { name = codes "days"; holds = Number 1 400; absent = required }
rule_of Prefix = record { name = codes "prefix"; holds = ShortText 32; absent = text [] }
rule_of FeedName = record { name = codes "name"; holds = NewFeed; absent = required }
rule_of FeedSchedule = record { name = codes "schedule"; holds = KnownSchedule; absent = required }
rule_of Kind = record { name = codes "kind"; holds = Port; absent = text (codes "none") }
rule_of Place = record { name = codes "place"; holds = AnyText; absent = text [] }
rule_of MaxAge = record { name = codes "max_age"; holds = Number 0 31622400; absent = number 0 }
rule_of Every = record { name = codes "every"; holds = Number 1 86400; absent = number 10 }
rule_of Polls = record { name = codes "polls"; holds = Number 0 1000000000; absent = number 0 }
rule_of Tries = record { name = codes "tries"; holds = Number 1 1000; absent = number 10 }

-- the keys of a table, in the order in which they are judged
unfoldable pub keys_of : TableName → List Key
keys_of Top = Readers ∷ Listen ∷ Connections ∷ Schedules ∷ Feeds ∷ []
keys_of Schedule = ScheduleName ∷ Folder ∷ Zone ∷ First ∷ Days ∷ Prefix ∷ []
keys_of Feed = FeedName ∷ FeedSchedule ∷ Kind ∷ Place ∷ MaxAge ∷ Every ∷ Polls ∷ Tries ∷ []
