-- The first fault of a table.
use Rattle.std.specs.Prelude.{ℕ, List, [], ◌∷◌, Bool, false, ◌||◌, ◌&&◌, not, if◌then◌else◌, Option, Some, None}
use Rattle.std.specs.List.{list_any}
use Rattle.std.specs.Option.{is_some, option_map, option_or}
use Rattle.std.specs.Str.{bytes_eq}
use Rattle.toml.specs.Data.{Data, Members, no_members, member, get_member}
use Rattle.hub_config_defs.specs.declared.conf.ScheduleConf.{ScheduleConf}
use Rattle.hub_config_defs.specs.declared.conf.FeedConf.{FeedConf}
use Rattle.hub_config_defs.specs.declared.fault.TableName.{TableName}
use Rattle.hub_config_defs.specs.declared.fault.ConfWhy.{ConfWhy}
use Rattle.hub_config_defs.specs.declared.fault.ConfWhy.TheVariants.{Unknown, Missing, Bad, Twice, NoName}
use Rattle.hub_config_defs.specs.declared.fault.ConfFault.{ConfFault}
use Rattle.hub_config_defs.specs.declared.fault.ConfFault.TheVariants as fault
use Rattle.hub_config_defs.specs.declared.rule.Key.{Key}
use Rattle.hub_config_defs.specs.declared.rule.Key.TheVariants.{Kind, Place}
use Rattle.hub_config_defs.specs.declared.rule.Holds.{Holds}
use Rattle.hub_config_defs.specs.declared.rule.Holds.TheVariants.{NewSchedule, NewFeed, KnownSchedule}
use Rattle.hub_config_defs.specs.Rules.{Default, required, Rule, rule_of, keys_of}
use Rattle.hub_config_defs.specs.Values.{number_of, text_of, tables_of, text_at, port_of, is_polled, is_poll_place}

-- a schedule, or a feed, among these has the name
abbrev pub has_schedule : List ℕ → List ScheduleConf → Bool
has_schedule name schedules = list_any (λ s. bytes_eq s.name name) schedules

abbrev pub has_feed : List ℕ → List FeedConf → Bool
has_feed name feeds = list_any (λ f. bytes_eq f.name name) feeds

-- what is wrong with a name beside the schedules and the feeds so far
unfoldable pub name_fault : Holds → List ℕ → List ScheduleConf → List FeedConf → Option ConfWhy
name_fault NewSchedule name schedules feeds =
    if has_schedule name schedules then Some Twice else None
name_fault NewFeed name schedules feeds = if has_feed name feeds then Some Twice else None
name_fault KnownSchedule name schedules feeds =
    if has_schedule name schedules then None else Some NoName
name_fault _ name schedules feeds = None

-- the value is of the type and in the range that its key asks for
unfoldable pub is_held : Holds → Data → Bool
is_held holds d = is_some (number_of holds d) || is_some (text_of holds d)
    || is_some (tables_of holds d)

-- what is wrong with a text that a value says, if it says one
abbrev pub said_fault : Holds → Option (List ℕ) → List ScheduleConf → List FeedConf → Option ConfWhy
said_fault holds None schedules feeds = None
said_fault holds (Some name) schedules feeds = name_fault holds name schedules feeds

-- what is wrong with a value
unfoldable pub value_fault : Holds → Data → List ScheduleConf → List FeedConf → Option ConfWhy
value_fault holds d schedules feeds = if is_held holds d
    then said_fault holds (text_of holds d) schedules feeds else Some Bad

-- what is wrong with an absent key
abbrev pub absent_fault : Default → Option ConfWhy
absent_fault required = Some Missing
absent_fault _ = None

-- what is wrong with what a key has
abbrev pub found_fault : Rule → Option Data → List ScheduleConf → List FeedConf → Option ConfWhy
found_fault rule None schedules feeds = absent_fault rule.absent
found_fault rule (Some d) schedules feeds = value_fault rule.holds d schedules feeds

-- a table says of a feed that it is polled, and no place for that
abbrev pub is_unfit_place : Key → Members → Bool
is_unfit_place Place ms =
    is_polled (port_of (text_at Kind ms)) && not (is_poll_place (text_at Place ms))
is_unfit_place _ ms = false

-- what is wrong with a key of a table
unfoldable pub key_fault : Key → Members → List ScheduleConf → List FeedConf → Option ConfWhy
key_fault key ms schedules feeds =
    if is_unfit_place key ms then Some Bad
    else found_fault (rule_of key) (get_member (rule_of key).name ms) schedules feeds

-- the name is the key's, and that of one of the keys
abbrev pub has_name : List ℕ → Key → Bool
has_name name key = bytes_eq (rule_of key).name name

unfoldable pub is_known : List Key → List ℕ → Bool
is_known keys name = list_any (has_name name) keys

-- the first name of a table that is none of the keys'; a document's tables have their names in byte
-- order
unfoldable pub unknown_in : List Key → Members → Option (List ℕ)
unknown_in keys no_members = None
unknown_in keys (member name d ms) = if is_known keys name then unknown_in keys ms else Some name

-- a key with what is wrong with it
abbrev pub named_fault : Key → Option ConfWhy → Option (List ℕ × ConfWhy)
named_fault key why = option_map (λ w. ((rule_of key).name, w)) why

-- the first of the keys with which something is wrong
unfoldable pub wrong_in : List Key → Members → List ScheduleConf → List FeedConf
    → Option (List ℕ × ConfWhy)
wrong_in [] ms schedules feeds = None
wrong_in (key ∷ keys) ms schedules feeds =
    option_or (named_fault key (key_fault key ms schedules feeds))
    (wrong_in keys ms schedules feeds)

-- the first fault of a table: a name that no key has, else the first of the keys with which
-- something is wrong
unfoldable pub first_wrong : TableName → Members → List ScheduleConf → List FeedConf
    → Option (List ℕ × ConfWhy)
first_wrong table ms schedules feeds =
    option_or (option_map (λ name. (name, Unknown)) (unknown_in (keys_of table) ms))
    (wrong_in (keys_of table) ms schedules feeds)

-- a fault of a row of a kind of table
abbrev pub placed : TableName → ℕ → List ℕ × ConfWhy → ConfFault
placed table row wrong = fault.Bad table row wrong.0 wrong.1

-- the first fault of a table as one of the configuration
abbrev pub fault_in : TableName → ℕ → Members → List ScheduleConf → List FeedConf → Option ConfFault
fault_in table row ms schedules feeds =
    option_map (placed table row) (first_wrong table ms schedules feeds)
