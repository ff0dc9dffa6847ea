-- What holds of every configuration that was read.
use Rattle.std.specs.Prelude.{◌≡◌, ℕ, ◌≤◌, Bool, true, ◌&&◌, nat_le, nat_lt, List, length, map, Some, slice_get, IsTrue}
use Rattle.std.specs.List.{list_all}
use Rattle.text_defs.specs.Names.{is_name}
use Rattle.hub_config_defs.specs.declared.conf.FeedConf.{FeedConf}
use Rattle.hub_config_defs.specs.declared.conf.HubConf.{HubConf}
use Rattle.hub_config_defs.specs.declared.conf.ScheduleConf.{ScheduleConf}
use Rattle.hub_config_defs.specs.Values.{is_window_date}

-- its window begins on a day from 19700201 to 29991231 and has 1 to 400 days
abbrev pub has_window : ScheduleConf → Bool
has_window s = is_window_date s.first && (nat_le 1 s.days && nat_le s.days 400)

-- the prefix of its ids has up to 32 bytes
abbrev pub has_short_prefix : ScheduleConf → Bool
has_short_prefix s = nat_le (length s.prefix) 32

-- its messages count for up to 366 days; it is polled every second to every day, for up to
-- 1000000000 polls, and fails after 1 to 1000 polls that did
abbrev pub has_numbers : FeedConf → Bool
has_numbers f = nat_le f.max_age 31622400 && (nat_le 1 f.every && nat_le f.every 86400)
    && nat_le f.polls 1000000000 && (nat_le 1 f.tries && nat_le f.tries 1000)

-- it belongs to one of so many schedules
abbrev pub has_schedule_of : ℕ → FeedConf → Bool
has_schedule_of schedules f = nat_lt f.schedule schedules

-- each of these is a name, and no two of them are one
pub record AreNames (names : List (List ℕ)) : Type 0 where
  pub formed : (i : ℕ) (name : List ℕ) → slice_get names i ≡ Some name → IsTrue (is_name name)
  pub apart : (i j : ℕ) (name : List ℕ) → slice_get names i ≡ Some name → slice_get names j
      ≡ Some name → i ≡ j

-- 1 to 64 readers, each of which may end after up to 1000000000 connections; 1 to 8 schedules and
-- up to 64 feeds, with distinct names and with numbers in their ranges, of which each feed belongs
-- to a schedule
pub record IsLegal (conf : HubConf) : Type 0 where
  pub some_readers : 1 ≤ conf.readers
  pub few_readers : conf.readers ≤ 64
  pub few_connections : conf.connections ≤ 1000000000
  pub some_schedule : 1 ≤ length conf.schedules
  pub few_schedules : length conf.schedules ≤ 8
  pub few_feeds : length conf.feeds ≤ 64
  pub schedule_names : AreNames (map (λ s. s.name) conf.schedules)
  pub feed_names : AreNames (map (λ f. f.name) conf.feeds)
  pub windows : list_all has_window conf.schedules ≡ true
  pub prefixes : list_all has_short_prefix conf.schedules ≡ true
  pub numbers : list_all has_numbers conf.feeds ≡ true
  pub of_schedules : list_all (has_schedule_of (length conf.schedules)) conf.feeds ≡ true
