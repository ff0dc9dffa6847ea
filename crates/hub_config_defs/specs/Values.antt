-- What the value at a key says: a number, a text or tables, where it says what its key may hold.
use Rattle.std.specs.Prelude.{ℕ, ◌+◌, ◌==◌, List, [], ◌∷◌, length, take, drop, Bool, true, false, ◌&&◌, nat_le, if◌then◌else◌, Option, Some, None, ℤ, pos, negsuc}
use Rattle.std.specs.Option.{option_and_then, unwrap_or, is_some}
use Rattle.std.specs.List.{list_all, list_any, position_or_len}
use Rattle.std.specs.Str.{bytes_eq}
use Rattle.std.specs.Prelude.{codes}
use Rattle.text_defs.specs.Names.{is_name}
use Rattle.text_defs.specs.Dates.{is_day, date_in}
use Rattle.toml.specs.Data.{Data, Items, no_items, item, Members, get_member, as_integer, as_str, as_array, as_table}
use Rattle.hub_config_defs.specs.declared.rule.Key.{Key}
use Rattle.hub_config_defs.specs.declared.rule.Holds.{Holds}
use Rattle.hub_config_defs.specs.declared.rule.Holds.TheVariants.{Number, Date, AnyText, ShortText, NewSchedule, NewFeed, KnownSchedule, Port, Tables}
use Rattle.hub_config_defs.specs.declared.conf.PortKind.{PortKind}
use Rattle.hub_config_defs.specs.declared.conf.PortKind.TheVariants.{Nothing, Spool, Stream, Poll}
use Rattle.hub_config_defs.specs.Rules.{Default, number, text, rule_of}

-- the number, where it lies from the least to the most
abbrev pub within : ℕ → ℕ → ℤ → Option ℕ
within least most (pos n) = if nat_le least n && nat_le n most then Some n else None
within least most (negsuc n) = None

-- the eight digits YYYYMMDD of a day of the Gregorian calendar from 19700201 to 29991231
abbrev pub is_window_date : ℕ → Bool
is_window_date date = nat_le 19700201 date && nat_le date 29991231 && is_day date

-- the number of such digits
unfoldable pub date_of : List ℕ → Option ℕ
date_of t =
    option_and_then (λ date. if is_window_date date then Some date else None) (date_in t)

-- the way that a word names in which messages come to a feed
unfoldable pub port_of : List ℕ → Option PortKind
port_of t =
    if bytes_eq t (codes "none") then Some Nothing
    else (if bytes_eq t (codes "spool") then Some Spool
    else (if bytes_eq t (codes "stream") then Some Stream
    else (if bytes_eq t (codes "poll") then Some Poll else None)))

-- messages come as replies to polls
abbrev pub is_polled : Option PortKind → Bool
is_polled (Some Poll) = true
is_polled _ = false

-- a character of ASCII that is printed and no space
abbrev pub is_visible : ℕ → Bool
is_visible b = nat_le 33 b && nat_le b 126

-- a `/` stands behind at least one byte
abbrev pub has_path : List ℕ → Bool
has_path [] = false
has_path (b ∷ bytes) = list_any (λ c. c == 47) bytes

-- the place of a feed that is polled: a host, and the path behind it, in visible ASCII
unfoldable pub is_poll_place : List ℕ → Bool
is_poll_place t = list_all is_visible t && has_path t

-- how long its host is: up to the first `/` that stands behind at least one byte
abbrev pub host_length : List ℕ → ℕ
host_length [] = 0
host_length (b ∷ bytes) = 1 + position_or_len (λ c. c == 47) bytes

-- its host, and its path from the `/` on
unfoldable pub host_of : List ℕ → List ℕ
host_of place = take (host_length place) place

unfoldable pub path_of : List ℕ → List ℕ
path_of place = drop (host_length place) place

-- the number that a value says
unfoldable pub number_of : Holds → Data → Option ℕ
number_of (Number least most) d = option_and_then (within least most) (as_integer d)
number_of Date d = option_and_then date_of (as_str d)
number_of _ d = None

-- whether a key may hold the text
unfoldable pub is_text_for : Holds → List ℕ → Bool
is_text_for AnyText t = true
is_text_for (ShortText most) t = nat_le (length t) most
is_text_for NewSchedule t = is_name t
is_text_for NewFeed t = is_name t
is_text_for KnownSchedule t = true
is_text_for Port t = is_some (port_of t)
is_text_for _ t = false

-- the text that a value says
unfoldable pub text_of : Holds → Data → Option (List ℕ)
text_of holds d = option_and_then (λ t. if is_text_for holds t then Some t else None) (as_str d)

-- how many values an array has
abbrev pub count : Items → ℕ
count no_items = 0
count (item d ds) = 1 + count ds

-- the value is a table
abbrev pub is_table : Data → Bool
is_table d = is_some (as_table d)

-- each value of an array is one
abbrev pub are_tables : Items → Bool
are_tables no_items = true
are_tables (item d ds) = is_table d && are_tables ds

-- whether a key may hold the array
unfoldable pub is_array_for : Holds → Items → Bool
is_array_for (Tables least most) ds = nat_le least (count ds) && nat_le (count ds) most
    && are_tables ds
is_array_for _ ds = false

-- the tables that a value says
unfoldable pub tables_of : Holds → Data → Option Items
tables_of holds d =
    option_and_then (λ ds. if is_array_for holds ds then Some ds else None) (as_array d)

-- what stands for an absent number and an absent text
abbrev pub default_number : Default → ℕ
default_number (number n) = n
default_number _ = 0

abbrev pub default_text : Default → List ℕ
default_text (text t) = t
default_text _ = []

-- what a table says at a key, or what stands for it there
unfoldable pub number_at : Key → Members → ℕ
number_at key ms =
    unwrap_or (option_and_then (number_of (rule_of key).holds) (get_member (rule_of key).name ms))
    (default_number (rule_of key).absent)

unfoldable pub text_at : Key → Members → List ℕ
text_at key ms =
    unwrap_or (option_and_then (text_of (rule_of key).holds) (get_member (rule_of key).name ms))
    (default_text (rule_of key).absent)

unfoldable pub tables_at : Key → Members → Items
tables_at key ms =
    unwrap_or (option_and_then (tables_of (rule_of key).holds) (get_member (rule_of key).name ms))
    no_items

-- at most so many tables stand at a key
abbrev pub most_tables : Holds → ℕ
most_tables (Tables least most) = most
most_tables _ = 0
