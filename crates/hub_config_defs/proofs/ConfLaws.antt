-- What holds of every configuration that was read, for the crates above.
use Rattle.std.proofs.Common.{◌≡◌, ◌∙◌, ℕ, zero, suc, ◌+◌, ◌<◌, ◌≤◌, ◌&&◌, ◌||◌, ◌⊎◌, nat_lt, nat_le, List, [], ◌∷◌, ◌++◌, length, length-append, map, slice_get, Bool, true, false, Option, Some, None, Result, Ok, pos, refl, ap, sym, subst, inl, inr, arith, cond, if◌then◌else◌, codes}
use Rattle.std.proofs.lemmas.Bool.{cases_Bool, and_parts}
use Rattle.std.proofs.lemmas.Bool.Decides.{nat_tests}
use Rattle.std.proofs.lemmas.List.{map-append}
use Rattle.std.proofs.lemmas.Option.{none-some, same_Some}
use Rattle.std.proofs.lemmas.Slice.Eq.{bytes_eq-Decides}
use Rattle.std.specs.List.{list_all, list_any}
use Rattle.text_defs.specs.Names.{is_name}
use Rattle.std.specs.Str.{bytes_eq, is_utf8}
use Rattle.toml.specs.Parse.{parse_document}
use Rattle.hub_config_defs.specs.declared.fault.ConfWhy.TheVariants.{Twice}
use Rattle.hub_config_defs.specs.Right.{AreNames, IsLegal, has_numbers, has_schedule_of, has_short_prefix, has_window}
use Rattle.std.specs.Option.{is_some, option_and_then, option_map, option_or, unwrap_or}
use Rattle.toml.specs.Data.{Data, string, integer, float, boolean, datetime, array, table, Items, no_items, item, Members, get_member, as_table}
use Rattle.hub_config_defs.specs.declared.conf.HubConf.{HubConf}
use Rattle.hub_config_defs.specs.declared.conf.ScheduleConf.{ScheduleConf}
use Rattle.hub_config_defs.specs.declared.conf.FeedConf.{FeedConf}
use Rattle.hub_config_defs.specs.declared.fault.ConfFault.{ConfFault}
use Rattle.hub_config_defs.specs.declared.fault.ConfWhy.{ConfWhy}
use Rattle.hub_config_defs.specs.declared.fault.TableName.TheVariants.{Top, Schedule, Feed}
use Rattle.hub_config_defs.specs.declared.rule.Key.{Key}
use Rattle.hub_config_defs.specs.declared.rule.Key.TheVariants as key
use Rattle.hub_config_defs.specs.declared.rule.Holds.TheVariants.{Number, Date, ShortText, KnownSchedule, NewSchedule, NewFeed, Tables}
use Rattle.hub_config_defs.specs.Rules.{Default, no_tables, number, required, text, rule_of, keys_of}
use Rattle.hub_config_defs.specs.Values.{are_tables, count, text_at, number_of, text_of, tables_of, is_text_for, is_array_for, number_at, tables_at, date_of, is_window_date, within}
use Rattle.hub_config_defs.specs.Faults.{has_feed, has_schedule, fault_in, first_wrong, wrong_in, key_fault, found_fault, value_fault, is_held, name_fault}
use Rattle.hub_config_defs.specs.Conf.{added, and_then, rows_from, unless, schedule_row, schedule_of, feed_row, feed_of, index_of, conf_in, conf_in_document, conf_of, feeds_in, hub_of, schedules_in}

-- a part's value, where the whole is one
and_then_ok : {A B : Type 0} (r : Result A ConfFault) (more : A → Result B ConfFault) (y : B) → and_then r more ≡ Ok y → (x : A) × (r ≡ Ok x) × (more x ≡ Ok y)
and_then_ok r more y h = grind arith

unless_ok : {A : Type 0} (o : Option ConfFault) (x y : A) → unless o x ≡ Ok y → (o ≡ None) × (x ≡ y)
unless_ok o x y h = grind arith

-- a test that each row passes is one that all pass
list_all-last : {A : Type 0} (test : A → Bool) (xs : List A) (x : A) → list_all test xs ≡ true → test x ≡ true → list_all test (xs ++ x ∷ []) ≡ true
list_all-last test [] x h e = rw e
list_all-last test (y ∷ xs) x h e =
    let (here, more) = and_parts (test y) (list_all test xs) h in
    rw (here, list_all-last test xs x more e)

added_right : {A : Type 0} (test : A → Bool) (row_of : List A → Members → Result A ConfFault) → ((before : List A) (ms : Members) (x : A) → row_of before ms ≡ Ok x → test x ≡ true)
    → (before : List A) (o : Option Members) (xs : List A) → list_all test before ≡ true → added row_of before o ≡ Ok xs → list_all test xs ≡ true
unfolding added
added_right test row_of right before o xs h e = grind (arith, and_then_ok, list_all-last)

pub rows_right : {A : Type 0} (test : A → Bool) (row_of : ℕ → List A → Members → Result A ConfFault) → ((row : ℕ) (before : List A) (ms : Members) (x : A) → row_of row before ms ≡ Ok x → test x ≡ true)
    → (row : ℕ) (before : List A) (ds : Items) (xs : List A) → list_all test before ≡ true → rows_from row_of row before ds ≡ Ok xs → list_all test xs ≡ true
unfolding rows_from
rows_right test row_of right row before no_items xs h e = let same : before ≡ xs = cc in subst (λ ys. list_all test ys ≡ true) same h
rows_right test row_of right row before (item d ds) xs h e =
    let (more, said, rest) = and_then_ok (added (row_of row) before (as_table d)) _ xs e in
    rows_right test row_of right (row + 1) more ds xs (added_right test (row_of row) (right row) before (as_table d) more h said) rest

-- what isn't there has no parts
none_of : {X : Type 0} (o p : Option X) → option_or o p ≡ None → (o ≡ None) × (p ≡ None)
none_of o p h = grind arith

unmapped : {X Y : Type 0} (f : X → Y) (o : Option X) → option_map f o ≡ None → o ≡ None
unmapped f o h = grind arith

in_range : (least most n : ℕ) (ss : List ScheduleConf) (fs : List FeedConf) → value_fault (Number least most) (integer (pos n)) ss fs ≡ None → within least most (pos n) ≡ Some n
unfolding value_fault is_held number_of text_of tables_of
in_range least most n ss fs h = grind (arith, nat_tests)

within_range : (least most n : ℕ) → within least most (pos n) ≡ Some n → (nat_le least n && nat_le n most) ≡ true
within_range least most n h = grind (arith, nat_tests)

-- a required number with which nothing is wrong is in its range
number_right : (name : List ℕ) (least most : ℕ) (o : Option Data) (ss : List ScheduleConf) (fs : List FeedConf)
    → found_fault (record { name = name; holds = Number least most; absent = required }) o ss fs ≡ None
    → (nat_le least (unwrap_or (option_and_then (number_of (Number least most)) o) 0) && nat_le (unwrap_or (option_and_then (number_of (Number least most)) o) 0) most) ≡ true
unfolding value_fault is_held number_of text_of tables_of is_text_for is_array_for
number_right name least most o ss fs h = grind (arith, nat_tests)

-- a number that may be absent is in its range, where what stands for it is
default_right : (name : List ℕ) (least most d : ℕ) (o : Option Data) (ss : List ScheduleConf) (fs : List FeedConf) → (nat_le least d && nat_le d most) ≡ true
    → found_fault (record { name = name; holds = Number least most; absent = number d }) o ss fs ≡ None
    → (nat_le least (unwrap_or (option_and_then (number_of (Number least most)) o) d) && nat_le (unwrap_or (option_and_then (number_of (Number least most)) o) d) most) ≡ true
unfolding value_fault is_held number_of text_of tables_of is_text_for is_array_for
default_right name least most d o ss fs fits h = grind (arith, nat_tests)

-- a text that may be absent is short enough
short_right : (name : List ℕ) (most : ℕ) (o : Option Data) (ss : List ScheduleConf) (fs : List FeedConf)
    → found_fault (record { name = name; holds = ShortText most; absent = text [] }) o ss fs ≡ None
    → nat_le (length (unwrap_or (option_and_then (text_of (ShortText most)) o) [])) most ≡ true
unfolding value_fault is_held number_of text_of tables_of is_text_for is_array_for
short_right name most o ss fs h = grind (arith, nat_tests)

-- a required date with which nothing is wrong is one of the days that a window may begin on
date_right : (name : List ℕ) (o : Option Data) (ss : List ScheduleConf) (fs : List FeedConf)
    → found_fault (record { name = name; holds = Date; absent = required }) o ss fs ≡ None
    → is_window_date (unwrap_or (option_and_then (number_of Date) o) 0) ≡ true
unfolding value_fault is_held number_of text_of tables_of is_text_for is_array_for date_of
date_right name o ss fs h = grind arith

days_right : (ms : Members) (ss : List ScheduleConf) (fs : List FeedConf) → key_fault key.Days ms ss fs ≡ None → (nat_le 1 (number_at key.Days ms) && nat_le (number_at key.Days ms) 400) ≡ true
unfolding key_fault rule_of number_at
days_right ms ss fs h = number_right (codes "days") 1 400 (get_member (codes "days") ms) ss fs h

first_right : (ms : Members) (ss : List ScheduleConf) (fs : List FeedConf) → key_fault key.First ms ss fs ≡ None → is_window_date (number_at key.First ms) ≡ true
unfolding key_fault rule_of number_at
first_right ms ss fs h = date_right (codes "first") (get_member (codes "first") ms) ss fs h

wrong_step : (k : Key) (keys : List Key) (ms : Members) (ss : List ScheduleConf) (fs : List FeedConf) → wrong_in (k ∷ keys) ms ss fs ≡ None → (key_fault k ms ss fs ≡ None) × (wrong_in keys ms ss fs ≡ None)
unfolding wrong_in
wrong_step k keys ms ss fs h = grind arith

prefix_right : (ms : Members) (ss : List ScheduleConf) (fs : List FeedConf) → key_fault key.Prefix ms ss fs ≡ None → nat_le (length (text_at key.Prefix ms)) 32 ≡ true
unfolding key_fault rule_of text_at
prefix_right ms ss fs h = short_right (codes "prefix") 32 (get_member (codes "prefix") ms) ss fs h

-- with no fault in a schedule nothing is wrong with its window and its prefix
keys_right : (ms : Members) (ss : List ScheduleConf) (fs : List FeedConf) → wrong_in (keys_of Schedule) ms ss fs ≡ None
    → (key_fault key.First ms ss fs ≡ None) × (key_fault key.Days ms ss fs ≡ None) × (key_fault key.Prefix ms ss fs ≡ None)
unfolding keys_of
keys_right ms ss fs h = grind (arith, wrong_step)

wrong_none : (ms : Members) (ss : List ScheduleConf) (fs : List FeedConf) → first_wrong Schedule ms ss fs ≡ None → wrong_in (keys_of Schedule) ms ss fs ≡ None
unfolding first_wrong
wrong_none ms ss fs h = (none_of _ _ h).1

schedule_right : (row : ℕ) (before : List ScheduleConf) (ms : Members) (s : ScheduleConf) → schedule_row row before ms ≡ Ok s → has_window s ≡ true
unfolding schedule_row schedule_of
schedule_right row before ms s h =
    let (none, same) = unless_ok (fault_in Schedule row ms before []) (schedule_of ms) s h in
    let (first, days, prefix) = keys_right ms before [] (wrong_none ms before [] (unmapped _ _ none)) in
    subst (λ x. has_window x ≡ true) same (rw (first_right ms before [] first, days_right ms before [] days))

schedule_short : (row : ℕ) (before : List ScheduleConf) (ms : Members) (s : ScheduleConf) → schedule_row row before ms ≡ Ok s → has_short_prefix s ≡ true
unfolding schedule_row schedule_of
schedule_short row before ms s h =
    let (none, same) = unless_ok (fault_in Schedule row ms before []) (schedule_of ms) s h in
    let (first, days, prefix) = keys_right ms before [] (wrong_none ms before [] (unmapped _ _ none)) in
    subst (λ x. has_short_prefix x ≡ true) same (prefix_right ms before [] prefix)

-- a feed without a fault names a schedule that is there, so that there is one
named_right : (name : List ℕ) (o : Option Data) (ss : List ScheduleConf) (fs : List FeedConf)
    → found_fault (record { name = name; holds = KnownSchedule; absent = required }) o ss fs ≡ None → 0 < length ss
unfolding value_fault is_held number_of text_of tables_of is_text_for is_array_for name_fault
named_right name o (s ∷ ss) fs h = omega arith
named_right name None [] fs h = cc
named_right name (Some (string t)) [] fs h = cc
named_right name (Some (integer z)) [] fs h = cc
named_right name (Some (float x)) [] fs h = cc
named_right name (Some (boolean b)) [] fs h = cc
named_right name (Some (datetime t)) [] fs h = cc
named_right name (Some (array ds)) [] fs h = cc
named_right name (Some (table ms)) [] fs h = cc

some_schedule : (ms : Members) (ss : List ScheduleConf) (fs : List FeedConf) → key_fault key.FeedSchedule ms ss fs ≡ None → 0 < length ss
unfolding key_fault rule_of
some_schedule ms ss fs h = named_right (codes "schedule") (get_member (codes "schedule") ms) ss fs h

feed_key_right : (ms : Members) (ss : List ScheduleConf) (fs : List FeedConf) → wrong_in (keys_of Feed) ms ss fs ≡ None → key_fault key.FeedSchedule ms ss fs ≡ None
unfolding keys_of
feed_key_right ms ss fs h = grind (arith, wrong_step)

four : (a b c d : Bool) → a ≡ true → b ≡ true → c ≡ true → d ≡ true → (a && b && c && d) ≡ true
four a b c d p q r s = rw (p, q, r, s) refl

-- with no fault in a feed its numbers are in their ranges
numbers_right : (ms : Members) (ss : List ScheduleConf) (fs : List FeedConf) → wrong_in (keys_of Feed) ms ss fs ≡ None
    → (nat_le (number_at key.MaxAge ms) 31622400 && (nat_le 1 (number_at key.Every ms) && nat_le (number_at key.Every ms) 86400)
    && nat_le (number_at key.Polls ms) 1000000000 && (nat_le 1 (number_at key.Tries ms) && nat_le (number_at key.Tries ms) 1000)) ≡ true
unfolding keys_of key_fault rule_of number_at
numbers_right ms ss fs h = grind (arith, and_parts, default_right, four, wrong_step, nat_tests)

feed_wrong_none : (ms : Members) (ss : List ScheduleConf) (fs : List FeedConf) → first_wrong Feed ms ss fs ≡ None → wrong_in (keys_of Feed) ms ss fs ≡ None
unfolding first_wrong
feed_wrong_none ms ss fs h = (none_of _ _ h).1

place_within : (n m : ℕ) → 0 < m → nat_lt (unwrap_or (cond (nat_lt n m) (Some n) None) 0) m ≡ true
place_within n m h = grind (arith, nat_tests)

feed_right : (ss : List ScheduleConf) (row : ℕ) (before : List FeedConf) (ms : Members) (f : FeedConf) → feed_row ss row before ms ≡ Ok f → has_schedule_of (length ss) f ≡ true
unfolding feed_row feed_of index_of
feed_right ss row before ms f h =
    let (none, same) = unless_ok (fault_in Feed row ms ss before) (feed_of ss ms) f h in
    let some : 0 < length ss = some_schedule ms ss before (feed_key_right ms ss before (feed_wrong_none ms ss before (unmapped _ _ none))) in
    subst (λ x. has_schedule_of (length ss) x ≡ true) same (place_within _ (length ss) some)

feed_numbers : (ss : List ScheduleConf) (row : ℕ) (before : List FeedConf) (ms : Members) (f : FeedConf) → feed_row ss row before ms ≡ Ok f → has_numbers f ≡ true
unfolding feed_row feed_of
feed_numbers ss row before ms f h =
    let (none, same) = unless_ok (fault_in Feed row ms ss before) (feed_of ss ms) f h in
    subst (λ x. has_numbers x ≡ true) same (numbers_right ms ss before (feed_wrong_none ms ss before (unmapped _ _ none)))

-- ---- how many there are, and their names

-- what holds of the rows before each row, and with it, holds of all rows
added_keeps : {A : Type 0} (P : List A → Type 0) (row_of : List A → Members → Result A ConfFault) → ((before : List A) (ms : Members) (x : A) → row_of before ms ≡ Ok x → P before → P (before ++ x ∷ []))
    → (before : List A) (o : Option Members) (xs : List A) → P before → added row_of before o ≡ Ok xs → P xs
unfolding added
added_keeps P row_of keeps before o xs h e = grind arith

rows_keep : {A : Type 0} (P : List A → Type 0) (row_of : ℕ → List A → Members → Result A ConfFault) → ((row : ℕ) (before : List A) (ms : Members) (x : A) → row_of row before ms ≡ Ok x → P before → P (before ++ x ∷ []))
    → (row : ℕ) (before : List A) (ds : Items) (xs : List A) → P before → rows_from row_of row before ds ≡ Ok xs → P xs
unfolding rows_from
rows_keep P row_of keeps row before no_items xs h e = let same : before ≡ xs = cc in subst P same h
rows_keep P row_of keeps row before (item d ds) xs h e =
    let (more, said, rest) = and_then_ok (added (row_of row) before (as_table d)) _ xs e in
    rows_keep P row_of keeps (row + 1) more ds xs (added_keeps P (row_of row) (keeps row) before (as_table d) more h said) rest

-- there are no more rows than values
added_few : {A : Type 0} (row_of : List A → Members → Result A ConfFault) (before : List A) (o : Option Members) (xs : List A) → added row_of before o ≡ Ok xs → length xs ≤ length before + 1
unfolding added
added_few row_of before o xs e = grind (arith, and_then_ok, length-append)

rows_few : {A : Type 0} (row_of : ℕ → List A → Members → Result A ConfFault) (row : ℕ) (before : List A) (ds : Items) (xs : List A) → rows_from row_of row before ds ≡ Ok xs → length xs ≤ length before + count ds
unfolding rows_from
rows_few row_of row before no_items xs e = let same : before ≡ xs = cc in omega (arith, ap length same)
rows_few row_of row before (item d ds) xs e =
    let (more, said, rest) = and_then_ok (added (row_of row) before (as_table d)) _ xs e in
    omega (arith, added_few (row_of row) before (as_table d) more said, rows_few row_of (row + 1) more ds xs rest)

-- and as many as tables
added_one : {A : Type 0} (row_of : List A → Members → Result A ConfFault) (before : List A) (o : Option Members) (xs : List A) → is_some o ≡ true → added row_of before o ≡ Ok xs → length before + 1 ≤ length xs
unfolding added
added_one row_of before o xs t e = grind (arith, and_then_ok, length-append)

rows_each : {A : Type 0} (row_of : ℕ → List A → Members → Result A ConfFault) (row : ℕ) (before : List A) (ds : Items) (xs : List A) → are_tables ds ≡ true
    → rows_from row_of row before ds ≡ Ok xs → length before + count ds ≤ length xs
unfolding rows_from
rows_each row_of row before no_items xs t e = let same : before ≡ xs = cc in omega (arith, ap length same)
rows_each row_of row before (item d ds) xs t e =
    let (is, are) = and_parts (is_some (as_table d)) (are_tables ds) t in
    let (more, said, rest) = and_then_ok (added (row_of row) before (as_table d)) _ xs e in
    omega (arith, added_one (row_of row) before (as_table d) more is said, rows_each row_of (row + 1) more ds xs are rest)

counted : (least most : ℕ) (ds : Items) (why : ConfWhy) (o : Option Items) → o ≡ (if nat_le least (count ds) && nat_le (count ds) most && are_tables ds then Some ds else None)
    → (if is_some o then None else Some why) ≡ None → (least ≤ count (unwrap_or o no_items)) × (count (unwrap_or o no_items) ≤ most) × (are_tables (unwrap_or o no_items) ≡ true)
counted least most ds why o is h = grind (arith, nat_tests)

-- an array of tables with which nothing is wrong has as many as its key asks for
tables_right : (name : List ℕ) (least most : ℕ) (absent : Default) (o : Option Data) → (is_some o ≡ false → least ≡ 0) → found_fault (record { name = name; holds = Tables least most; absent = absent }) o [] [] ≡ None
    → (least ≤ count (unwrap_or (option_and_then (tables_of (Tables least most)) o) no_items)) × (count (unwrap_or (option_and_then (tables_of (Tables least most)) o) no_items) ≤ most)
    × (are_tables (unwrap_or (option_and_then (tables_of (Tables least most)) o) no_items) ≡ true)
unfolding value_fault is_held number_of text_of tables_of is_text_for is_array_for
tables_right name least most absent o none h = grind (arith, nat_tests)

-- a required one is there
is_there : (name : List ℕ) (least most : ℕ) (o : Option Data) → found_fault (record { name = name; holds = Tables least most; absent = required }) o [] [] ≡ None → is_some o ≡ false → least ≡ 0
is_there name least most o h e = grind arith

schedules_counted : (ms : Members) → key_fault key.Schedules ms [] [] ≡ None → (1 ≤ count (tables_at key.Schedules ms)) × (count (tables_at key.Schedules ms) ≤ 8) × (are_tables (tables_at key.Schedules ms) ≡ true)
unfolding key_fault rule_of tables_at
schedules_counted ms h = tables_right (codes "schedule") 1 8 required (get_member (codes "schedule") ms) (is_there (codes "schedule") 1 8 (get_member (codes "schedule") ms) h) h

feeds_few : (ms : Members) → key_fault key.Feeds ms [] [] ≡ None → count (tables_at key.Feeds ms) ≤ 64
unfolding key_fault rule_of tables_at
feeds_few ms h = (tables_right (codes "feed") 0 64 no_tables (get_member (codes "feed") ms) (λ _. refl) h).1

readers_right : (ms : Members) → key_fault key.Readers ms [] [] ≡ None → (nat_le 1 (number_at key.Readers ms) && nat_le (number_at key.Readers ms) 64) ≡ true
unfolding key_fault rule_of number_at
readers_right ms h = default_right (codes "readers") 1 64 2 (get_member (codes "readers") ms) [] [] refl h

connections_right : (ms : Members) → key_fault key.Connections ms [] [] ≡ None → (nat_le 0 (number_at key.Connections ms) && nat_le (number_at key.Connections ms) 1000000000) ≡ true
unfolding key_fault rule_of number_at
connections_right ms h = default_right (codes "connections") 0 1000000000 0 (get_member (codes "connections") ms) [] [] refl h

between : (least most n : ℕ) → (nat_le least n && nat_le n most) ≡ true → (least ≤ n) × (n ≤ most)
between least most n h = grind (arith, nat_tests)

top_right : (ms : Members) → first_wrong Top ms [] [] ≡ None
    → (key_fault key.Readers ms [] [] ≡ None) × (key_fault key.Connections ms [] [] ≡ None) × (key_fault key.Schedules ms [] [] ≡ None) × (key_fault key.Feeds ms [] [] ≡ None)
unfolding first_wrong keys_of
top_right ms h = grind (arith, none_of, wrong_step)

-- ---- names

taken : (has : Bool) → (if has then Some Twice else None) ≡ None → has ≡ false
taken has h = grind arith

-- a name with which nothing is wrong is one that no earlier row has
new_schedule : (name : List ℕ) (o : Option Data) (ss : List ScheduleConf) (fs : List FeedConf) → found_fault (record { name = name; holds = NewSchedule; absent = required }) o ss fs ≡ None
    → (is_name (unwrap_or (option_and_then (text_of NewSchedule) o) []) ≡ true) × (has_schedule (unwrap_or (option_and_then (text_of NewSchedule) o) []) ss ≡ false)
unfolding value_fault is_held number_of text_of tables_of is_text_for is_array_for name_fault
new_schedule name o ss fs h = grind arith

new_feed : (name : List ℕ) (o : Option Data) (ss : List ScheduleConf) (fs : List FeedConf) → found_fault (record { name = name; holds = NewFeed; absent = required }) o ss fs ≡ None
    → (is_name (unwrap_or (option_and_then (text_of NewFeed) o) []) ≡ true) × (has_feed (unwrap_or (option_and_then (text_of NewFeed) o) []) fs ≡ false)
unfolding value_fault is_held number_of text_of tables_of is_text_for is_array_for name_fault
new_feed name o ss fs h = grind arith

schedule_name_right : (ms : Members) (ss : List ScheduleConf) (fs : List FeedConf) → wrong_in (keys_of Schedule) ms ss fs ≡ None
    → (is_name (text_at key.ScheduleName ms) ≡ true) × (has_schedule (text_at key.ScheduleName ms) ss ≡ false)
unfolding keys_of key_fault rule_of text_at
schedule_name_right ms ss fs h = grind (arith, new_schedule, wrong_step)

feed_name_right : (ms : Members) (ss : List ScheduleConf) (fs : List FeedConf) → wrong_in (keys_of Feed) ms ss fs ≡ None
    → (is_name (text_at key.FeedName ms) ≡ true) × (has_feed (text_at key.FeedName ms) fs ≡ false)
unfolding keys_of key_fault rule_of text_at
feed_name_right ms ss fs h = new_feed (codes "name") (get_member (codes "name") ms) ss fs (wrong_step key.FeedName (key.FeedSchedule ∷ key.Kind ∷ key.Place ∷ key.MaxAge ∷ key.Every ∷ key.Polls ∷ key.Tries ∷ []) ms ss fs h).0

-- an item of a list with one more at its end
last_or : {A : Type 0} (xs : List A) (x y : A) (i : ℕ) → slice_get (xs ++ x ∷ []) i ≡ Some y → (slice_get xs i ≡ Some y) ⊎ ((i ≡ length xs) × (x ≡ y))
last_or [] x y zero h = inr (refl, same_Some x y h)
last_or [] x y (suc i) h = absurd (none-some y h)
last_or (z ∷ xs) x y zero h = inl h
last_or (z ∷ xs) x y (suc i) h = grind (arith, last_or xs x y i h)

names_last : (names : List (List ℕ)) (n : List ℕ) → AreNames names → is_name n ≡ true → ((i : ℕ) → slice_get names i ≡ Some n → ⊥) → AreNames (names ++ n ∷ [])
names_last names n are named new = record {
  formed = λ i m h. formed_by m (last_or names n m i h);
  apart = λ i j m h k. apart_by i j m (last_or names n m i h) (last_or names n m j k);
}
  where
    formed_by : (m : List ℕ) {i : ℕ} → (slice_get names i ≡ Some m) ⊎ ((i ≡ length names) × (n ≡ m)) → is_name m ≡ true
    formed_by m {i} (inl before) = are.formed i m before
    formed_by m {i} (inr last) = subst (λ x. is_name x ≡ true) last.1 named

    apart_by : (i j : ℕ) (m : List ℕ) → (slice_get names i ≡ Some m) ⊎ ((i ≡ length names) × (n ≡ m)) → (slice_get names j ≡ Some m) ⊎ ((j ≡ length names) × (n ≡ m)) → i ≡ j
    apart_by i j m (inl a) (inl b) = are.apart i j m a b
    apart_by i j m (inl a) (inr b) = absurd (new i (a ∙ ap Some (sym b.1)))
    apart_by i j m (inr a) (inl b) = absurd (new j (b ∙ ap Some (sym a.1)))
    apart_by i j m (inr a) (inr b) = a.0 ∙ sym b.0

-- a name that no row has is none of their names
not_among : {A : Type 0} (name : A → List ℕ) (xs : List A) (n : List ℕ) → list_any (λ x. bytes_eq (name x) n) xs ≡ false → (i : ℕ) → slice_get (map name xs) i ≡ Some n → ⊥
not_among name [] n h i e = none-some n e
not_among name (x ∷ xs) n h zero e =
    let here : bytes_eq (name x) n ≡ true = (bytes_eq-Decides (name x) n).1 (same_Some (name x) n e) in
    let wrong = rw here at h in cc
not_among name (x ∷ xs) n h (suc i) e = not_among name xs n (second (bytes_eq (name x) n) (list_any (λ x. bytes_eq (name x) n) xs) h) i e
  where
    second : (a b : Bool) → (a || b) ≡ false → b ≡ false
    second true b h = cc
    second false b h = h

schedule_names : (row : ℕ) (before : List ScheduleConf) (ms : Members) (s : ScheduleConf) → schedule_row row before ms ≡ Ok s
    → AreNames (map (λ s. s.name) before) → AreNames (map (λ s. s.name) (before ++ s ∷ []))
unfolding schedule_row schedule_of
schedule_names row before ms s h are =
    let (none, same) = unless_ok (fault_in Schedule row ms before []) (schedule_of ms) s h in
    let (named, new) = schedule_name_right ms before [] (wrong_none ms before [] (unmapped _ _ none)) in
    subst (λ x. AreNames (map (λ s. s.name) (before ++ x ∷ []))) same
    (rw (map-append (λ (s : ScheduleConf). s.name) before (schedule_of ms ∷ [])) (names_last (map (λ s. s.name) before) (text_at key.ScheduleName ms) are named (not_among (λ s. s.name) before (text_at key.ScheduleName ms) new)))

feed_names : (ss : List ScheduleConf) (row : ℕ) (before : List FeedConf) (ms : Members) (f : FeedConf) → feed_row ss row before ms ≡ Ok f
    → AreNames (map (λ f. f.name) before) → AreNames (map (λ f. f.name) (before ++ f ∷ []))
unfolding feed_row feed_of
feed_names ss row before ms f h are =
    let (none, same) = unless_ok (fault_in Feed row ms ss before) (feed_of ss ms) f h in
    let (named, new) = feed_name_right ms ss before (feed_wrong_none ms ss before (unmapped _ _ none)) in
    subst (λ x. AreNames (map (λ f. f.name) (before ++ x ∷ []))) same
    (rw (map-append (λ (f : FeedConf). f.name) before (feed_of ss ms ∷ [])) (names_last (map (λ f. f.name) before) (text_at key.FeedName ms) are named (not_among (λ f. f.name) before (text_at key.FeedName ms) new)))

no_names : AreNames []
no_names = grind arith

conf_in_legal : (ms : Members) (conf : HubConf) → conf_in ms ≡ Ok conf → IsLegal conf
unfolding conf_in hub_of
conf_in_legal ms conf h =
    let (top, passed, rest) = and_then_ok (unless (fault_in Top 0 ms [] []) ms) _ conf h in
    let (ss, schedules, more) = and_then_ok (schedules_in ms) _ conf rest in
    let (fs, feeds, last) = and_then_ok (feeds_in ms ss) _ conf more in
    let same : hub_of ms ss fs ≡ conf = cc in
    let (readers, connections, schedule, feed) = top_right ms (unmapped _ _ (unless_ok (fault_in Top 0 ms [] []) ms top passed).0) in
    let (some, few, tables) = schedules_counted ms schedule in
    let (some_readers, few_readers) = between 1 64 (number_at key.Readers ms) (readers_right ms readers) in
    subst IsLegal same (record {
      some_readers = some_readers;
      few_readers = few_readers;
      few_connections = (between 0 1000000000 (number_at key.Connections ms) (connections_right ms connections)).1;
      some_schedule = omega (arith, some, rows_each schedule_row 1 [] (tables_at key.Schedules ms) ss tables schedules);
      few_schedules = omega (arith, rows_few schedule_row 1 [] (tables_at key.Schedules ms) ss schedules, few);
      few_feeds = omega (arith, rows_few (feed_row ss) 1 [] (tables_at key.Feeds ms) fs feeds, feeds_few ms feed);
      schedule_names = rows_keep (λ xs. AreNames (map (λ s. s.name) xs)) schedule_row schedule_names 1 [] (tables_at key.Schedules ms) ss no_names schedules;
      feed_names = rows_keep (λ xs. AreNames (map (λ f. f.name) xs)) (feed_row ss) (feed_names ss) 1 [] (tables_at key.Feeds ms) fs no_names feeds;
      windows = rows_right has_window schedule_row schedule_right 1 [] (tables_at key.Schedules ms) ss refl schedules;
      prefixes = rows_right has_short_prefix schedule_row schedule_short 1 [] (tables_at key.Schedules ms) ss refl schedules;
      numbers = rows_right has_numbers (feed_row ss) (feed_numbers ss) 1 [] (tables_at key.Feeds ms) fs refl feeds;
      of_schedules = rows_right (has_schedule_of (length ss)) (feed_row ss) (feed_right ss) 1 [] (tables_at key.Feeds ms) fs refl feeds;
    })

conf_said_legal : (said : Option Members) (conf : HubConf) → conf_in_document said ≡ Ok conf → IsLegal conf
conf_said_legal None conf h = cc
conf_said_legal (Some ms) conf h = conf_in_legal ms conf h

-- a configuration that was read has 1 to 8 schedules and up to 64 feeds, with distinct names, and all of its numbers are in their ranges
pub conf_legal : (bytes : List ℕ) (conf : HubConf) → conf_of bytes ≡ Ok conf → IsLegal conf
unfolding conf_of
conf_legal bytes conf h = grind (arith, cases_Bool (is_utf8 bytes), conf_said_legal (parse_document bytes) conf)
