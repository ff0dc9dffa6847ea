-- Where the chain of the eight files stops at one that can't be read.
use Rattle.std.proofs.Common.{◌≡◌, ◌≤◌, ◌∙◌, ℕ, List, arith, refl, ap, subst, sym}
use Rattle.std.specs.Prelude.{Option, Some, None, IfSome, Result, Ok, Err, IsErrAnd}
use Rattle.answer_defs.specs.Steps.{◌>>=◌}
use Rattle.gtfs_rows.specs.declared.rows.AgencyRow.{AgencyRow}
use Rattle.gtfs_rows.specs.declared.rows.StopRow.{StopRow}
use Rattle.gtfs_rows.specs.declared.rows.RouteRow.{RouteRow}
use Rattle.gtfs_rows.specs.declared.rows.StopTimeRow.{StopTimeRow}
use Rattle.gtfs_rows.specs.declared.rows.CalendarRow.{CalendarRow}
use Rattle.sched_load_defs.specs.declared.conf.PlanConf.{PlanConf}
use Rattle.sched_load_defs.specs.declared.fault.File.{File}
use Rattle.sched_load_defs.specs.declared.fault.File.TheVariants as file
use Rattle.sched_load_defs.specs.declared.fault.LoadFault.{LoadFault}
use Rattle.sched_load_defs.specs.declared.fault.LoadFault.TheVariants as fault
use Rattle.sched_load_defs.specs.Files.{file_place, stored_in, unreadable}
use Rattle.sched_load_defs.specs.Loading.{dataset_where, timetable_where, zone_of}
use Rattle.sched_load_defs.specs.Numbers.{Dataset}
use Rattle.service_day.specs.Zone.{TzText}
use Rattle.sched_types.specs.Timetable.{Timetable}
use Rattle.row_tables.specs.Alone.{RefusesAlone}
use Rattle.sched_load.specs.Built.{IsBuilt}
use Rattle.sched_load.specs.Stops.{AtFileFault, StopsWith, StopsFile, StopsPart, StopsTables, StopsLoading}
use Rattle.sched_load.specs.declared.tables.NetworkTables.{NetworkTables}
use Rattle.sched_load.specs.Stages.{DayRows, days_where, network_where}
use Rattle.sched_load.proofs.WholeChain.{Told, agencies_told, stops_told, routes_told, times_told, calendar_told, frequencies_told, after_days, after_frequencies, after_times, after_network, by_stages}

-- ---- what passes on

-- what `?` passes on
pub stops_passed : {A : Type 0} (r : Result A LoadFault) (e : LoadFault) (P : Type 0) → IsErrAnd r (λ x. x ≡ e) → AtFileFault e P → StopsWith r P
stops_passed r e P h k = grind arith

-- what holds at a file that could not be read, by another thing that holds there
pub stops_by : (e : LoadFault) (P Q : Type 0) → (P → Q) → AtFileFault e P → AtFileFault e Q
stops_by e P Q f k = grind arith

-- a step that reads no file has no such fault
pub stops_alone : {A : Type 0} (told : Result A LoadFault) (e : LoadFault) (P : Type 0) → RefusesAlone told e → AtFileFault e P
stops_alone told e P x = grind arith

-- nor has a plan that is built
pub stops_built : (told r : Result Timetable LoadFault) (P : Type 0) → IsBuilt told r → StopsWith r P
stops_built told r P h = grind (arith, stops_alone)

-- ---- the files of a stage that come before one

-- the outcome of what stands behind a file that can't be read
abbrev stop : {A : Type 0} → Result A LoadFault
stop = Err fault.FileFault

module _ (folder : List ℕ) (fs : List (List ℕ × List ℕ)) where
  -- what is told where that file can't be read
  abbrev without : File → Told
  without name = unreadable name fs folder

  at_agency : network_where (without file.Agency) ≡ stop
  unfolding network_where
  at_agency = refl

  at_stops : (ag : List AgencyRow) → agencies_told (stored_in fs folder) ≡ Ok ag
      → network_where (without file.Stops) ≡ stop
  unfolding network_where
  at_stops ag a = ap (λ x. x >>= λ _. stop) a

  at_routes : (ag : List AgencyRow) (st : List StopRow) → agencies_told (stored_in fs folder) ≡ Ok ag
      → stops_told (stored_in fs folder) ≡ Ok st → network_where (without file.Routes) ≡ stop
  unfolding network_where
  at_routes ag st a s = grind (arith, stops_told)

  at_trips : (ag : List AgencyRow) (st : List StopRow) (ro : List RouteRow)
      → agencies_told (stored_in fs folder) ≡ Ok ag → stops_told (stored_in fs folder) ≡ Ok st
      → routes_told (stored_in fs folder) ag ≡ Ok ro → network_where (without file.Trips) ≡ stop
  unfolding network_where
  at_trips ag st ro a s r = grind (arith, routes_told, stops_told)

  at_calendar : days_where (without file.Calendar) ≡ stop
  unfolding days_where
  at_calendar = refl

  at_dates : (ca : List CalendarRow) → calendar_told (stored_in fs folder) ≡ Ok ca
      → days_where (without file.CalendarDates) ≡ stop
  unfolding days_where
  at_dates ca k = ap (λ x. x >>= λ _. stop) k

  -- a stage stays where a later file can't be read
  network_stays : (name : File) → 4 ≤ file_place name
      → network_where (without name) ≡ network_where (stored_in fs folder)
  unfolding network_where
  network_stays name h = grind arith

  times_stay : (name : File) (n : NetworkTables) → 5 ≤ file_place name
      → times_told (without name) n ≡ times_told (stored_in fs folder) n
  times_stay name n h = grind arith

  days_stay : (name : File) → 7 ≤ file_place name
      → days_where (without name) ≡ days_where (stored_in fs folder)
  unfolding days_where
  days_stay name h = grind arith

  -- the rows where that file can't be read
  abbrev rows_without : File → Result Dataset LoadFault
  rows_without name = dataset_where (without name)

  behind_network : (name : File) (n : NetworkTables) → 4 ≤ file_place name
      → network_where (stored_in fs folder) ≡ Ok n
      → rows_without name ≡ after_network (without name) n
  behind_network name n late is =
      sym (by_stages (without name))
      ∙ ap (λ x. x >>= after_network (without name)) (network_stays name late ∙ is)

  behind_times : (name : File) (n : NetworkTables) (ti : List StopTimeRow) → 5 ≤ file_place name
      → network_where (stored_in fs folder) ≡ Ok n → times_told (stored_in fs folder) n ≡ Ok ti
      → rows_without name ≡ after_times (without name) n ti
  behind_times name n ti late is i =
      behind_network name n (omega (arith, late)) is
      ∙ ap (λ x. x >>= after_times (without name) n) (times_stay name n late ∙ i)

  behind_days : (name : File) (n : NetworkTables) (ti : List StopTimeRow) (d : DayRows)
      → 7 ≤ file_place name → network_where (stored_in fs folder) ≡ Ok n
      → times_told (stored_in fs folder) n ≡ Ok ti → days_where (stored_in fs folder) ≡ Ok d
      → rows_without name ≡ after_days (without name) n ti d
  behind_days name n ti d late is i k =
      behind_times name n ti (omega (arith, late)) is i
      ∙ ap (λ x. x >>= after_days (without name) n ti) (days_stay name late ∙ k)

-- ---- where they are told

-- the files of a folder, where they are told
abbrev Stored : Type 0
Stored = Option (List (List ℕ × List ℕ))

abbrev pub StopsAre : List ℕ → List StopRow → Stored → Type 0
StopsAre folder st contents = IfSome contents (λ fs. stops_told (stored_in fs folder) ≡ Ok st)

abbrev pub RoutesAre : List ℕ → List AgencyRow → List RouteRow → Stored → Type 0
RoutesAre folder ag ro contents = IfSome contents (λ fs. routes_told (stored_in fs folder) ag ≡ Ok ro)

abbrev pub TimesAre : List ℕ → NetworkTables → List StopTimeRow → Stored → Type 0
TimesAre folder n ti contents =
    IfSome contents (λ fs. times_told (stored_in fs folder) n ≡ Ok ti)

abbrev pub DaysAre : List ℕ → DayRows → Stored → Type 0
DaysAre folder d contents = IfSome contents (λ fs. days_where (stored_in fs folder) ≡ Ok d)

abbrev pub NetworkIs : List ℕ → NetworkTables → Stored → Type 0
NetworkIs folder n contents = IfSome contents (λ fs. network_where (stored_in fs folder) ≡ Ok n)

-- a file of which the path is told, with none of its part at fault before it
at_file : {A : Type 0} (part : Told → Result A LoadFault) (before : ℕ) (name : File)
    (folder : List ℕ) (fs : List (List ℕ × List ℕ)) (place : Option (List ℕ))
    → StopsFile place folder name → before ≤ file_place name
    → part (unreadable name fs folder) ≡ stop → StopsPart part before (Some fs) place folder
at_file part before name folder fs place p late first = grind arith

-- the whole stops where a part of it does
whole_stops : {A : Type 0} (part : Told → Result A LoadFault) (before : ℕ) (folder : List ℕ)
    (fs : List (List ℕ × List ℕ)) (place : Option (List ℕ))
    → ((name : File) → before ≤ file_place name → part (unreadable name fs folder) ≡ stop
    → rows_without folder fs name ≡ stop)
    → StopsPart part before (Some fs) place folder → StopsTables (Some fs) place folder
whole_stops part before folder fs place all s = grind arith

module _ (folder : List ℕ) (place : Option (List ℕ)) where
  pub stops_agency : (contents : Stored) → StopsFile place folder file.Agency
      → StopsPart network_where 0 contents place folder
  stops_agency contents p = grind (arith, at_agency, at_file)

  pub stops_stops : (contents : Stored) (ag : List AgencyRow)
      → IfSome contents (λ fs. agencies_told (stored_in fs folder) ≡ Ok ag) → StopsFile place folder file.Stops
      → StopsPart network_where 0 contents place folder
  stops_stops contents ag a p = grind (arith, at_file, at_stops)

  pub stops_routes : (contents : Stored) (ag : List AgencyRow) (st : List StopRow)
      → IfSome contents (λ fs. agencies_told (stored_in fs folder) ≡ Ok ag) → StopsAre folder st contents
      → StopsFile place folder file.Routes → StopsPart network_where 0 contents place folder
  stops_routes contents ag st a s p = grind (arith, at_file, at_routes)

  pub stops_trips : (contents : Stored) (ag : List AgencyRow) (st : List StopRow)
      (ro : List RouteRow) → IfSome contents (λ fs. agencies_told (stored_in fs folder) ≡ Ok ag)
      → StopsAre folder st contents → RoutesAre folder ag ro contents
      → StopsFile place folder file.Trips → StopsPart network_where 0 contents place folder
  stops_trips contents ag st ro a s r p = grind (arith, at_file, at_trips)

  pub stops_calendar : (contents : Stored) → StopsFile place folder file.Calendar
      → StopsPart days_where 5 contents place folder
  stops_calendar contents p = grind (arith, at_calendar, at_file)

  pub stops_dates : (contents : Stored) (ca : List CalendarRow)
      → IfSome contents (λ fs. calendar_told (stored_in fs folder) ≡ Ok ca)
      → StopsFile place folder file.CalendarDates → StopsPart days_where 5 contents place folder
  stops_dates contents ca k p = grind (arith, at_dates, at_file)

  -- the whole, stage by stage
  pub stops_network : (contents : Stored) → StopsPart network_where 0 contents place folder
      → StopsTables contents place folder
  stops_network None s = tt
  stops_network (Some fs) s =
      whole_stops network_where 0 folder fs place
      (λ name late first.
      sym (by_stages (unreadable name fs folder))
      ∙ ap (λ x. x >>= after_network (unreadable name fs folder)) first) s

  pub stops_times : (contents : Stored) (n : NetworkTables) → NetworkIs folder n contents
      → StopsFile place folder file.StopTimes → StopsTables contents place folder
  stops_times None n is p = tt
  stops_times (Some fs) n is p =
      whole_stops (λ told. times_told told n) 4 folder fs place
      (λ name late first.
      behind_network folder fs name n late is
      ∙ ap (λ x. x >>= after_times (unreadable name fs folder) n) first)
      (at_file (λ told. times_told told n) 4 file.StopTimes folder fs place p (omega arith) refl)

  pub stops_days : (contents behind : Stored) (n : NetworkTables) (ti : List StopTimeRow)
      → behind ≡ contents → NetworkIs folder n contents → TimesAre folder n ti contents
      → StopsPart days_where 5 behind place folder → StopsTables contents place folder
  stops_days contents behind n ti same is i s =
      by contents is i (subst (λ o. StopsPart days_where 5 o place folder) same s)
    where
      by : (o : Stored) → NetworkIs folder n o → TimesAre folder n ti o
          → StopsPart days_where 5 o place folder → StopsTables o place folder
      by None is i s = tt
      by (Some fs) is i s =
          whole_stops days_where 5 folder fs place
          (λ name late first.
          behind_times folder fs name n ti late is i ∙ ap (λ x. x >>= after_days (unreadable name fs folder) n ti) first) s

  pub stops_frequencies : (contents : Stored) (n : NetworkTables) (ti : List StopTimeRow)
      (d : DayRows) → NetworkIs folder n contents → TimesAre folder n ti contents
      → DaysAre folder d contents → StopsFile place folder file.Frequencies
      → StopsTables contents place folder
  stops_frequencies None n ti d is i k p = tt
  stops_frequencies (Some fs) n ti d is i k p =
      whole_stops (λ told. frequencies_told told n) 7 folder fs place
      (λ name late first.
      behind_days folder fs name n ti d late is i k
      ∙ ap (λ x. x >>= after_frequencies (unreadable name fs folder) n ti d) first)
      (at_file (λ told. frequencies_told told n) 7 file.Frequencies folder fs place p (omega arith) refl)

-- ---- the whole

-- behind the zone the rows are read first
zone_stops : (fs : List (List ℕ × List ℕ)) (folder : List ℕ) (conf : PlanConf) (rule : TzText) (name : File) → zone_of conf.zone ≡ Ok rule → rows_without folder fs name ≡ stop → timetable_where (unreadable name fs folder) conf ≡ Err fault.FileFault
unfolding timetable_where
zone_stops fs folder conf rule name z first = grind arith

pub stops_loading : (contents : Stored) (place : Option (List ℕ)) (folder : List ℕ) (conf : PlanConf) (rule : TzText) → zone_of conf.zone ≡ Ok rule → StopsTables contents place folder → StopsLoading contents place folder conf
stops_loading contents place folder conf rule z s = grind (arith, zone_stops)
