-- The enums of GTFS Realtime 2.0: which numbers name a value, and which number names it.
use Rattle.std.specs.Prelude.{ℕ, Option, Some, None, ◌==◌, if◌then◌else◌}
use Rattle.rt_types.specs.declared.enums.Incrementality.{Incrementality}
use Rattle.rt_types.specs.declared.enums.Incrementality.TheVariants as incrementality_value
use Rattle.rt_types.specs.declared.enums.StopRelation.{StopRelation}
use Rattle.rt_types.specs.declared.enums.StopRelation.TheVariants as stop_relation_value
use Rattle.rt_types.specs.declared.enums.TripRelation.{TripRelation}
use Rattle.rt_types.specs.declared.enums.TripRelation.TheVariants as trip_relation_value
use Rattle.rt_types.specs.declared.enums.StopStatus.{StopStatus}
use Rattle.rt_types.specs.declared.enums.StopStatus.TheVariants as stop_status_value
use Rattle.rt_types.specs.declared.enums.Cause.{Cause}
use Rattle.rt_types.specs.declared.enums.Cause.TheVariants as cause_value
use Rattle.rt_types.specs.declared.enums.Effect.{Effect}
use Rattle.rt_types.specs.declared.enums.Effect.TheVariants as effect_value
use Rattle.feed_defs.specs.Rows.{FieldKind, choice}

-- FeedHeader, `incrementality`
abbrev pub incrementality_named : ℕ → Option Incrementality
incrementality_named n =
    if n == 0 then Some incrementality_value.FullDataset
    else if n == 1 then Some incrementality_value.Differential
    else None

abbrev pub incrementality_number : Incrementality → ℕ
incrementality_number incrementality_value.FullDataset = 0
incrementality_number incrementality_value.Differential = 1

abbrev pub incrementality : FieldKind Incrementality
incrementality = choice incrementality_named incrementality_number

-- StopTimeUpdate, `schedule_relationship`
abbrev pub stop_relation_named : ℕ → Option StopRelation
stop_relation_named n =
    if n == 0 then Some stop_relation_value.Scheduled
    else if n == 1 then Some stop_relation_value.Skipped
    else if n == 2 then Some stop_relation_value.NoData
    else if n == 3 then Some stop_relation_value.Unscheduled
    else None

abbrev pub stop_relation_number : StopRelation → ℕ
stop_relation_number stop_relation_value.Scheduled = 0
stop_relation_number stop_relation_value.Skipped = 1
stop_relation_number stop_relation_value.NoData = 2
stop_relation_number stop_relation_value.Unscheduled = 3

abbrev pub stop_relation : FieldKind StopRelation
stop_relation = choice stop_relation_named stop_relation_number

-- TripDescriptor, `schedule_relationship`
abbrev pub trip_relation_named : ℕ → Option TripRelation
trip_relation_named n =
    if n == 0 then Some trip_relation_value.Scheduled
    else if n == 1 then Some trip_relation_value.Added
    else if n == 2 then Some trip_relation_value.Unscheduled
    else if n == 3 then Some trip_relation_value.Canceled
    else if n == 5 then Some trip_relation_value.Replacement
    else if n == 6 then Some trip_relation_value.Duplicated
    else if n == 7 then Some trip_relation_value.Deleted
    else None

abbrev pub trip_relation_number : TripRelation → ℕ
trip_relation_number trip_relation_value.Scheduled = 0
trip_relation_number trip_relation_value.Added = 1
trip_relation_number trip_relation_value.Unscheduled = 2
trip_relation_number trip_relation_value.Canceled = 3
trip_relation_number trip_relation_value.Replacement = 5
trip_relation_number trip_relation_value.Duplicated = 6
trip_relation_number trip_relation_value.Deleted = 7

abbrev pub trip_relation : FieldKind TripRelation
trip_relation = choice trip_relation_named trip_relation_number

-- VehiclePosition, `current_status`
abbrev pub stop_status_named : ℕ → Option StopStatus
stop_status_named n =
    if n == 0 then Some stop_status_value.IncomingAt
    else if n == 1 then Some stop_status_value.StoppedAt
    else if n == 2 then Some stop_status_value.InTransitTo
    else None

abbrev pub stop_status_number : StopStatus → ℕ
stop_status_number stop_status_value.IncomingAt = 0
stop_status_number stop_status_value.StoppedAt = 1
stop_status_number stop_status_value.InTransitTo = 2

abbrev pub stop_status : FieldKind StopStatus
stop_status = choice stop_status_named stop_status_number

-- Alert, `cause`
abbrev pub cause_named : ℕ → Option Cause
cause_named n =
    if n == 1 then Some cause_value.UnknownCause
    else if n == 2 then Some cause_value.OtherCause
    else if n == 3 then Some cause_value.TechnicalProblem
    else if n == 4 then Some cause_value.Strike
    else if n == 5 then Some cause_value.Demonstration
    else if n == 6 then Some cause_value.Accident
    else if n == 7 then Some cause_value.Holiday
    else if n == 8 then Some cause_value.Weather
    else if n == 9 then Some cause_value.Maintenance
    else if n == 10 then Some cause_value.Construction
    else if n == 11 then Some cause_value.PoliceActivity
    else if n == 12 then Some cause_value.MedicalEmergency
    else None

abbrev pub cause_number : Cause → ℕ
cause_number cause_value.UnknownCause = 1
cause_number cause_value.OtherCause = 2
cause_number cause_value.TechnicalProblem = 3
cause_number cause_value.Strike = 4
cause_number cause_value.Demonstration = 5
cause_number cause_value.Accident = 6
cause_number cause_value.Holiday = 7
cause_number cause_value.Weather = 8
cause_number cause_value.Maintenance = 9
cause_number cause_value.Construction = 10
cause_number cause_value.PoliceActivity = 11
cause_number cause_value.MedicalEmergency = 12

abbrev pub cause : FieldKind Cause
cause = choice cause_named cause_number

-- Alert, `effect`
abbrev pub effect_named : ℕ → Option Effect
effect_named n =
    if n == 1 then Some effect_value.NoService
    else if n == 2 then Some effect_value.ReducedService
    else if n == 3 then Some effect_value.SignificantDelays
    else if n == 4 then Some effect_value.Detour
    else if n == 5 then Some effect_value.AdditionalService
    else if n == 6 then Some effect_value.ModifiedService
    else if n == 7 then Some effect_value.OtherEffect
    else if n == 8 then Some effect_value.UnknownEffect
    else if n == 9 then Some effect_value.StopMoved
    else if n == 10 then Some effect_value.NoEffect
    else if n == 11 then Some effect_value.AccessibilityIssue
    else None

abbrev pub effect_number : Effect → ℕ
effect_number effect_value.NoService = 1
effect_number effect_value.ReducedService = 2
effect_number effect_value.SignificantDelays = 3
effect_number effect_value.Detour = 4
effect_number effect_value.AdditionalService = 5
effect_number effect_value.ModifiedService = 6
effect_number effect_value.OtherEffect = 7
effect_number effect_value.UnknownEffect = 8
effect_number effect_value.StopMoved = 9
effect_number effect_value.NoEffect = 10
effect_number effect_value.AccessibilityIssue = 11

abbrev pub effect : FieldKind Effect
effect = choice effect_named effect_number
