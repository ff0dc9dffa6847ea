-- What may be touched, as the definitions have it.
use Rattle.std.specs.Prelude.{◌<◌, length, IfSome}
use Rattle.sched_types.specs.Timetable.{Timetable}
use Rattle.board_defs.specs.Rows.Subject.{RunOf, AddedTrip}
use Rattle.alert_defs.specs.Touching.{Touched}
use Rattle.alert_defs.specs.Touching.Touched.{StopItself, RowAt}
use Rattle.alert_select.specs.declared.subject.Subject.{Subject}
use Rattle.alert_select.specs.declared.subject.Subject.TheVariants.{Stop, Row, AddedRow}

abbrev pub touched_by : Subject → Touched
touched_by (Stop stop) = StopItself stop
touched_by (Row run stop) = RowAt (RunOf run) stop
touched_by (AddedRow key stop) = RowAt (AddedTrip key.trip.now key.date.now key.route) stop

-- its numbers are those of rows of the timetable
abbrev pub IsWithin : Timetable → Subject → Type 0
IsWithin t (Stop stop) = stop < length t.stops
IsWithin t (Row run stop) = (run.trip < length t.trips) × (stop < length t.stops)
IsWithin t (AddedRow key stop) =
    IfSome key.route (λ route. route < length t.routes) × (stop < length t.stops)
