use Rattle.std.proofs.Common.{true, arith, subst, sym}
use Rattle.gtfs_rows.specs.Tables.{stop_times}
use Rattle.sched_load_defs.specs.Files.{most_rows}
use Rattle.sched_load_defs.specs.References.{consistent_stop_times}
use Rattle.sched_load_defs.specs.declared.fault.File.TheVariants as file
use Rattle.sched_load.specs.Gathering.{BelowAll}
use Rattle.sched_load.proofs.Chain.{step_alone, step_done, step_fails, step_value, visits_passed}
use Rattle.sched_load.proofs.Laws.{file_few}
use Rattle.sched_load.proofs.VisitLemmas.{gathered_few, gathered_room}
use Rattle.sched_load.proofs.tables.arranged_visits.Goals as goal

pub returns-in_err-gathered-clause-reads : goal.returns-in_err-gathered-clause-reads
returns-in_err-gathered-clause-reads g c =
    visits_passed c.args.trips.now c.args.stops.now _ _ _ _ _ _ c.from_residual.ensures.1
    (step_fails _ _ _ _ _ _ c.in_err-gathered.ensures.reads)

pub arrange-requires-clause-below : goal.arrange-requires-clause-below
arrange-requires-clause-below g c = subst (λ n. BelowAll n c.in_ok-gathered.gathered.visits.items) (sym c.len.ensures) c.in_ok-gathered.ensures.below

pub arrange-requires-clause-few : goal.arrange-requires-clause-few
arrange-requires-clause-few g c =
    let r = c.in_ok-gathered.ensures.reads in
    let few = file_few true file.StopTimes stop_times r.2.0 r.0 r.2.1 in
    let short = gathered_few c.args.trips.now c.args.stops.now r.0 c.in_ok-gathered.gathered.visits.items c.in_ok-gathered.gathered.unknown r.3 in
    omega (arith, few, short)

pub arrange-requires-clause-room : goal.arrange-requires-clause-room
arrange-requires-clause-room g c =
    let r = c.in_ok-gathered.ensures.reads in
    gathered_room c.args.trips.now c.args.stops.now r.0 c.in_ok-gathered.gathered.visits.items c.in_ok-gathered.gathered.unknown most_rows r.3 (file_few true file.StopTimes stop_times r.2.0 r.0 r.2.1)

pub returns-in_err-visits-clause-reads : goal.returns-in_err-visits-clause-reads
returns-in_err-visits-clause-reads g c =
    let r = c.in_ok-gathered.ensures.reads in
    visits_passed c.args.trips.now c.args.stops.now _ _ _ _ _ _ c.from_residual-in_err-visits.ensures.1
    (step_done _ _ _ _ _ _ _ _ _ c.read_visits.ensures.same r.1
    (step_alone _ (consistent_stop_times c.args.trips.now c.args.stops.now r.0) _ _
    (c.in_err-visits.ensures c.args.trips.now c.args.stops.now r.0 r.3)))

pub returns-clause-reads : goal.returns-clause-reads
returns-clause-reads g c =
    let r = c.in_ok-gathered.ensures.reads in
    let made = c.in_ok-visits.ensures c.args.trips.now c.args.stops.now r.0 r.3 in (
      r.0,
      step_done _ _ _ _ _ _ _ _ _ c.read_visits.ensures.same r.1
          (step_value _ _ _ _ made.0),
      r.2,
      made.0,
      made.1,
    )
