use Rattle.std.proofs.Common.{◌∙◌, refl, subst}
use Rattle.sched_load.proofs.Chain.{passed, step_done, step_fails, step_value, told_same}
use Rattle.sched_load.proofs.Stopping.{RoutesAre, StopsAre, stops_agency, stops_by, stops_passed, stops_routes, stops_stops, stops_trips}
use Rattle.sched_load.proofs.WholeChain.{network_is}
use Rattle.sched_load.proofs.tables.read_network.Goals as goal

pub returns-in_err-agencies-clause-reads : goal.returns-in_err-agencies-clause-reads
returns-in_err-agencies-clause-reads g c =
    passed _ _ _ _ _ _ c.from_residual.ensures.1
    (told_same _ _ _ _ _ _ (network_is c.args.folder.now)
    (step_fails _ _ _ _ _ _ c.in_err-agencies.ensures.reads))

pub returns-in_err-stops-clause-reads : goal.returns-in_err-stops-clause-reads
returns-in_err-stops-clause-reads g c =
    passed _ _ _ _ _ _ c.from_residual-in_err-stops.ensures.1
    (told_same _ _ _ _ _ _ (network_is c.args.folder.now)
    (step_done _ _ _ _ _ _ _ _ _ c.read_table.ensures.same c.in_ok-agencies.ensures.reads
    (step_fails _ _ _ _ _ _ c.in_err-stops.ensures.reads)))

pub returns-in_err-routes-clause-reads : goal.returns-in_err-routes-clause-reads
returns-in_err-routes-clause-reads g c =
    passed _ _ _ _ _ _ c.from_residual-in_err-routes.ensures.1
    (told_same _ _ _ _ _ _ (network_is c.args.folder.now)
    (step_done _ _ _ _ _ _ _ _ _ c.read_table.ensures.same c.in_ok-agencies.ensures.reads
    (step_done _ _ _ _ _ _ _ _ _ c.read_stops.ensures.same c.in_ok-stops.ensures.reads
    (step_fails _ _ _ _ _ _ c.in_err-routes.ensures.reads))))

pub returns-in_err-trips-clause-reads : goal.returns-in_err-trips-clause-reads
returns-in_err-trips-clause-reads g c =
    passed _ _ _ _ _ _ c.from_residual-in_err-trips.ensures.1
    (told_same _ _ _ _ _ _ (network_is c.args.folder.now)
    (step_done _ _ _ _ _ _ _ _ _ c.read_table.ensures.same c.in_ok-agencies.ensures.reads
    (step_done _ _ _ _ _ _ _ _ _ c.read_stops.ensures.same c.in_ok-stops.ensures.reads
    (step_done _ _ _ _ _ _ _ _ _ c.read_table-2.ensures.same c.in_ok-routes.ensures.reads
    (step_fails _ _ _ _ _ _ c.in_err-trips.ensures.reads)))))

pub returns-clause-reads : goal.returns-clause-reads
returns-clause-reads g c =
    told_same _ _ _ _ _ _ (network_is c.args.folder.now)
    (step_done _ _ _ _ _ _ _ _ _ c.read_table.ensures.same c.in_ok-agencies.ensures.reads
    (step_done _ _ _ _ _ _ _ _ _ c.read_stops.ensures.same c.in_ok-stops.ensures.reads
    (step_done _ _ _ _ _ _ _ _ _ c.read_table-2.ensures.same c.in_ok-routes.ensures.reads
    (step_done _ _ _ _ _ _ _ _ _ c.read_table-3.ensures.same c.in_ok-trips.ensures.reads
    (step_value _ _ _ _ refl)))))

pub returns-clause-sound : goal.returns-clause-sound
returns-clause-sound g c =
    record {
      agencies_of = c.in_ok-agencies.ensures.seen;
      stops_of = c.in_ok-stops.ensures.seen;
      routes_of = c.in_ok-routes.ensures.seen;
      trips_of = c.in_ok-trips.ensures.seen;
      agencies = c.in_ok-agencies.ensures.consistent;
      stops = c.in_ok-stops.ensures.consistent;
      routes = c.in_ok-routes.ensures.consistent;
      trips = c.in_ok-trips.ensures.consistent;
    }

pub returns-in_err-agencies-clause-stops : goal.returns-in_err-agencies-clause-stops
returns-in_err-agencies-clause-stops g c =
    stops_passed _ _ _ c.from_residual.ensures.1
    (stops_by _ _ _ (stops_agency c.args.folder.now _ _) c.in_err-agencies.ensures.stops)

pub returns-in_err-stops-clause-stops : goal.returns-in_err-stops-clause-stops
returns-in_err-stops-clause-stops g c =
    let a = c.in_ok-agencies.ensures.reads.loads in
    stops_passed _ _ _ c.from_residual-in_err-stops.ensures.1
    (stops_by _ _ _ (stops_stops c.args.folder.now _ _ c.in_ok-agencies.agencies a)
    c.in_err-stops.ensures.stops)

pub returns-in_err-routes-clause-stops : goal.returns-in_err-routes-clause-stops
returns-in_err-routes-clause-stops g c =
    let folder = c.args.folder.now in
    let ag = c.in_ok-agencies.agencies in
    let st = c.in_ok-stops.stops in
    let a = c.in_ok-agencies.ensures.reads.loads in
    let s = subst (StopsAre folder st) c.read_table.ensures.same c.in_ok-stops.ensures.reads.loads in
    stops_passed _ _ _ c.from_residual-in_err-routes.ensures.1
    (stops_by _ _ _ (stops_routes folder _ _ ag st a s) c.in_err-routes.ensures.stops)

pub returns-in_err-trips-clause-stops : goal.returns-in_err-trips-clause-stops
returns-in_err-trips-clause-stops g c =
    let folder = c.args.folder.now in
    let ag = c.in_ok-agencies.agencies in
    let st = c.in_ok-stops.stops in
    let ro = c.in_ok-routes.routes in
    let same = c.read_table.ensures.same in
    let a = c.in_ok-agencies.ensures.reads.loads in
    let s = subst (StopsAre folder st) same c.in_ok-stops.ensures.reads.loads in
    let r =
    subst (RoutesAre folder ag ro) (c.read_stops.ensures.same ∙ same)
    c.in_ok-routes.ensures.reads.loads in
    stops_passed _ _ _ c.from_residual-in_err-trips.ensures.1
    (stops_by _ _ _ (stops_trips folder _ _ ag st ro a s r) c.in_err-trips.ensures.stops)
