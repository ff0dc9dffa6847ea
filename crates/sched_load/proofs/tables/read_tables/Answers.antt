use Rattle.std.proofs.Common.{◌∙◌, refl, subst}
use Rattle.sched_load.proofs.Chain.{step_done, step_fails, step_value, tables_passed, told_same}
use Rattle.sched_load.proofs.Stopping.{DaysAre, TimesAre, stops_by, stops_days, stops_frequencies, stops_network, stops_passed, stops_times}
use Rattle.sched_load.proofs.WholeChain.{dataset_is}
use Rattle.sched_load.specs.Stages.{day_rows}
use Rattle.sched_load.proofs.tables.read_tables.Goals as goal

pub returns-in_err-network-clause-reads : goal.returns-in_err-network-clause-reads
returns-in_err-network-clause-reads g c =
    tables_passed _ _ _ _ _ _ c.from_residual.ensures.1
    (told_same _ _ _ _ _ _ (dataset_is c.args.folder.now)
    (step_fails _ _ _ _ _ _ c.in_err-network.ensures.reads))

pub returns-in_err-visits-clause-reads : goal.returns-in_err-visits-clause-reads
returns-in_err-visits-clause-reads g c =
    tables_passed _ _ _ _ _ _ c.from_residual-in_err-visits.ensures.1
    (told_same _ _ _ _ _ _ (dataset_is c.args.folder.now)
    (step_done _ _ _ _ _ _ _ _ _ c.read_network.ensures.same c.in_ok-network.ensures.reads
    (step_fails _ _ _ _ _ _ c.in_err-visits.ensures.reads)))

pub returns-in_err-days-clause-reads : goal.returns-in_err-days-clause-reads
returns-in_err-days-clause-reads g c =
    tables_passed _ _ _ _ _ _ c.from_residual-in_err-days.ensures.1
    (told_same _ _ _ _ _ _ (dataset_is c.args.folder.now)
    (step_done _ _ _ _ _ _ _ _ _ c.read_network.ensures.same c.in_ok-network.ensures.reads
    (step_done _ _ _ _ _ _ _ _ _ c.arranged_visits.ensures.same c.in_ok-visits.ensures.reads.1
    (step_fails _ _ _ _ _ _ c.in_err-days.ensures.reads))))

pub returns-in_err-frequencies-clause-reads : goal.returns-in_err-frequencies-clause-reads
returns-in_err-frequencies-clause-reads g c =
    tables_passed _ _ _ _ _ _ c.from_residual-in_err-frequencies.ensures.1
    (told_same _ _ _ _ _ _ (dataset_is c.args.folder.now)
    (step_done _ _ _ _ _ _ _ _ _ c.read_network.ensures.same c.in_ok-network.ensures.reads
    (step_done _ _ _ _ _ _ _ _ _ c.arranged_visits.ensures.same c.in_ok-visits.ensures.reads.1
    (step_done _ _ _ _ _ _ _ _ _ c.read_days.ensures.same c.in_ok-days.ensures.reads
    (step_fails _ _ _ _ _ _ c.in_err-frequencies.ensures.reads)))))

pub returns-clause-reads : goal.returns-clause-reads
returns-clause-reads g c =
    let network = c.in_ok-network.ensures.sound in
    let visits = c.in_ok-visits.ensures.reads in
    let days = c.in_ok-days.ensures.sound in (
      visits.0,
      record {
        sound = record {
          agencies_of = network.agencies_of;
          stops_of = network.stops_of;
          routes_of = network.routes_of;
          trips_of = network.trips_of;
          stop_times_of = visits.2;
          calendar_of = days.calendar_of;
          exceptions_of = days.dates_of;
          frequencies_of = c.in_ok-frequencies.ensures.seen;
          agencies = network.agencies;
          stops = network.stops;
          routes = network.routes;
          trips = network.trips;
          stop_times = visits.3;
          calendar = days.calendar;
          exceptions = days.exceptions;
          frequencies = c.in_ok-frequencies.ensures.consistent;
        };
        visits = visits.4;
        services = days.services;
        exceptions = days.groups;
      },
      told_same _ _ _ _ _ _ (dataset_is c.args.folder.now)
          (step_done _ _ _ _ _ _ _ _ _ c.read_network.ensures.same c.in_ok-network.ensures.reads
          (step_done _ _ _ _ _ _ _ _ _ c.arranged_visits.ensures.same visits.1
          (step_done _ _ _ _ _ _ _ _ _ c.read_days.ensures.same c.in_ok-days.ensures.reads
          (step_done _ _ _ _ _ _ _ _ _ c.read_frequencies.ensures.same
          c.in_ok-frequencies.ensures.reads
          (step_value _ _ _ _ refl))))),
    )

pub returns-in_err-network-clause-stops : goal.returns-in_err-network-clause-stops
returns-in_err-network-clause-stops g c =
    stops_passed _ _ _ c.from_residual.ensures.1
    (stops_by _ _ _ (stops_network c.args.folder.now _ _) c.in_err-network.ensures.stops)

pub returns-in_err-visits-clause-stops : goal.returns-in_err-visits-clause-stops
returns-in_err-visits-clause-stops g c =
    let n = c.in_ok-network.ensures.reads.loads in
    stops_passed _ _ _ c.from_residual-in_err-visits.ensures.1
    (stops_by _ _ _ (stops_times c.args.folder.now _ _ c.in_ok-network.network n)
    c.in_err-visits.ensures.stops)

pub returns-in_err-days-clause-stops : goal.returns-in_err-days-clause-stops
returns-in_err-days-clause-stops g c =
    let folder = c.args.folder.now in
    let network = c.in_ok-network.network in
    let rows = c.in_ok-visits.ensures.reads.0 in
    let same = c.read_network.ensures.same in
    let n = c.in_ok-network.ensures.reads.loads in
    let i = subst (TimesAre folder network rows) same c.in_ok-visits.ensures.reads.1.loads in
    let behind = c.arranged_visits.ensures.same ∙ same in
    stops_passed _ _ _ c.from_residual-in_err-days.ensures.1
    (stops_by _ _ _ (stops_days folder _ _ _ network rows behind n i) c.in_err-days.ensures.stops)

pub returns-in_err-frequencies-clause-stops : goal.returns-in_err-frequencies-clause-stops
returns-in_err-frequencies-clause-stops g c =
    let folder = c.args.folder.now in
    let network = c.in_ok-network.network in
    let rows = c.in_ok-visits.ensures.reads.0 in
    let days = day_rows c.in_ok-days.days in
    let same = c.read_network.ensures.same in
    let n = c.in_ok-network.ensures.reads.loads in
    let i = subst (TimesAre folder network rows) same c.in_ok-visits.ensures.reads.1.loads in
    let behind = c.arranged_visits.ensures.same ∙ same in
    let k = subst (DaysAre folder days) behind c.in_ok-days.ensures.reads.loads in
    stops_passed _ _ _ c.from_residual-in_err-frequencies.ensures.1
    (stops_by _ _ _ (stops_frequencies folder _ _ network rows days n i k)
    c.in_err-frequencies.ensures.stops)
