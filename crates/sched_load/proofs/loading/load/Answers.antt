use Rattle.std.proofs.Common.{refl}
use Rattle.sched_load_defs.specs.Loading.{with_times, zone_of}
use Rattle.sched_load.specs.Built.{plan_told}
use Rattle.sched_load.specs.Tables.{dataset_of}
use Rattle.sched_load.proofs.Chain.{loaded, passed, step_alone, step_done, step_fails, step_value, timetable_is, told_same}
use Rattle.sched_load.proofs.Stopping.{stops_alone, stops_built, stops_by, stops_loading, stops_passed}
use Rattle.sched_load.proofs.loading.load.Goals as goal

pub returns-in_err-zone-clause-loads : goal.returns-in_err-zone-clause-loads
returns-in_err-zone-clause-loads g c =
    let count = g.F.Files.faults c.args.files.now in
    let zone = rw c.as_str.ensures at c.in_err-zone.ensures in
    (passed _ _ count count _ _ c.from_residual.ensures.1
    (told_same _ _ _ _ _ _ (timetable_is c.args.folder.now c.args.conf.now)
    (step_fails _ _ _ _ _ _ (step_alone _ _ _ _ zone)))).loads

pub returns-in_err-tables-clause-loads : goal.returns-in_err-tables-clause-loads
returns-in_err-tables-clause-loads g c =
    let zone = rw c.as_str.ensures at c.in_ok-zone.ensures in
    (passed _ _ _ _ _ _ c.from_residual-in_err-tables.ensures.1
    (told_same _ _ _ _ _ _ (timetable_is c.args.folder.now c.args.conf.now)
    (step_done _ _ _ _ _ _ _ _ _ refl (step_value _ _ _ _ zone)
    (step_fails _ _ _ _ _ _ c.in_err-tables.ensures.reads)))).loads

pub returns-in_err-check_times-clause-loads : goal.returns-in_err-check_times-clause-loads
returns-in_err-check_times-clause-loads g c =
    let zone = rw c.as_str.ensures at c.in_ok-zone.ensures in
    let reads = c.in_ok-tables.ensures.reads in
    let times = c.in_err-check_times.ensures reads.0 reads.1 in
    (passed _ _ _ _ _ _ c.from_residual-in_err-check_times.ensures.1
    (told_same _ _ _ _ _ _ (timetable_is c.args.folder.now c.args.conf.now)
    (step_done _ _ _ _ _ _ _ _ _ refl (step_value _ _ _ _ zone)
    (step_done _ _ _ _ _ _ _ _ _ c.read_tables.ensures.same reads.2
    (step_fails _ _ _ _ _ _
    (step_alone _ (with_times (dataset_of c.in_ok-tables.tables reads.0)) _ _ times)))))).loads

pub returns-clause-loads : goal.returns-clause-loads
returns-clause-loads g c =
    let zone = rw c.as_str.ensures at c.in_ok-zone.ensures in
    let reads = c.in_ok-tables.ensures.reads in
    let times = c.in_ok-check_times.ensures reads.0 reads.1 in
    let is = c.build_plan.ensures reads.0 reads.1 in
    (loaded _ c.args.conf.now _ _ _ _ c.in_ok-zone.zone
    (dataset_of c.in_ok-tables.tables reads.0) _ c.read_tables.ensures.same zone reads.2 times
    is).loads

pub returns-clause-cause : goal.returns-clause-cause
returns-clause-cause g c =
    let zone = rw c.as_str.ensures at c.in_ok-zone.ensures in
    let reads = c.in_ok-tables.ensures.reads in
    let times = c.in_ok-check_times.ensures reads.0 reads.1 in
    let is = c.build_plan.ensures reads.0 reads.1 in
    (loaded _ c.args.conf.now _ _ _ _ c.in_ok-zone.zone
    (dataset_of c.in_ok-tables.tables reads.0) _ c.read_tables.ensures.same zone reads.2 times
    is).cause

pub returns-clause-plain : goal.returns-clause-plain
returns-clause-plain g c =
    let zone = rw c.as_str.ensures at c.in_ok-zone.ensures in
    let reads = c.in_ok-tables.ensures.reads in
    let times = c.in_ok-check_times.ensures reads.0 reads.1 in
    let is = c.build_plan.ensures reads.0 reads.1 in
    (loaded _ c.args.conf.now _ _ _ _ c.in_ok-zone.zone
    (dataset_of c.in_ok-tables.tables reads.0) _ c.read_tables.ensures.same zone reads.2 times
    is).plain

pub check_times-requires : goal.check_times-requires
check_times-requires g c = (c.in_ok-tables.ensures.reads.0, c.in_ok-tables.ensures.reads.1)

pub build_plan-requires-clause-read : goal.build_plan-requires-clause-read
build_plan-requires-clause-read g c =
    let reads = c.in_ok-tables.ensures.reads in
    (reads.0, reads.1, c.in_ok-check_times.ensures reads.0 reads.1)

pub returns-in_err-zone-clause-stops : goal.returns-in_err-zone-clause-stops
returns-in_err-zone-clause-stops g c =
    stops_passed _ _ _ c.from_residual.ensures.1 (stops_alone (zone_of c.args.conf.now.zone) _ _ (rw c.as_str.ensures at c.in_err-zone.ensures))

pub returns-in_err-tables-clause-stops : goal.returns-in_err-tables-clause-stops
returns-in_err-tables-clause-stops g c =
    stops_passed _ _ _ c.from_residual-in_err-tables.ensures.1
    (stops_by _ _ _ (stops_loading (g.F.Files.contents c.args.files.now) _ c.args.folder.now c.args.conf.now c.in_ok-zone.zone (rw c.as_str.ensures at c.in_ok-zone.ensures)) c.in_err-tables.ensures.stops)

pub returns-in_err-check_times-clause-stops : goal.returns-in_err-check_times-clause-stops
returns-in_err-check_times-clause-stops g c =
    let reads = c.in_ok-tables.ensures.reads in
    stops_passed _ _ _ c.from_residual-in_err-check_times.ensures.1 (stops_alone (with_times (dataset_of c.in_ok-tables.tables reads.0)) _ _ (c.in_err-check_times.ensures reads.0 reads.1))

pub returns-clause-stops : goal.returns-clause-stops
returns-clause-stops g c =
    let reads = c.in_ok-tables.ensures.reads in
    stops_built (plan_told c.in_ok-zone.zone c.args.conf.now.first c.args.conf.now.days (dataset_of c.in_ok-tables.tables reads.0)) c.build_plan.result _ (c.build_plan.ensures reads.0 reads.1)
