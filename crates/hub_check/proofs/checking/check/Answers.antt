-- The configuration's fault, or the lines of its timetables.
use Rattle.hub_check.specs.Told.{Checks}
use Rattle.hub_main_defs.specs.Checks.{check_output}
use Rattle.hub_load.proofs.Stopping.{behind_conf, conf_stops, fault_by, stops_by, stops_passed}
use Rattle.hub_load.proofs.Telling.{both_told, each_told, passed}
use Rattle.hub_check.proofs.CountsLines.{check_refused, check_told}
use Rattle.hub_check.proofs.checking.check.Goals as goal

pub returns-in_err-conf-clause-told : goal.returns-in_err-conf-clause-told
returns-in_err-conf-clause-told g c =
    each_told _ _ _ c.in_err-conf.ensures.told (λ fs told. passed (λ r. Checks (check_output fs c.args.path.now) r) _ _ c.from_residual.ensures.1 (check_refused fs c.args.path.now _ told))

pub returns-clause-told : goal.returns-clause-told
returns-clause-told g c =
    both_told _ _ _ _ _ c.in_ok-conf.ensures.same c.in_ok-conf.ensures.told c.lines_of.ensures.told (λ fs is told. check_told fs c.args.path.now c.in_ok-conf.conf c.as_slice.result.now c.lines_of.result is c.as_slice.ensures told)

pub returns-in_err-conf-clause-stops : goal.returns-in_err-conf-clause-stops
returns-in_err-conf-clause-stops g c =
    stops_passed _ _ _ c.from_residual.ensures.1 (fault_by _ _ _ (conf_stops (g.F.Files.contents c.args.files.now) _ c.args.path.now) c.in_err-conf.ensures.stops)

pub returns-clause-stops : goal.returns-clause-stops
returns-clause-stops g c =
    stops_by c.lines_of.result _ _ (behind_conf (g.F.Files.contents c.args.files.now) _ _ c.args.path.now c.in_ok-conf.conf c.in_ok-conf.ensures.same c.in_ok-conf.ensures.told) (rw c.as_slice.ensures at c.lines_of.ensures.stops)
