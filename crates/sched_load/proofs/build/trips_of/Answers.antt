use Rattle.std.proofs.Common.{◌≤◌, subst}
use Rattle.sched_load_defs.specs.Numbers.{by_id}
use Rattle.sched_load.specs.Built.{trip_in}
use Rattle.sched_load.proofs.BuildLemmas.{made_all, made_more}
use Rattle.sched_load.proofs.build.trips_of.Goals as goal

pub loop-number-preserved : goal.loop-number-preserved
loop-number-preserved c =
    made_more (trip_in c.args.routes.now c.args.services.now) (by_id (λ row. row.trip_id) c.args.trips.now) c.loop-number.number c.row.result.now c.in_ok-trip_of.field-0 c.loop-number.list.items c.push.new.self.items c.row.ensures c.in_ok-trip_of.ensures c.in_ok-push.ensures.items c.loop-number.invariant

pub returns : goal.returns
returns c = made_all (trip_in c.args.routes.now c.args.services.now) (by_id (λ row. row.trip_id) c.args.trips.now) c.loop-number.number c.loop-number.list.items c.loop-number.invariant (subst (λ n. n ≤ c.loop-number.number) c.len-number-end.ensures c.loop-number-test.false)
