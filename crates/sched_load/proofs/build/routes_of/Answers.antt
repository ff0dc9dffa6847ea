use Rattle.std.proofs.Common.{◌≤◌, subst}
use Rattle.sched_load_defs.specs.Numbers.{by_id}
use Rattle.sched_load.specs.Built.{route_in}
use Rattle.sched_load.proofs.BuildLemmas.{made_all, made_more}
use Rattle.sched_load.proofs.build.routes_of.Goals as goal

pub loop-number-preserved : goal.loop-number-preserved
loop-number-preserved c =
    made_more (route_in c.args.agencies.now) (by_id (λ row. row.route_id) c.args.routes.now) c.loop-number.number c.row.result.now c.in_ok-route_of.field-0 c.loop-number.list.items c.push.new.self.items c.row.ensures c.in_ok-route_of.ensures c.in_ok-push.ensures.items c.loop-number.invariant

pub returns : goal.returns
returns c = made_all (route_in c.args.agencies.now) (by_id (λ row. row.route_id) c.args.routes.now) c.loop-number.number c.loop-number.list.items c.loop-number.invariant (subst (λ n. n ≤ c.loop-number.number) c.len-number-end.ensures c.loop-number-test.false)
