use Rattle.std.proofs.Common.{◌≤◌, ◌∙◌, subst}
use Rattle.sched_load_defs.specs.Numbers.{by_id}
use Rattle.sched_load.proofs.BuildLemmas.{made_all, made_more}
use Rattle.sched_load.proofs.build.agency_ids.Goals as goal

pub loop-number-preserved : goal.loop-number-preserved
loop-number-preserved c =
    made_more (λ row. row.agency_id) (by_id (λ row. row.agency_id) c.args.agencies.now) c.loop-number.number c.row-row.result.now c.in_ok-new.field-0 c.loop-number.ids.items c.push.new.self.items c.row-row.ensures (c.in_ok-new.ensures ∙ c.as_str.ensures) c.in_ok-push.ensures.items c.loop-number.invariant

pub returns : goal.returns
returns c = made_all (λ row. row.agency_id) (by_id (λ row. row.agency_id) c.args.agencies.now) c.loop-number.number c.loop-number.ids.items c.loop-number.invariant (subst (λ n. n ≤ c.loop-number.number) c.len-number-end.ensures c.loop-number-test.false)
