use Rattle.sched_load.proofs.ServiceLemmas.{gathered_more}
use Rattle.sched_load.proofs.services.add_services.Goals as goal

pub loop-row-preserved : goal.loop-row-preserved
loop-row-preserved g c = λ before start. gathered_more g.R.ServiceRow.service_of c.args.rows.now c.loop-row.row-index c.row-item.result c.service.result before c.loop-row.ids.entries c.insert.new.self.entries c.loop-row-test.true c.row-item.is c.service.ensures c.in_ok-insert.ensures.entries (c.loop-row.invariant before start)
