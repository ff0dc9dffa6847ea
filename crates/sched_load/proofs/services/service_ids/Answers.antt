use Rattle.std.proofs.Common.{◌++◌, [], ap, map}
use Rattle.row_tables.specs.Order.{texts_seen}
use Rattle.sched_load.proofs.ServiceLemmas.{gathered_ok}
use Rattle.sched_load.proofs.services.service_ids.Goals as goal

pub returns : goal.returns
returns c =
    let a = map (λ row. row.service_id) c.args.trips.now in
    let b = map (λ row. row.service_id) c.args.calendar.now in
    let d = map (λ row. row.service_id) c.args.exceptions.now in
    let one = c.in_ok-add_services.ensures [] (ap texts_seen c.new-ids.ensures.empty) in
    let two = c.in_ok-add_services-2.ensures a one in
    let three = c.in_ok-add_services-3.ensures (a ++ b) two in
    gathered_ok c.names_of.result (a ++ b ++ d) _ c.names_of.ensures three
