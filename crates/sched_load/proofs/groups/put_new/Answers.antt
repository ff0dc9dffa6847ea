use Rattle.sched_load.proofs.Grouping.{put_in}
use Rattle.sched_load.proofs.groups.put_new.Goals as goal

pub returns : goal.returns
returns g c =
    put_in c.args.maps.now.items c.args.number c.args.key c.args.value c.index_mut-map.result.now c.insert.new.self c.in_ok-insert.field-0 c.is_none.result c.requires c.index_mut-map.ensures.value c.in_ok-insert.ensures.old c.in_ok-insert.ensures.entries c.is_none.ensures
