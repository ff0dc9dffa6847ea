use Rattle.std.proofs.Common.{w64, SFits, arith}
use Rattle.std.proofs.lemmas.Int.{ints}
use Rattle.sched_types.specs.declared.rows.Place.{Place}
use Rattle.trip_match.proofs.NearLemmas.{near_is}
use Rattle.trip_match.proofs.near.near_at.Goals as goal

pub returns : goal.returns
returns c =
    let none : Place = record { stop = 0; sequence = 0; arrival = 0; departure = 0; pickup = 0 } in
    let fits : SFits w64 c.gap.result = omega (arith, ints, c.gap.type_inv) in
    near_is c.args.base c.args.instant c.requires.small c.requires.positive c.requires.early c.args.plan.now c.args.run c.stop_times-places.result.now none c.gap.result c.stop_times-places.ensures.value c.requires.many c.requires.base fits c.gap.ensures
