use Rattle.std.proofs.Common.{refl, length, w64}
use Rattle.std.proofs.lemmas.Int.{to_z-of_z}
use Rattle.sched_types.proofs.Lists.{fits_seconds}
use Rattle.std.proofs.lemmas.Option.{slice_get_read}
use Rattle.sched_types.proofs.plan.Plan.base.Goals as goal

pub returns-clause-small : goal.returns-clause-small
returns-clause-small c =
    let within = rw (← c.self.view_is) at c.requires in
    let small = c.self.invariant.table.bases_small c.args.day c.index.result.now (slice_get_read c.self.inside.bases.items (length c.self.inside.bases.items) c.args.day c.index.result.now refl within c.index.ensures) in
    rw (to_z-of_z w64 c.index.result.now (fits_seconds c.index.result.now small)) small
