use Rattle.std.proofs.Common.{◌∙◌, length, ap, take, arith}
use Rattle.std.proofs.lemmas.Option.{slice_get-get_or}
use Rattle.sched_types.proofs.MarkLemmas.{none_marked, one_marked, length_marked}
use Rattle.sched_types.proofs.running.marked_days.Goals as goal

pub index_mut-requires : goal.index_mut-requires
index_mut-requires c =
    omega (arith, c.requires c.loop-day.day-index _ (slice_get-get_or c.args.days.now c.loop-day.day-index 0 c.loop-day-test.true), ap length c.loop-day.invariant, length_marked c.args.count (take c.loop-day.day-index c.args.days.now))

pub loop-day-init : goal.loop-day-init
loop-day-init c = c.in_ok-marks.ensures.items_if_clones_equal (λ x e. e) ∙ none_marked c.args.count

pub loop-day-preserved : goal.loop-day-preserved
loop-day-preserved c =
    one_marked c.args.count c.loop-day.day-index 0 c.args.days.now c.loop-day.marks.items c.loop-day-test.true
    (c.requires c.loop-day.day-index _ (slice_get-get_or c.args.days.now c.loop-day.day-index 0 c.loop-day-test.true))
    c.loop-day.invariant
