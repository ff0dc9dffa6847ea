-- One day more, until no later day can have an earlier departure.
use Rattle.std.proofs.Common.{◌≡◌, ◌≤◌, ℕ, ◌≤ℤ◌, length, int_le, w64, SFits, refl, sym, subst, ◌∙◌, arith}
use Rattle.std.proofs.lemmas.Bool.{and_parts}
use Rattle.std.proofs.lemmas.Int.{to_z-of_z}
use Rattle.sched_types.specs.Timetable.{base_of}
use Rattle.order.proofs.Counts.{none_fewer}
use Rattle.stop_index.specs.Left.{is_ahead, is_left, slots_before, others_before}
use Rattle.stop_index.specs.First.{IsFirst}
use Rattle.stop_index.proofs.Instants.{wrapped, is_le_z}
use Rattle.stop_index.proofs.Ahead.{left_ahead}
use Rattle.stop_index.proofs.Firsts.{best_before}
use Rattle.stop_index.proofs.DayLemmas.{first_more, first_of_all}
use Rattle.stop_index.proofs.Going.{none_of_others}
use Rattle.stop_index.proofs.search.first_of_others.Goals as goal

pub loop-day-init : goal.loop-day-init
loop-day-init c =
    none_of_others c.args.plan.now c.args.departures.now c.args.apart (is_left c.args.reached.now (wrapped c.args.end)) c.args.first_day
    (none_fewer (is_ahead c.args.reached.now) (is_left c.args.reached.now (wrapped c.args.end))
    (λ slot e. left_ahead c.args.reached.now (wrapped c.args.end) slot e) (slots_before c.args.plan.now c.args.departures.now c.args.first_day) c.requires.over.none)

pub until-until-requires : goal.until-until-requires
until-until-requires c = best_before c.args.reached.now (wrapped c.args.end) (others_before c.args.plan.now c.args.departures.now c.args.apart c.loop-day.day) c.loop-day.best c.loop-day.invariant

pub loop-day-preserved : goal.loop-day-preserved
loop-day-preserved c =
    let fits : SFits w64 c.until-until.result = record { sfits = c.until-until.type_inv } in
    first_more c.args.plan.now c.args.reached.now (wrapped c.args.end) c.args.departures.now c.args.apart c.loop-day.day c.loop-day.best (wrapped c.until-until.result) (to_z-of_z w64 c.until-until.result fits ∙ c.until-until.ensures)
    c.first_on_other.result c.earlier-best.result c.requires.are.sorted c.loop-day.invariant c.first_on_other.ensures c.earlier-best.ensures

pub returns-then-begin_after : goal.returns-then-begin_after
returns-then-begin_after c =
    let fits : SFits w64 c.until-until.result = record { sfits = c.until-until.type_inv } in
    let parts = and_parts c.args.days_rise (int_le (wrapped c.until-until.result) (base_of c.args.plan.now c.loop-day.day)) (sym c.begin_after.ensures ∙ c.if-begin_after.true) in
    let late : wrapped c.until-until.result ≤ℤ base_of c.args.plan.now c.loop-day.day = is_le_z (wrapped c.until-until.result) (base_of c.args.plan.now c.loop-day.day) parts.1 in
    let within : c.loop-day.day ≤ length c.args.plan.now.bases = omega (arith, c.days-day-end.ensures) in
    subst (λ z. IsFirst (is_left c.args.reached.now z) (others_before c.args.plan.now c.args.departures.now c.args.apart (length c.args.plan.now.bases)) c.loop-day.best) (to_z-of_z w64 c.args.end c.ranges.end)
    (first_of_all c.args.plan.now c.args.reached.now (wrapped c.args.end) c.args.departures.now c.args.apart c.loop-day.day c.loop-day.best (wrapped c.until-until.result) (to_z-of_z w64 c.until-until.result fits ∙ c.until-until.ensures)
    (length c.args.plan.now.bases) refl within (sym c.requires.rise_is ∙ parts.0) late c.loop-day.invariant)

pub returns-after-loop-day : goal.returns-after-loop-day
returns-after-loop-day c =
    let all : c.loop-day.day ≡ length c.args.plan.now.bases = omega (arith, c.days-day-end.ensures, c.requires.over.within) in
    subst (λ z. IsFirst (is_left c.args.reached.now z) (others_before c.args.plan.now c.args.departures.now c.args.apart (length c.args.plan.now.bases)) c.loop-day.best) (to_z-of_z w64 c.args.end c.ranges.end)
    (subst (λ (n : ℕ). IsFirst (is_left c.args.reached.now (wrapped c.args.end)) (others_before c.args.plan.now c.args.departures.now c.args.apart n) c.loop-day.best) all c.loop-day.invariant)
