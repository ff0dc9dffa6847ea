use Rattle.std.proofs.Common.{◌≡◌, length, pos, sym, ap, subst, ◌∙◌, ℕ, arith}
use Rattle.trip_match_defs.specs.Matching.{run_near}
use Rattle.trip_match.proofs.NearLemmas.{IsSeen, seen_more, no_day, some_day}
use Rattle.trip_match.proofs.near.by_near.Goals as goal

pub loop-day-preserved : goal.loop-day-preserved
loop-day-preserved c =
    seen_more c.args.plan.now c.args.trip (pos c.args.stamp) c.loop-day.day c.loop-day.seen.any_near c.look-seen.result.any_near c.loop-day.seen.best c.look-seen.result.best c.loop-day.invariant c.look-seen.ensures.any c.look-seen.ensures.best

pub returns-else-seen : goal.returns-else-seen
returns-else-seen c =
    let all : c.loop-day.day ≡ length c.args.plan.now.bases = omega (arith, c.days-day-end.ensures) in
    no_day c.args.plan.now c.args.trip (pos c.args.stamp) c.loop-day.seen.any_near c.loop-day.seen.best
    (subst (λ (n : ℕ). IsSeen c.args.plan.now c.args.trip (pos c.args.stamp) n c.loop-day.seen.any_near c.loop-day.seen.best) all c.loop-day.invariant) c.if-seen.false

pub returns-in-Some : goal.returns-in-Some
returns-in-Some c =
    let all : c.loop-day.day ≡ length c.args.plan.now.bases = omega (arith, c.days-day-end.ensures) in
    sym (ap (run_near c.args.trip) c.in-Some.is)
    ∙ some_day c.args.plan.now c.args.trip (pos c.args.stamp) c.loop-day.seen.any_near c.loop-day.seen.best
    (subst (λ (n : ℕ). IsSeen c.args.plan.now c.args.trip (pos c.args.stamp) n c.loop-day.seen.any_near c.loop-day.seen.best) all c.loop-day.invariant) c.if-seen.true

pub returns-in-None : goal.returns-in-None
returns-in-None c =
    let all : c.loop-day.day ≡ length c.args.plan.now.bases = omega (arith, c.days-day-end.ensures) in
    sym (ap (run_near c.args.trip) c.in-None.is)
    ∙ some_day c.args.plan.now c.args.trip (pos c.args.stamp) c.loop-day.seen.any_near c.loop-day.seen.best
    (subst (λ (n : ℕ). IsSeen c.args.plan.now c.args.trip (pos c.args.stamp) n c.loop-day.seen.any_near c.loop-day.seen.best) all c.loop-day.invariant) c.if-seen.true
