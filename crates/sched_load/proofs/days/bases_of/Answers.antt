use Rattle.std.proofs.Common.{◌++◌, ◌∷◌, [], w64, ◌∙◌, sym, ap, subst, arith}
use Rattle.std.specs.Prelude.{slice_get}
use Rattle.std.proofs.lemmas.Option.{none-some as none_some}
use Rattle.sched_types.specs.Timetable.{IsSmall}
use Rattle.std.proofs.lemmas.Int.{to_z-of_z}
use Rattle.sched_types.proofs.Lists.{fits_seconds}
use Rattle.sched_types.proofs.Days.{window_day}
use Rattle.sched_load.specs.Days.{EachSmall}
use Rattle.sched_load.proofs.DayLemmas.{bases_more, date_next, date_start, each_push, in_window}
use Rattle.sched_load.proofs.days.bases_of.Goals as goal

pub loop-init : goal.loop-init
loop-init c = record { date = date_start c.args.first; bases = c.new-bases.ensures.items; small = λ i s at. absurd (none_some s (ap (λ xs. slice_get xs i) (sym c.new-bases.ensures.items) ∙ at)) }

pub base_of-requires : goal.base_of-requires
base_of-requires c = record { valid = (window_day c.args.first c.loop.counter c.args.days c.loop.date c.requires.valid c.requires.in_time c.loop-test.true c.loop.invariant.date).0; in_time = let d = in_window c.args.first c.loop.counter c.loop.date c.requires.valid c.requires.late (omega arith) c.loop.invariant.date in omega (arith, d) }

pub day_after-date-requires-clause-valid : goal.day_after-date-requires-clause-valid
day_after-date-requires-clause-valid c = (window_day c.args.first c.loop.counter c.args.days c.loop.date c.requires.valid c.requires.in_time c.loop-test.true c.loop.invariant.date).0

pub day_after-date-requires-clause-not_last : goal.day_after-date-requires-clause-not_last
day_after-date-requires-clause-not_last c = (window_day c.args.first c.loop.counter c.args.days c.loop.date c.requires.valid c.requires.in_time c.loop-test.true c.loop.invariant.date).1

pub loop-preserved : goal.loop-preserved
loop-preserved c =
    let s = c.in_ok-base_of.field-0 in
    let pushed = c.in_ok-push.ensures.items ∙ ap (λ x. c.loop.bases.items ++ x ∷ []) (to_z-of_z w64 s (fits_seconds s c.in_ok-base_of.ensures.small)) in
    record {
      date = date_next c.args.first c.loop.counter c.loop.date c.day_after-date.result c.loop.invariant.date c.day_after-date.ensures.value;
      bases = bases_more c.args.zone.now c.args.first c.loop.counter c.loop.date c.in_ok-base_of.field-0 c.loop.bases.items c.push.new.self.items c.loop.invariant.bases c.loop.invariant.date c.in_ok-base_of.ensures.value pushed;
      small = subst EachSmall (sym pushed) (each_push IsSmall c.loop.bases.items c.in_ok-base_of.field-0 c.loop.invariant.small c.in_ok-base_of.ensures.small);
    }
