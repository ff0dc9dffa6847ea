use Rattle.std.proofs.Common.{◌≡◌, ℤ, pos, negsuc, ◌≤ℤ◌, arith, IfOk, IsOkAnd, Result, Ok, Err}
use Rattle.std.proofs.lemmas.Int.{ints}
use Rattle.service_day.specs.Zone.{base_of}
use Rattle.sched_types.specs.Timetable.{IsSmall}
use Rattle.sched_load.proofs.days.base_of.Goals as goal

small_of : {E : Type 0} (r : Result ℤ E) → IfOk r (λ s. negsuc 999_999_999_998 ≤ℤ s) → IfOk r (λ s. s ≤ℤ pos 1_000_000_000_000) → IfOk r IsSmall
small_of (Ok s) a b = record { above = omega (arith, ints, a); below = b }
small_of (Err e) a b = tt

value_of : {E : Type 0} (r : Result ℤ E) (P : ℤ → Type 0) → IsOkAnd r P → IfOk r P
value_of (Ok s) P h = h
value_of (Err e) P h = tt

pub returns-clause-value : goal.returns-clause-value
returns-clause-value c = value_of c.base.result (λ s. s ≡ base_of c.args.zone.now c.args.date) c.base.ensures.value

pub returns-clause-small : goal.returns-clause-small
returns-clause-small c = small_of c.base.result c.base.ensures.early c.base.ensures.late
