-- Steps that may give nothing.
use Rattle.std.proofs.Common.{◌≡◌, Option, Some, None, Bool, true, arith}
use Rattle.hub_replay_defs.specs.Optional.{◌>>=◌}
use Rattle.answer_defs.specs.Choices.{only_if}

-- a step that gave something, of what the step before it gave
pub bind_some : {A B : Type 0} (r : Option A) (f : A → Option B) (y : B) → (r >>= f) ≡ Some y → (x : A) × (r ≡ Some x) × (f x ≡ Some y)
bind_some r f y h = grind arith

-- a step behind one that gave something
pub bind_at : {A B : Type 0} (r : Option A) (f : A → Option B) (x : A) → r ≡ Some x → (r >>= f) ≡ f x
bind_at r f x h = grind arith

pub bind_none : {A B : Type 0} (r : Option A) (f : A → Option B) → r ≡ None → (r >>= f) ≡ None
bind_none r f h = grind arith

-- a value that a test let through
pub passed : {A : Type 0} (test : Bool) (x y : A) → only_if test x ≡ Some y → (test ≡ true) × (x ≡ y)
passed test x y h = grind arith
