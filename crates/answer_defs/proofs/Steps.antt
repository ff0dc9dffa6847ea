-- Steps that may fail, and tests, taken apart.
use Rattle.std.proofs.Common.{◌≡◌, Bool, true, false, cond, Result, Ok, Err, refl, inl, inr, ◌⊎◌}
use Rattle.answer_defs.specs.Steps.{◌>>=◌}

-- a value that a step gave
abbrev given : {A E : Type 0} → A → Result A E
given x = Ok x

pub ok_is : {A E : Type 0} (x y : A) → given {E = E} x ≡ given y → x ≡ y
ok_is x y e = cc

-- the value of a step that did not fail
pub bind_ok : {A B E : Type 0} (r : Result A E) (f : A → Result B E) (y : B) → (r >>= f) ≡ Ok y → (x : A) × (r ≡ Ok x) × (f x ≡ Ok y)
bind_ok (Ok x) f y e = (x, refl, e)
bind_ok (Err d) f y e = absurd cc

-- a step that gives what it gets is none
pub bind_given : {A E : Type 0} (r : Result A E) → (r >>= λ x. Ok x) ≡ r
bind_given (Ok x) = refl
bind_given (Err d) = refl

pub bind_bind : {A B C E : Type 0} (r : Result A E) (f : A → Result B E) (g : B → Result C E) → ((r >>= f) >>= g) ≡ (r >>= λ x. f x >>= g)
bind_bind (Ok x) f g = refl
bind_bind (Err d) f g = refl

-- steps that go on alike after each value
pub bind_same : {A B E : Type 0} (r : Result A E) (f g : A → Result B E) → ((x : A) → f x ≡ g x) → (r >>= f) ≡ (r >>= g)
bind_same (Ok x) f g same = same x
bind_same (Err d) f g same = refl

-- steps that go on alike after the value that was given
pub bind_same_at : {A B E : Type 0} (r : Result A E) (f g : A → Result B E) → ((x : A) → r ≡ Ok x → f x ≡ g x) → (r >>= f) ≡ (r >>= g)
bind_same_at (Ok x) f g same = same x refl
bind_same_at (Err d) f g same = refl

-- which way a test went
pub chosen : {A : Type 0} (b : Bool) (x y z : A) → cond b x y ≡ z → ((b ≡ true) × (x ≡ z)) ⊎ ((b ≡ false) × (y ≡ z))
chosen true x y z e = inl (refl, e)
chosen false x y z e = inr (refl, e)

-- a test that did not fail
pub guard_ok : {A E : Type 0} (b : Bool) (d : E) (r : Result A E) (y : A) → cond b (Err d) r ≡ Ok y → (b ≡ false) × (r ≡ Ok y)
guard_ok true d r y e = absurd cc
guard_ok false d r y e = (refl, e)
