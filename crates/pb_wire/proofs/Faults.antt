-- A fault that a step names is the whole's.
use Rattle.std.proofs.Common.{◌≡◌, Result, Err, subst, arith}
use Rattle.std.specs.Result.{IsErrAnd}
use Rattle.answer_defs.specs.Defined.{IsCause}
use Rattle.pb_wire_defs.specs.Field.{Fault}
use Rattle.pb_wire.specs.declared.fault.WireFault.{WireFault}
use Rattle.pb_wire.specs.Parts.{cause_of, IsFault, Finds}

-- where each fault of the step is one of the whole
pub fails_on : {A B : Type 0} (step : Result A Fault) (whole : Result B Fault) (fault : WireFault) → ((told : Fault) → step ≡ Err told → whole ≡ Err told) → IsFault step fault → IsFault whole fault
fails_on step whole fault same h = grind arith

-- a fault that is named is the cause
pub causes : {A : Type 0} (whole : Result A Fault) (fault : WireFault) → IsFault whole fault → IsCause whole (cause_of fault)
causes whole fault h = grind arith

-- what is told alike is found alike
pub finds_same : {X Y : Type 0} (view : X → Y) (answer : Result X WireFault) (told other : Result Y Fault) → told ≡ other → Finds view answer told → Finds view answer other
finds_same view answer told other same h = subst (Finds view answer) same h

-- a `?` passes a fault on as it is
pub finds_passed : {X Y Z : Type 0} (view : X → Y) (answer : Result X WireFault) (fault : WireFault) (step : Result Z Fault) (whole : Result Y Fault) → IsErrAnd answer (λ x. x ≡ fault) → ((told : Fault) → step ≡ Err told → whole ≡ Err told) → IsFault step fault → Finds view answer whole
finds_passed view answer fault step whole passed same h = grind (arith, fails_on)
