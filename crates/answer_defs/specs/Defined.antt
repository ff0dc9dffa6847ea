-- What a call answers that a definition is given for: just that, or that memory was wanting.
use Rattle.std.specs.Prelude.{◌≡◌, Option, Some, None, Result, Ok, Err, ⊤}

-- The defined answer is this failure. An error without a defined cause is want of memory, which may
-- come in place of any answer.
abbrev pub IsCause : {A F : Type 0} → Result A F → Option F → Type 0
IsCause defined None = ⊤
IsCause defined (Some f) = defined ≡ Err f

-- A call's answer is the defined one, where `view` is what the definition sees of a value, and
-- `cause_of` is the failure that an error tells, if it tells one.
abbrev pub AsDefined : {A B E F : Type 0} → (B → A) → (E → Option F) → Result A F → Result B E
    → Type 0
AsDefined view cause_of defined (Ok x) = defined ≡ Ok (view x)
AsDefined view cause_of defined (Err e) = IsCause defined (cause_of e)
