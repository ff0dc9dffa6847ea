-- Values that may be absent.
use Rattle.std.specs.Prelude.{Bool, true, false, Option, Some, None}

-- a value where a test holds
abbrev pub only_if : {A : Type 0} → Bool → A → Option A
only_if true x = Some x
only_if false x = None

-- a value, or else another
abbrev pub or_else : {A : Type 0} → Option A → Option A → Option A
or_else None other = other
or_else (Some x) other = Some x
