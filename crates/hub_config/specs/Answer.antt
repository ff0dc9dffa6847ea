-- What a reader's error tells of the definition: its fault, and nothing where memory ran out.
use Rattle.std.specs.Prelude.{◌≡◌, Option, Some, None, Result, Ok, Err, ⊤}
use Rattle.toml.specs.Errors.{IsMemory}
use Rattle.toml.specs.declared.de.Error.{Error}
use Rattle.hub_config_defs.specs.declared.fault.ConfFault.{ConfFault}
use Rattle.hub_config_defs.specs.declared.fault.ConfFault.TheVariants.{Toml, Bad, NoMemory}

-- the fault that an error tells
abbrev pub cause_of : ConfFault → Option ConfFault
cause_of Toml = Some Toml
cause_of (Bad table row key why) = Some (Bad table row key why)
cause_of NoMemory = None

-- the fault of a judge is the one that is defined, or memory ran out
abbrev pub IsFault : Option ConfFault → Option ConfFault → Type 0
IsFault defined None = ⊤
IsFault defined (Some fault) = defined ≡ Some fault

-- a judge passes what has no fault
abbrev pub PassesUnless : {A : Type 0} → Option ConfFault → Result A ConfFault → Type 0
PassesUnless defined (Ok value) = defined ≡ None
PassesUnless defined (Err fault) = IsFault defined (cause_of fault)

-- a text is no document, or memory ran out, exactly as the reader of TOML says
abbrev pub IsFaultOf : Error → ConfFault → Type 0
IsFaultOf error Toml = ¬ IsMemory error
IsFaultOf error (Bad table row key why) = ⊥
IsFaultOf error NoMemory = IsMemory error
