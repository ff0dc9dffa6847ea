-- Why reading gave no message.
use Rattle.std.specs.Prelude.{Option, Some, None}
use Rattle.feed_defs.specs.Rows.{Fault}
use Rattle.field_read.specs.declared.fault.ReadFault.{ReadFault}
use Rattle.field_read.specs.declared.fault.ReadFault.TheVariants.{Malformed, NoMemory}

-- the fault of the bytes that is told; out of memory tells none
abbrev pub cause_of : ReadFault → Option Fault
cause_of (Malformed entity what kind field) = Some (record {
  entity = entity;
  what = what;
  kind = kind;
  field = field;
})
cause_of NoMemory = None
