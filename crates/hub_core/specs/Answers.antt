-- What a refusal tells.
use Rattle.std.specs.Prelude.{Option, Some, None}
use Rattle.feed_defs.specs.History.{Refusal as Cause}
use Rattle.feed_defs.specs.History.Refusal.{TooLong as LongCause, Malformed as FaultCause, Version as VersionCause, BadStamp as StampCause, Stale as StaleCause}
use Rattle.hub_core.specs.declared.refusal.Refusal.{Refusal}
use Rattle.hub_core.specs.declared.refusal.Refusal.TheVariants.{TooLong, Malformed, Version, BadStamp, Stale, NoMemory}

-- the cause that a refusal tells, with its values; want of memory tells none
abbrev pub cause_of : Refusal → Option Cause
cause_of (TooLong len) = Some (LongCause len)
cause_of (Malformed entity what kind field) = Some (FaultCause (record {
  entity = entity;
  what = what;
  kind = kind;
  field = field;
}))
cause_of (Version version) = Some (VersionCause version)
cause_of (BadStamp got) = Some (StampCause got)
cause_of (Stale last got) = Some (StaleCause last got)
cause_of NoMemory = None
