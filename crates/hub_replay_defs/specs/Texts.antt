-- The words and lines that tell why a message was refused.
use Rattle.std.specs.Prelude.{ℕ, List, ◌++◌, codes}
use Rattle.std.specs.Fmt.{decimal}
use Rattle.text_defs.specs.Cleaned.{cleaned_text}
use Rattle.rt_types.specs.declared.fault.Kind.{Kind}
use Rattle.rt_types.specs.declared.fault.Kind.TheVariants as kind
use Rattle.rt_types.specs.declared.fault.What.{What}
use Rattle.rt_types.specs.declared.fault.What.TheVariants as what
use Rattle.feed_defs.specs.Rows.{Fault}
use Rattle.feed_defs.specs.History.{Refusal}
use Rattle.feed_defs.specs.History.Refusal.{TooLong, Malformed, Version, BadStamp, Stale}

-- what is wrong in a message
abbrev pub what_word : What → List ℕ
what_word what.Cut = codes "cut"
what_word what.Varint = codes "varint"
what_word what.Tag = codes "tag"
what_word what.Group = codes "group"
what_word what.Missing = codes "missing"
what_word what.NotText = codes "text"

-- the name of a message in the reference
abbrev pub kind_name : Kind → List ℕ
kind_name kind.FeedMessage = codes "FeedMessage"
kind_name kind.FeedHeader = codes "FeedHeader"
kind_name kind.FeedEntity = codes "FeedEntity"
kind_name kind.TripUpdate = codes "TripUpdate"
kind_name kind.StopTimeUpdate = codes "StopTimeUpdate"
kind_name kind.StopTimeEvent = codes "StopTimeEvent"
kind_name kind.StopTimeProperties = codes "StopTimeProperties"
kind_name kind.VehiclePosition = codes "VehiclePosition"
kind_name kind.Position = codes "Position"
kind_name kind.VehicleDescriptor = codes "VehicleDescriptor"
kind_name kind.Alert = codes "Alert"
kind_name kind.TimeRange = codes "TimeRange"
kind_name kind.EntitySelector = codes "EntitySelector"
kind_name kind.TranslatedString = codes "TranslatedString"
kind_name kind.Translation = codes "Translation"
kind_name kind.TripDescriptor = codes "TripDescriptor"

-- where a message is at fault: the number of the entity, what it is, and the message and the field
-- that it is in
abbrev pub fault_words : Fault → List ℕ
fault_words fault =
    decimal fault.entity ++ codes " " ++ what_word fault.what ++ codes " " ++ kind_name fault.kind
    ++ codes " " ++ decimal fault.field

-- why a message was refused
abbrev pub refusal_words : Refusal → List ℕ
refusal_words (TooLong size) = codes "refused toolong " ++ decimal size
refusal_words (Malformed fault) = codes "refused malformed " ++ fault_words fault
refusal_words (Version version) = codes "refused version " ++ cleaned_text version
refusal_words (BadStamp got) = codes "refused stamp " ++ decimal got
refusal_words (Stale last got) = codes "refused stale " ++ decimal last ++ codes " " ++ decimal got
