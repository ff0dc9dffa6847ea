-- A polling port as its callers see it.
use Rattle.std.specs.Prelude.{ℕ, ◌+◌, Bool, min, if◌then◌else◌, List, [], ◌++◌, take, Option, Some, None, is_some, unwrap_or}
use Rattle.std.specs.List.{list_all, filter_map}
use Rattle.std.specs.Option.{option_and_then}
use Rattle.hub_outside.specs.Count.{last_count}
use Rattle.hub_outside.specs.Doors.{Links}
use Rattle.poll_port.specs.declared.port.PollPort.{PollPort}
use Rattle.poll_port.specs.Heads.{reply_in}
use Rattle.poll_port.specs.Polling.{PollingState}
use Rattle.poll_port.specs.Polls.{Ends, PortState}

abbrev pub door_of : {D H : Type 0} → PollPort D H → D
door_of port = port.door

abbrev pub ear_of : {D H : Type 0} → PollPort D H → H
ear_of port = port.ear

abbrev pub polling_of : {D H : Type 0} → PollPort D H → PollingState
polling_of port = port.polling

-- the first links, as many as may still be taken
abbrev pub up_to : {A : Type 0} → Option ℕ → List A → List A
up_to None links = links
up_to (Some n) links = take n links

-- a link whose source tells its bytes
abbrev pub tells : {I O : Type 0} → Ends I O → I × O → Bool
tells seen link = is_some (seen.left link.0)

-- the message of the good reply of a link
abbrev pub reply_of : {I O : Type 0} → Ends I O → I × O → Option (List ℕ)
reply_of seen link = reply_in (unwrap_or (seen.left link.0) [])

-- the messages of the good replies of links
abbrev pub replies_of : {I O : Type 0} → Ends I O → List (I × O) → List (List ℕ)
replies_of seen links = filter_map (reply_of seen) links

-- the messages ahead by the links of a door, where the sources of all of them tell their bytes, of
-- those that were given back too
abbrev pub ahead_at : {I O : Type 0} → Ends I O → Option ℕ → Links I O → Option (List (List ℕ))
ahead_at seen polls links =
    if list_all (tells seen) (links.done ++ links.ahead)
    then Some (replies_of seen (up_to polls links.ahead)) else None

-- the messages that a port has ahead; none are told once an end of a link failed
abbrev pub poll_ahead : {I O : Type 0} → Ends I O → PortState I O → Option (List (List ℕ))
poll_ahead seen port =
    if port.polling.lost then None
    else option_and_then (ahead_at seen port.polling.polls) port.links

-- the faults of a port: its door's and its own, up to the last value of a count
abbrev pub poll_faults : {I O : Type 0} → PortState I O → ℕ
poll_faults port = min (port.faults + port.polling.faults) last_count
