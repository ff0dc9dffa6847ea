-- A port of the system as its callers see it.
use Rattle.std.specs.Prelude.{◌≡◌, ℕ, ◌+◌, List, [], ◌∷◌, Option, Some, None, ⊤}
use Rattle.hub_outside.specs.Adapters.{files_faults, reader_faults}
use Rattle.hub_config_defs.specs.declared.conf.FeedConf.{FeedConf}
use Rattle.feed_port.specs.Memory.{message_faults, messages_ahead}
use Rattle.feed_port.specs.Ports.{Ahead}
use Rattle.feed_port.specs.Spooling.{spool_files}
use Rattle.feed_port.specs.Streams.{own_faults, source_of, stage_of, stream_ahead}
use Rattle.poll_port.specs.Polls.{Ends, ends, port_state}
use Rattle.poll_port.specs.Ports.{door_of, polling_of, poll_ahead, poll_faults}
use Rattle.hub_ports.specs.Dials.{dial_faults}
use Rattle.hub_ports.specs.News.{port_in}
use Rattle.hub_ports.specs.Opened.{IsPortOf}
use Rattle.hub_ports.specs.Reading.{files_in}
use Rattle.hub_ports.specs.declared.opening.SystemPort.{SystemPort}
use Rattle.hub_ports.specs.declared.opening.SystemPort.TheVariants.{Nothing, Spool, Stream, Poll}
use Rattle.hub_ports.specs.declared.told.ToldPort.{ToldPort}

-- ends of links that tell nothing
abbrev pub untold_ends : Ends (Unit {0}) (Unit {0})
untold_ends = ends (λ _. None) (λ _. 0) (λ _. None) (λ _. 0)

-- The messages that a port has ahead, where it tells them: only one without messages does, since no
-- contract knows what the system has in files, and what comes over connections.
abbrev pub system_ahead : {R E : Type 0} → SystemPort R E → Ahead
system_ahead (Nothing port) = Some (messages_ahead port)
system_ahead (Spool port) = None
system_ahead (Stream port) = stream_ahead (stage_of port) None
system_ahead (Poll port) =
    poll_ahead untold_ends (port_state None (dial_faults (door_of port)) (polling_of port) None)

-- how many of its asks failed
abbrev pub system_faults : {R E : Type 0} → SystemPort R E → ℕ
system_faults (Nothing port) = message_faults port
system_faults (Spool port) = files_faults (files_in (spool_files port))
system_faults (Stream port) = reader_faults (source_of port) + own_faults (stage_of port)
system_faults (Poll port) = poll_faults
    (port_state {I = Unit {0}} {O = Unit {0}} None (dial_faults (door_of port)) (polling_of port)
    None)

-- each port is that of the feed at its place
abbrev pub ArePortsOf : {R E : Type 0} → List FeedConf → List (ToldPort R (SystemPort R E) E)
    → Type 0
ArePortsOf [] [] = ⊤
ArePortsOf (feed ∷ feeds) (port ∷ ports) = IsPortOf feed (port_in port) × ArePortsOf feeds ports
ArePortsOf _ _ = ⊥
