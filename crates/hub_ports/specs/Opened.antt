-- What is opened for a hub.
use Rattle.std.specs.Prelude.{◌≡◌, []}
use Rattle.hub_config_defs.specs.declared.conf.FeedConf.{FeedConf}
use Rattle.hub_config_defs.specs.declared.conf.PortKind.TheVariants as kind
use Rattle.feed_port.specs.declared.stream.Stage.TheVariants.{Open}
use Rattle.feed_port.specs.Memory.{messages_ahead}
use Rattle.feed_port.specs.Spooling.{spool_folder, spool_number}
use Rattle.feed_port.specs.Streams.{stage_of}
use Rattle.hub_config_defs.specs.Values.{host_of, path_of}
use Rattle.poll_port.specs.Polling.{new_polling}
use Rattle.poll_port.specs.Ports.{polling_of}
use Rattle.poll_port.specs.Requests.{request_for}
use Rattle.poll_port.specs.declared.port.PollPort.{PollPort}
use Rattle.hub_ports.specs.declared.opening.SystemPort.{SystemPort}
use Rattle.hub_ports.specs.declared.opening.SystemPort.TheVariants.{Nothing, Spool, Stream, Poll}

-- The port of a feed that is polled, before its first poll: it asks the host of the feed's place
-- for the path behind it.
abbrev pub IsPollingPortOf : {D H : Type 0} → FeedConf → PollPort D H → Type 0
IsPollingPortOf feed port =
    polling_of port
    ≡ new_polling (request_for (host_of feed.place) (path_of feed.place)) feed.polls feed.tries

-- The port is of the feed's kind. One with no messages has none ahead, that of a folder stands
-- before its first file, and a stream was not read yet.
abbrev pub IsPortOf : {R E : Type 0} → FeedConf → SystemPort R E → Type 0
IsPortOf feed (Nothing port) = (feed.kind ≡ kind.Nothing) × (messages_ahead port ≡ [])
IsPortOf feed (Spool port) =
    (feed.kind ≡ kind.Spool) × (spool_folder port ≡ feed.place) × (spool_number port ≡ 1)
IsPortOf feed (Stream port) = (feed.kind ≡ kind.Stream) × (stage_of port ≡ Open)
IsPortOf feed (Poll port) = (feed.kind ≡ kind.Poll) × IsPollingPortOf feed port
