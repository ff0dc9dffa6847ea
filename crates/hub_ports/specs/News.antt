-- What is told of a feed while a server runs: each at most once.
use Rattle.std.specs.Prelude.{Bool, true, false, Option, Some, None, if◌then◌else◌}
use Rattle.hub_config_defs.specs.declared.conf.PortKind.{PortKind}
use Rattle.hub_config_defs.specs.declared.conf.PortKind.TheVariants as kind
use Rattle.feed_port.specs.declared.port.PortAnswer.{PortAnswer}
use Rattle.feed_port.specs.declared.port.PortAnswer.TheVariants.{Message, TooLong, End, Failed}
use Rattle.hub_ports.specs.declared.told.FeedNews.{FeedNews}
use Rattle.hub_ports.specs.declared.told.FeedNews.TheVariants as news
use Rattle.hub_ports.specs.declared.told.ToldPort.{ToldPort}
use Rattle.hub_ports.specs.declared.told.Untold.{Untold}

-- the port whose answers are told
abbrev pub port_in : {R P E : Type 0} → ToldPort R P E → P
port_in told = told.port

-- what is still to be told of a feed that was not asked yet: of one without messages nothing is
abbrev pub untold_of : PortKind → Untold
untold_of kind.Nothing = record { too_long = false; end = false }
untold_of _ = record { too_long = true; end = true }

abbrev pub told_if : Bool → FeedNews → Option FeedNews
told_if untold given = if untold then Some given else None

-- what an answer of a feed's port tells that was not told yet
abbrev pub news_of : Untold → PortAnswer → Option FeedNews
news_of untold Message = None
news_of untold (TooLong n) = told_if untold.too_long news.TooLong
news_of untold End = told_if untold.end news.Ended
news_of untold Failed = told_if untold.end news.Failed

-- what is still to be told after that answer
abbrev pub untold_after : Untold → PortAnswer → Untold
untold_after untold Message = untold
untold_after untold (TooLong n) = record untold { too_long = false }
untold_after untold End = record untold { end = false }
untold_after untold Failed = record untold { end = false }
