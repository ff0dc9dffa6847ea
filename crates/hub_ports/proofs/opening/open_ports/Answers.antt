-- One more feed, and its port.
use Rattle.std.proofs.Common.{◌≡◌, ◌+◌, [], ◌∷◌, ◌++◌, take, sym, ap, ◌∙◌, subst, arith, take_all}
use Rattle.std.proofs.lemmas.List.{take_more}
use Rattle.hub_ports.specs.Opened.{IsPortOf}
use Rattle.hub_ports.specs.News.{port_in}
use Rattle.hub_ports.specs.SystemPorts.{ArePortsOf}
use Rattle.hub_ports.proofs.Placed.{ports_more, tried}
use Rattle.hub_ports.proofs.opening.open_ports.Goals as goal

pub open_port-requires-after_bounds : goal.open_port-requires-after_bounds
open_port-requires-after_bounds g c κs within =
    tried c.args.feeds.now c.loop-feed.feed-index c.feed-item.result c.feed-item.result c.requires.numbers c.loop-feed-test.true c.feed-item.is

pub loop-feed-preserved : goal.loop-feed-preserved
loop-feed-preserved g c =
    let feed = c.feed-item.result in let told = c.in_ok-new.field-0 in
    let front = take c.loop-feed.feed-index c.args.feeds.now in
    let is : IsPortOf feed (port_in told) = subst (λ port. IsPortOf feed port) (sym c.in_ok-new.ensures) c.in_ok-port.ensures in
    record {
      count = c.in_ok-push.ensures.len ∙ ap (λ n. n + 1) c.loop-feed.invariant.count;
      each = subst (λ feeds. ArePortsOf feeds c.push.new.self.items)
          (ap (λ one. front ++ one ∷ []) c.feed-item.is ∙ sym (take_more c.args.feeds.now c.loop-feed.feed-index feed c.loop-feed-test.true))
          (subst (λ ports. ArePortsOf (front ++ feed ∷ []) ports) (sym c.in_ok-push.ensures.items)
          (ports_more feed told is front c.loop-feed.ports.items c.loop-feed.invariant.each));
    }

pub returns-clause-count : goal.returns-clause-count
returns-clause-count g c = omega (arith, c.loop-feed.invariant.count, c.loop-feed-test.false, c.loop-feed.auto.feed-index-end)

pub returns-clause-each : goal.returns-clause-each
returns-clause-each g c =
    subst (λ feeds. ArePortsOf feeds c.loop-feed.ports.items) (take_all c.loop-feed.feed-index c.args.feeds.now (omega (arith, c.loop-feed-test.false)))
    c.loop-feed.invariant.each
