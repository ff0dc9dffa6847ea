-- An entity whose bytes are those that it had is taken back.
use Rattle.std.proofs.Common.{◌≡◌, ◌<◌, ◌^◌, length, rules}
use Rattle.delta_feed.specs.Sent.{named_entity}
use Rattle.delta_feed.proofs.SentLemmas.{taken_back, written_short}
use Rattle.delta_feed.proofs.sent.push_changed.Goals as goal

pub returns-clause-sent : goal.returns-clause-sent
returns-clause-sent c =
    let at : c.len-start.result ≡ length c.args.out.now.items = search rules in
    let small : length c.write_under_feed.new.out.items < 2 ^ 64 = search rules in
    let short : length c.write_under_feed-2.new.out.items < 2 ^ 64 = search rules in
    taken_back (named_entity c.args.prefix.now c.args.feed.now c.args.was.now) (named_entity c.args.prefix.now c.args.feed.now c.args.is.now)
    c.args.out.now.items c.write_under_feed.new.out.items c.clear.new.self.items c.write_under_feed-2.new.out.items c.as_slice.result.now c.take_back.new.out.items c.len-start.result
    at c.in_ok-write_under_feed.ensures.written c.clear.ensures.items c.in_ok-write_under_feed-2.ensures.written c.as_slice.ensures.value small short c.take_back.ensures

pub returns-clause-short : goal.returns-clause-short
returns-clause-short c =
    let small : length c.write_under_feed.new.out.items < 2 ^ 64 = search rules in
    let short : length c.write_under_feed-2.new.out.items < 2 ^ 64 = search rules in
    (written_short _ _ _ c.in_ok-write_under_feed-2.ensures.written short, written_short _ _ _ c.in_ok-write_under_feed.ensures.written small)
