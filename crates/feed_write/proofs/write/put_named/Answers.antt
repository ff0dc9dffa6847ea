-- The id stands in front of what the entity has behind it.
use Rattle.feed_defs.specs.Renamed.{renamed_entity}
use Rattle.feed_write.proofs.Entities.{under_feed}
use Rattle.feed_write.proofs.write.put_named.Goals as goal

pub returns-clause-written : goal.returns-clause-written
returns-clause-written c =
    under_feed c.put_content.result c.args.feed.now c.as_str.result.now (renamed_entity c.args.prefix.now c.args.entity.now) _ _ _ c.as_str.ensures c.in_ok-put_joined.ensures.written c.put_content.ensures.written
