use Rattle.trip_match.proofs.NearLemmas.{gap_behind}
use Rattle.trip_match.proofs.near.gap.Goals as goal

pub returns-then-last-instant : goal.returns-then-last-instant
returns-then-last-instant c =
    gap_behind c.args.base c.args.instant c.requires.small c.requires.positive c.requires.early c.from.result c.from-2.result c.args.first c.args.last c.ranges.first.fits c.ranges.last.fits c.from.ensures c.from-2.ensures
    c.if-instant-first.false c.if-last-instant.true
