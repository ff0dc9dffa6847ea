use Rattle.std.proofs.Common.{pos}
use Rattle.trip_match.proofs.NearLemmas.{IsSeen}
use Rattle.trip_match.proofs.near.by_near.Given as goal

abbrev pub invariant-loop-day : goal.invariant-loop-day
invariant-loop-day l = IsSeen l.plan l.trip (pos l.stamp) l.day l.seen.any_near l.seen.best
