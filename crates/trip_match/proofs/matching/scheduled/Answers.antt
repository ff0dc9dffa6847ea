use Rattle.trip_match.proofs.matching.scheduled.Goals as goal

pub returns-in-Some : goal.returns-in-Some
returns-in-Some c = rw (← c.in-Some.ensures) (c.by_id.ensures _)
