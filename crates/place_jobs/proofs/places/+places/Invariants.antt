-- Each call has fewer places left.
use Rattle.std.proofs.Common.{◌+◌, ◌*◌, length}
use Rattle.place_jobs.proofs.places.+places.Given as goal

abbrev pub decreases-first_and_rest : goal.decreases-first_and_rest
decreases-first_and_rest g l = 4 * length l.xs.now + 3

abbrev pub decreases-each_place : goal.decreases-each_place
decreases-each_place g l = 4 * length l.xs.now

abbrev pub decreases-first_and_rest-back : goal.decreases-first_and_rest-back
decreases-first_and_rest-back g l = 4 * length l.xs.now + 1
