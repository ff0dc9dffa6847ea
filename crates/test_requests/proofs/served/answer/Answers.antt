-- The timetables stay.
use Rattle.test_requests.proofs.served.answer.Goals as goal

pub returns-clause-plans : goal.returns-clause-plans
returns-clause-plans c = c.serve_since.ensures.serves.hub_goes_on.plans_stay
