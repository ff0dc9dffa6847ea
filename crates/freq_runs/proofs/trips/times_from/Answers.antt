use Rattle.std.proofs.Common.{◌≡◌, [], ◌∷◌, refl, rules}
use Rattle.freq_runs.proofs.Places.{moves}
use Rattle.freq_runs.proofs.trips.times_from.Goals as goal

pub loop-place-init : goal.loop-place-init
loop-place-init c =
    let start = c.args.start in
    let front : c.push.new.self.items ≡ record { arrival = start; departure = start } ∷ [] = search rules in
    record {
      can = moves c.args.times.now c.in-Some.first.now c.in-Some.rest.now c.in-Some.ensures.cases.0 c.requires.order;
      made = rw (front, c.in-Some.ensures.cases.0) refl;
    }
