use Rattle.std.proofs.Common.{None, ◌<◌, get_or, arith, add-one, sym}
use Rattle.std.proofs.lemmas.Option.{slice_get-get_or}
use Rattle.sched_load.specs.declared.visits.Visit.{Visit}
use Rattle.sched_load.proofs.TwinLemmas.{key_found, key_put, seen_more, seen_twin}
use Rattle.sched_load.proofs.visits.first_twin.Goals as goal

pub returns-then-is_some-clause-value : goal.returns-then-is_some-clause-value
returns-then-is_some-clause-value c =
    let none : Visit = record { trip = 0; stop = 0; sequence = 0; stay = None; pickup = 0 } in
    let visits = c.args.visits.now in
    let visit = get_or visits c.loop-place.place none in
    let small : visit.sequence < 4294967296 = omega arith in
    let found = key_found c.loop-place.seen c.key_of.result c.in_ok-insert.field-0 c.is_some.result c.in_ok-insert.ensures.old (sym c.is_some.ensures) in
    seen_twin c.loop-place.seen.entries visits c.loop-place.place visit c.loop-place.invariant (slice_get-get_or visits c.loop-place.place none c.loop-place-test.true) small c.is_some.result (rw c.key_of.ensures at found) c.if-is_some.true

pub loop-place-preserved : goal.loop-place-preserved
loop-place-preserved c =
    let none : Visit = record { trip = 0; stop = 0; sequence = 0; stay = None; pickup = 0 } in
    let visits = c.args.visits.now in
    let visit = get_or visits c.loop-place.place none in
    let small : visit.sequence < 4294967296 = omega arith in
    let found = key_found c.loop-place.seen c.key_of.result c.in_ok-insert.field-0 c.is_some.result c.in_ok-insert.ensures.old (sym c.is_some.ensures) in
    let all = key_put c.loop-place.seen.entries c.insert.new.self.entries c.key_of.result c.in_ok-insert.ensures.entries in
    rw (add-one c.loop-place.place) (seen_more c.loop-place.seen.entries visits c.loop-place.place visit c.loop-place.invariant (slice_get-get_or visits c.loop-place.place none c.loop-place-test.true) small c.insert.new.self.entries c.is_some.result (rw c.key_of.ensures at found) c.if-is_some.false (rw c.key_of.ensures at all))
