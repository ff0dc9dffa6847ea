use Rattle.std.proofs.Common.{subst}
use Rattle.sched_load.specs.Visits.{AreArranged}
use Rattle.sched_load.proofs.VisitLemmas.{all_known, twin_told, unknown_told}
use Rattle.sched_load.proofs.visits.arrange.Goals as goal

pub returns-in-Some : goal.returns-in-Some
returns-in-Some c =
    let visits = c.args.gathered.visits.items in
    λ ts ss rows g. rw c.row_number.ensures (twin_told ts ss rows visits c.args.gathered.unknown g c.in-Some.place (rw (c.as_slice-2.ensures.value, c.in-Some.is) at c.in_ok-place.ensures.value))

pub returns-in-Some-unknown : goal.returns-in-Some-unknown
returns-in-Some-unknown c =
    let visits = c.args.gathered.visits.items in
    λ ts ss rows g. rw (c.row_number-in-Some-unknown.ensures, c.as_slice-in-Some-unknown.ensures.value) (unknown_told ts ss rows visits c.args.gathered.unknown g c.in-Some-unknown.column c.in-Some-unknown.is (rw (c.as_slice-2.ensures.value, c.in_default.is) at c.in_ok-place.ensures.value))

pub returns : goal.returns
returns c =
    let visits = c.args.gathered.visits.items in
    λ ts ss rows g.
    let all = all_known ts ss rows visits c.args.gathered.unknown g c.in_default-unknown.is (rw (c.as_slice-2.ensures.value, c.in_default.is) at c.in_ok-place.ensures.value) in
    (all.0, subst (λ vs. AreArranged vs c.sort.new.visits.items) all.1 c.in_ok-sort.ensures)
