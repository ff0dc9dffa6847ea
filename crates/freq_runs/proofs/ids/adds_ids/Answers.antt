use Rattle.std.proofs.Common.{◌∙◌, ap, sym, subst, not, ◌+◌, ◌++◌, ◌∷◌, [], take, drop}
use Rattle.std.proofs.lemmas.List.{drop_all, take_all}
use Rattle.freq_runs.specs.Faults.{has_id, comes_again, ids_of}
use Rattle.freq_runs.specs.Known.{AreIn}
use Rattle.freq_runs.proofs.Known.{from_true, not_true, not_false, ids_more, ids_left, again_here, again_later}
use Rattle.freq_runs.proofs.ids.adds_ids.Goals as goal

pub loop-trip-preserved : goal.loop-trip-preserved
loop-trip-preserved c = λ others before keys there.
    let trips = c.args.trips.now in
    let place = c.loop-trip.trip-index in
    let trip = c.trip-item.result in
    let done = before ++ ids_of (take place trips) in
    let so = c.loop-trip.invariant others before keys there in
    let told = c.in_ok-is_new.ensures others done keys so.0 in
    let more = ids_more trips place trip c.loop-trip-test.true c.trip-item.is before in
    let unknown = ap (has_id (others ++ done)) (sym c.as_str.ensures) ∙ not_true _ (sym c.if-not-is_new.false ∙ told.0) in (
      subst (AreIn c.adds_id.new.ids) (ap (λ id. done ++ id ∷ []) c.as_str.ensures ∙ sym more) (from_true c.in_ok-is_new.is_new c.if-not-is_new.false told.1),
      ap (λ ids. comes_again (others ++ ids) (ids_of (drop (place + 1) trips))) more
          ∙ sym (again_later others done trip.id (ids_of (drop (place + 1) trips)) unknown)
          ∙ ap (comes_again (others ++ done)) (sym (ids_left trips place trip c.loop-trip-test.true c.trip-item.is))
          ∙ so.1,
    )

pub returns-then-not-is_new : goal.returns-then-not-is_new
returns-then-not-is_new c = λ others before keys there.
    let trips = c.args.trips.now in
    let place = c.loop-trip.trip-index in
    let trip = c.trip-item.result in
    let done = before ++ ids_of (take place trips) in
    let so = c.loop-trip.invariant others before keys there in
    let told = c.in_ok-is_new.ensures others done keys so.0 in
    let known = ap (has_id (others ++ done)) (sym c.as_str.ensures) ∙ not_false _ (sym c.if-not-is_new.true ∙ told.0) in
    let again =
    sym so.1
    ∙ ap (comes_again (others ++ done)) (ids_left trips place trip c.loop-trip-test.true c.trip-item.is)
    ∙ again_here others done trip.id (ids_of (drop (place + 1) trips)) known in
    (ap not (sym again), tt)

pub returns : goal.returns
returns c = λ others before keys there.
    let trips = c.args.trips.now in
    let place = c.loop-trip.trip-index in
    let done = before ++ ids_of (take place trips) in
    let so = c.loop-trip.invariant others before keys there in
    let none = sym so.1 ∙ ap (λ left. comes_again (others ++ done) (ids_of left)) (drop_all place trips c.loop-trip-test.false) in
    (ap not (sym none), subst (AreIn c.loop-trip.ids) (ap (λ all. before ++ ids_of all) (take_all place trips c.loop-trip-test.false)) so.0)
