use Rattle.std.proofs.Common.{◌∷◌, [], ◌≡◌, ◌+◌, ◌++◌, ◌==◌, ◌∙◌, ◌≤◌, ap, sym, subst, length, map, arith}
use Rattle.std.specs.Prelude.{slice_get}
use Rattle.std.specs.List.{range_with_len}
use Rattle.std.proofs.lemmas.List.{map-append}
use Rattle.std.proofs.lemmas.List.FromFn.{map-range_with_len_more}
use Rattle.sched_load.specs.declared.visits.Visit.{Visit}
use Rattle.sched_load.specs.Built.{places_of_trip}
use Rattle.sched_load.specs.Course.{places_in}
use Rattle.sched_load_defs.specs.Files.{most_rows}
use Rattle.sched_load.proofs.PairLemmas.{kept_at}
use Rattle.sched_load.proofs.PartLemmas.{filter_short}
use Rattle.sched_load.proofs.build.places_lists.Goals as goal

pub places_of-requires : goal.places_of-requires
places_of-requires c =
    let own = c.visits_of.ensures in
    let short = filter_short (λ (v : Visit). v.trip == c.loop-trip.trip) c.args.visits.now in
    let few = c.requires.small.few in
    record {
      few = subst (λ vs. length vs ≤ most_rows) (sym own) (omega (arith, short, few));
      pickups = λ i visit at. let kept = kept_at (λ (v : Visit). v.trip == c.loop-trip.trip) c.args.visits.now i visit (ap (λ vs. slice_get vs i) (sym own) ∙ at) in c.requires.small.pickups kept.0 visit kept.1;
    }

pub loop-trip-preserved : goal.loop-trip-preserved
loop-trip-preserved c =
    let more : 0 + c.loop-trip.trip ≡ c.loop-trip.trip = omega arith in
    let pushed = ap (map (λ v. v.items)) c.in_ok-push.ensures.items ∙ map-append (λ v. v.items) c.loop-trip.lists.items (c.in_ok-places_of.field-0 ∷ []) in
    pushed ∙ ap (λ vs. vs ++ c.in_ok-places_of.field-0.items ∷ []) c.loop-trip.invariant ∙ ap (λ ps. map (places_of_trip c.args.visits.now) (range_with_len 0 c.loop-trip.trip) ++ ps ∷ []) (c.in_ok-places_of.ensures ∙ ap places_in c.visits_of.ensures)
    ∙ sym (map-range_with_len_more (places_of_trip c.args.visits.now) 0 c.loop-trip.trip c.loop-trip.trip more)
