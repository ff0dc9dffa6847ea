use Rattle.std.proofs.Common.{◌∙◌, ap, refl, ◌∷◌, [], List, ℕ}
use Rattle.sched_types.specs.declared.rows.PlanParts.{PlanParts}
use Rattle.sched_types.proofs.Checked.{checked_parts}
use Rattle.trip_match_defs.specs.Autumn.{autumn}
use Rattle.test_matching.proofs.Samples.{autumn_passes}
use Rattle.test_matching.proofs.matching.autumn.Goals as goal

pub build-requires : goal.build-requires
build-requires c =
    let parts : PlanParts = record { agencies = c.in_ok-vec.field-0; stops = c.in_ok-stops.field-0; routes = c.in_ok-routes.field-0; trips = c.in_ok-trips.field-0; places = c.in_ok-autumn_places.field-0; active = c.in_ok-vec-3.field-0; first = 20251025; bases = c.in_ok-vec-4.field-0; patterns = c.new-2.result; derived = c.new-3.result } in
    checked_parts autumn autumn_passes parts (c.in_ok-vec.ensures.items ∙ ap (λ (id : List ℕ). id ∷ []) c.in_ok-new.ensures) c.in_ok-stops.ensures c.in_ok-routes.ensures c.in_ok-trips.ensures c.in_ok-autumn_places.ensures
    (rw c.in_ok-vec-3.ensures.items (ap (λ (days : List ℕ). days ∷ []) c.in_ok-vec-2.ensures.items)) refl c.in_ok-vec-4.ensures.items c.new-2.ensures.items c.new-3.ensures.items
