use Rattle.std.proofs.Common.{◌∙◌, ap, refl, ◌∷◌, [], List, ℕ}
use Rattle.sched_types.specs.declared.rows.PlanParts.{PlanParts}
use Rattle.sched_types.proofs.Checked.{checked_parts}
use Rattle.trip_match_defs.specs.Frequent.{frequent}
use Rattle.test_matching.proofs.Samples.{frequent_passes}
use Rattle.test_matching.proofs.matching.frequent.Goals as goal

pub build-requires : goal.build-requires
build-requires c =
    let parts : PlanParts = record { agencies = c.in_ok-vec.field-0; stops = c.in_ok-stops.field-0; routes = c.in_ok-routes.field-0; trips = c.in_ok-frequent_trips.field-0; places = c.in_ok-frequent_places.field-0; active = c.in_ok-vec-3.field-0; first = 20251025; bases = c.in_ok-vec-4.field-0; patterns = c.in_ok-frequent_patterns.field-0; derived = c.in_ok-frequent_derived.field-0 } in
    checked_parts frequent frequent_passes parts (c.in_ok-vec.ensures.items ∙ ap (λ (id : List ℕ). id ∷ []) c.in_ok-new.ensures) c.in_ok-stops.ensures c.in_ok-routes.ensures c.in_ok-frequent_trips.ensures c.in_ok-frequent_places.ensures
    (rw c.in_ok-vec-3.ensures.items (ap (λ (days : List ℕ). days ∷ []) c.in_ok-vec-2.ensures.items)) refl c.in_ok-vec-4.ensures.items c.in_ok-frequent_patterns.ensures c.in_ok-frequent_derived.ensures
