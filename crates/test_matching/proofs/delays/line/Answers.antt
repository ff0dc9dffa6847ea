use Rattle.std.proofs.Common.{ap, refl, ◌∷◌, [], List, ℕ}
use Rattle.sched_types.specs.declared.rows.Place.{Place}
use Rattle.sched_types.specs.declared.rows.PlanParts.{PlanParts}
use Rattle.sched_types.proofs.Checked.{checked_parts}
use Rattle.delay_rule_defs.specs.Line.{line}
use Rattle.test_matching.proofs.Samples.{line_passes}
use Rattle.test_matching.proofs.delays.line.Goals as goal

pub build-requires : goal.build-requires
build-requires c =
    let parts : PlanParts = record { agencies = c.new.result; stops = c.in_ok-stops.field-0; routes = c.in_ok-routes.field-0; trips = c.in_ok-trips.field-0; places = c.in_ok-vec.field-0; active = c.in_ok-vec-3.field-0; first = 20250330; bases = c.in_ok-vec-4.field-0; patterns = c.new-2.result; derived = c.new-3.result } in
    checked_parts line line_passes parts c.new.ensures.items c.in_ok-stops.ensures c.in_ok-routes.ensures c.in_ok-trips.ensures
    (rw c.in_ok-vec.ensures.items (ap (λ (places : List Place). places ∷ []) c.in_ok-places.ensures))
    (rw c.in_ok-vec-3.ensures.items (ap (λ (days : List ℕ). days ∷ []) c.in_ok-vec-2.ensures.items)) refl c.in_ok-vec-4.ensures.items c.new-2.ensures.items c.new-3.ensures.items
