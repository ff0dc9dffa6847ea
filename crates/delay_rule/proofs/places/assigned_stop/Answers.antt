-- The look-up is of the id that the update gives.
use Rattle.std.proofs.Common.{◌≡◌, ℕ, Option, Some, List, sym, ap, ◌∙◌}
use Rattle.std.specs.Option.{option_and_then}
use Rattle.rt_types.specs.declared.trip_update.StopProps.{StopProps}
use Rattle.sched_types.specs.Timetable.{Timetable, number_of}
use Rattle.delay_rule_defs.specs.Delays.{assigned_in}
use Rattle.delay_rule.proofs.places.assigned_stop.Goals as goal

by_id : (t : Timetable) (given : Option StopProps) (properties : StopProps) (id text : List ℕ) (found : Option ℕ) → given ≡ Some properties → properties.assigned_stop_id ≡ Some id → text ≡ id
    → found ≡ number_of (λ stop. stop.id) t.stops text → found ≡ assigned_in t given
by_id t given properties id text found is names same value =
    value
    ∙ ap (number_of (λ stop. stop.id) t.stops) same
    ∙ sym (ap (assigned_in t) is ∙ ap (option_and_then (number_of (λ stop. stop.id) t.stops)) names)

pub returns-in-Some-assigned_stop_id-clause-value : goal.returns-in-Some-assigned_stop_id-clause-value
returns-in-Some-assigned_stop_id-clause-value c =
    by_id c.args.plan.now c.args.update.now.properties c.in-Some.properties _ _ c.stop_of.result c.in-Some.is c.in-Some-assigned_stop_id.is c.as_str.ensures c.stop_of.ensures.value
