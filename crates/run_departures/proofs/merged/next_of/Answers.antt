-- The first head of all goes, and the rest of its queue stays in its place.
use Rattle.std.proofs.Common.{List, arith, ap, ◌∙◌}
use Rattle.std.specs.Option.{option_map}
use Rattle.run_departures.specs.declared.departure.Departure.{Departure}
use Rattle.run_departures.specs.Departures.{departure_cmp}
use Rattle.run_departures.specs.Merge.{first_head}
use Rattle.run_departures.proofs.Taking.{first_within, taken, still_rising, none_taken}
use Rattle.run_departures.proofs.merged.next_of.Goals as goal

pub index_mut-requires : goal.index_mut-requires
index_mut-requires c =
    let is = c.in-Some.ensures ∙ ap (λ (queues : List (List Departure)). option_map (λ b. b.0) (first_head departure_cmp queues)) c.as_slice.ensures.value in
    omega (arith, first_within c.args.queues.now.items c.requires c.in-Some.first is)

pub returns-in-Some-clause-next : goal.returns-in-Some-clause-next
returns-in-Some-clause-next c =
    let is = c.in-Some.ensures ∙ ap (λ (queues : List (List Departure)). option_map (λ b. b.0) (first_head departure_cmp queues)) c.as_slice.ensures.value in
    taken c.args.queues.now.items c.requires c.in-Some.first is c.index_mut.result.now c.take.new.self c.index_mut.ensures.value c.take.result c.take.ensures

pub returns-in-Some-clause-rise : goal.returns-in-Some-clause-rise
returns-in-Some-clause-rise c =
    let is = c.in-Some.ensures ∙ ap (λ (queues : List (List Departure)). option_map (λ b. b.0) (first_head departure_cmp queues)) c.as_slice.ensures.value in
    still_rising c.args.queues.now.items c.requires c.in-Some.first is c.index_mut.result.now c.take.new.self c.index_mut.ensures.value c.take.result c.take.ensures

pub returns-in-None-clause-next : goal.returns-in-None-clause-next
returns-in-None-clause-next c =
    let is = c.in-None.ensures ∙ ap (λ (queues : List (List Departure)). option_map (λ b. b.0) (first_head departure_cmp queues)) c.as_slice.ensures.value in
    let none = none_taken c.args.queues.now.items c.requires is in
    (none, none)
