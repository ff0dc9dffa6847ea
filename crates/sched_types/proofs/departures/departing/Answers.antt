use Rattle.std.proofs.Common.{Some, map, length, drop, take, ◌-◌, sym, ◌∙◌, rules, arith}
use Rattle.std.specs.Option.{option_cmp}
use Rattle.std.specs.Ordering.{is_lt, is_le}
use Rattle.std.proofs.lemmas.List.{take_all, length-drop}
use Rattle.std.proofs.lemmas.List.Sorted.{IsPartitionPoint-from_clause}
use Rattle.sched_types.specs.Departures.{departure_of, departure_cmp, leaves_so}
use Rattle.order.proofs.Lists.{filter_same}
use Rattle.sched_types.proofs.DepartureOrder.{departures_total, wanted_is, has, below_first, up_to_last, between_in}
use Rattle.sched_types.proofs.departures.departing.Goals as goal

pub returns : goal.returns
returns c =
    let places = map (λ v. v.items) c.args.places.now in
    let key = departure_of c.args.trips.now places in
    let wanted = c.args.wanted in
    let order = c.args.order.now in
    let first = c.partition_point-first.result in
    let rest = take (length order - first) (drop first order) in
    let whole = take_all (length order - first) (drop first order) (omega (arith, length-drop first order)) in
    let low = IsPartitionPoint-from_clause (λ trip. is_lt (option_cmp departure_cmp (key trip) (Some wanted))) order first c.partition_point-first.ensures.partitioned
    (below_first (option_cmp departure_cmp) departures_total key (Some wanted) order c.requires.sorted) (λ a r f called. search rules) in
    let high = IsPartitionPoint-from_clause (λ trip. is_le (option_cmp departure_cmp (key trip) (Some wanted))) rest c.partition_point-count.result c.partition_point-count.ensures.partitioned
    (up_to_last (option_cmp departure_cmp) departures_total key (Some wanted) order c.requires.sorted first rest whole) (λ a r f called. search rules) in
    between_in (option_cmp departure_cmp) departures_total key (Some wanted) order c.requires.sorted first c.partition_point-count.result rest whole c.partition_point-first.ensures.bound low high
    ∙ sym (filter_same (leaves_so c.args.trips.now places wanted) (has (option_cmp departure_cmp) departures_total key (Some wanted)) order (λ trip. wanted_is wanted (key trip)))
    ∙ c.requires.same wanted
