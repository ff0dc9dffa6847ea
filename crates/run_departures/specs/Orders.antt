-- The order of departures is total.
use Rattle.std.specs.Cmp.{IsTotalOrder}
use Rattle.std.proofs.lemmas.Cmp.{on_total, then_total, int_cmp_total, nat_cmp_total}
use Rattle.run_departures.specs.Departures.{departure_cmp}

pub departure_total : IsTotalOrder departure_cmp
departure_total =
    then_total (on_total (λ d. d.expected) int_cmp_total)
    (then_total (on_total (λ d. d.run.trip) nat_cmp_total)
    (then_total (on_total (λ d. d.run.day) nat_cmp_total) (on_total (λ d. d.place) nat_cmp_total)))
