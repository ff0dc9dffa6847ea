-- The days of a service, marked one after another.
use Rattle.std.proofs.Common.{◌≡◌, ◌≢◌, ℕ, ◌+◌, ◌<◌, Bool, true, false, nat_eq, ◌||◌, List, [], length, take, get_or, set, replicate, refl, sym, ◌∙◌, arith}
use Rattle.std.specs.List.{list_any}
use Rattle.std.proofs.lemmas.Bool.Decides.{nat_tests}
use Rattle.std.proofs.lemmas.List.{same_lists, get_or-replicate, length-replicate}
use Rattle.std.proofs.lemmas.List.Folds.{list_any_more}
use Rattle.std.proofs.lemmas.List.FromFn.{get_or-map-range_with_len, length-map-range_with_len}
use Rattle.sched_types.specs.Sound.{days_marked}
use Rattle.sched_types.proofs.ChildrenLemmas.{lists_set}

-- at first none is
pub none_marked : (count : ℕ) → replicate count false ≡ days_marked count []
none_marked count = grind (arith, get_or-map-range_with_len, get_or-replicate, length-map-range_with_len, length-replicate, same_lists)

or_true : (a b : Bool) → b ≡ true → (a || b) ≡ true
or_true a b e = grind arith

or_false : (a b : Bool) → b ≡ false → (a || b) ≡ a
or_false a b e = grind arith

same_day : (a b : ℕ) → a ≡ b → nat_eq a b ≡ true
same_day a b e = grind (arith, nat_tests)

other_day : (a b : ℕ) → a ≢ b → nat_eq a b ≡ false
other_day a b e = grind (arith, nat_tests)

-- one more day of the list is marked
pub one_marked : (count i d : ℕ) (days : List ℕ) (marks : List Bool) → i < length days → get_or days i d < count → marks ≡ days_marked count (take i days) → set marks (get_or days i d) true ≡ days_marked count (take (i + 1) days)
one_marked count i d days marks within inside is =
    lists_set marks (λ k. list_any (λ day. nat_eq day k) (take i days)) (λ k. list_any (λ day. nat_eq day k) (take (i + 1) days)) count (get_or days i d) true inside is
    (list_any_more (λ day. nat_eq day (get_or days i d)) days i d within ∙ or_true (list_any (λ day. nat_eq day (get_or days i d)) (take i days)) (nat_eq (get_or days i d) (get_or days i d)) (same_day (get_or days i d) (get_or days i d) refl))
    (λ k other. list_any_more (λ day. nat_eq day k) days i d within ∙ or_false (list_any (λ day. nat_eq day k) (take i days)) (nat_eq (get_or days i d) k) (other_day (get_or days i d) k (λ e. other (sym e))))

-- there are as many marks as days
pub length_marked : (count : ℕ) (days : List ℕ) → length (days_marked count days) ≡ count
length_marked count days = length-map-range_with_len (λ k. list_any (λ day. nat_eq day k) days) 0 count
