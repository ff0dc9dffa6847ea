-- The first departure of all queues, which goes.
use Rattle.std.proofs.Common.{◌≡◌, ℕ, ◌<◌, Option, Some, None, List, [], ◌∷◌, ◌++◌, length, get_or, set, sym, ap, subst, ◌∙◌}
use Rattle.std.specs.List.{AllByRecursion}
use Rattle.std.specs.Iterator.{YieldsFirst}
use Rattle.std.specs.Option.{option_map}
use Rattle.std.proofs.lemmas.List.{get_or_default, set_at}
use Rattle.order.specs.Order.{ordered}
use Rattle.order.proofs.Laws.{IsRising}
use Rattle.run_departures.specs.declared.departure.Departure.{Departure}
use Rattle.run_departures.specs.Departures.{departure_cmp}
use Rattle.run_departures.specs.Merge.{joined, Headed, first_head}
use Rattle.run_departures.specs.Orders.{departure_total}
use Rattle.run_departures.specs.Queued.{AreRising}
use Rattle.run_departures.proofs.Merging.{IsFirst, FirstIs, first_is, place_within, list_there, merged, all_append, all_first, all_second}

abbrev place_in : Option (Headed Departure) → Option ℕ
place_in best = option_map (λ b. b.0) best

-- where a place is told, the head at that place is first
module _ (queues : List (List Departure)) (are : AreRising queues) (i : ℕ) where
  record IsTold : Type 0 where
    best : Headed Departure
    place : i ≡ best.0
    first : IsFirst departure_total queues best

  told : Some i ≡ place_in (first_head departure_cmp queues) → IsTold
  told is = by_head (first_head departure_cmp queues) is (first_is departure_total queues are.rise) where
    by_head : (best : Option (Headed Departure)) → Some i ≡ place_in best → FirstIs departure_total queues best → IsTold
    by_head None is first = cc
    by_head (Some best) is first = record { best = best; place = cc; first = first }

  pub first_within : Some i ≡ place_in (first_head departure_cmp queues) → i < length queues
  first_within is =
      let it = told is in
      subst (λ n. n < length queues) (sym it.place) (place_within departure_total queues it.best it.first)

  module _ (is : Some i ≡ place_in (first_head departure_cmp queues)) (list new : List Departure) (there : list ≡ get_or queues i list) where
    list_is : (it : IsTold) → list ≡ it.best.1 ∷ it.first.rest
    list_is it =
        there ∙ get_or_default queues i list [] (first_within is)
        ∙ ap (λ n. get_or queues n []) it.place ∙ list_there departure_total queues it.best it.first

    -- it is the first in order, and the rest follows
    pub taken : (r : Option Departure) → YieldsFirst (λ (left : List Departure). left) list r new → YieldsFirst (λ (all : List (List Departure)). ordered departure_cmp (joined all)) queues r (set queues i new)
    taken None yields = let it = told is in let clash : [] ≡ it.best.1 ∷ it.first.rest = sym yields.0 ∙ list_is it in cc
    taken (Some d) yields =
        let it = told is in
        let both : d ∷ new ≡ it.best.1 ∷ it.first.rest = sym yields ∙ list_is it in
        let rest : new ≡ it.first.rest = cc in
        let head : it.best.1 ≡ d = cc in
        merged departure_total queues it.best it.first new rest
        ∙ ap (λ n. it.best.1 ∷ ordered departure_cmp (joined (set queues n new))) (sym it.place)
        ∙ ap (λ x. x ∷ ordered departure_cmp (joined (set queues i new))) head

    -- all of them rise as before
    pub still_rising : (r : Option Departure) → YieldsFirst (λ (left : List Departure). left) list r new → AreRising (set queues i new)
    still_rising None yields = let it = told is in let clash : [] ≡ it.best.1 ∷ it.first.rest = sym yields.0 ∙ list_is it in cc
    still_rising (Some d) yields =
        let it = told is in
        let both : d ∷ new ≡ it.best.1 ∷ it.first.rest = sym yields ∙ list_is it in
        let rest : new ≡ it.first.rest = cc in
        let P : List (List Departure) → Type 0 = λ lists. AllByRecursion (IsRising departure_total) lists in
        let parts = subst P it.first.parts are.rise in
        let before = all_first (IsRising departure_total) it.first.before ((it.best.1 ∷ it.first.rest) ∷ it.first.after) parts in
        let behind = all_second (IsRising departure_total) it.first.before ((it.best.1 ∷ it.first.rest) ∷ it.first.after) parts in
        let now : set queues i new ≡ it.first.before ++ it.first.rest ∷ it.first.after =
        ap (λ n. set queues n new) it.place
        ∙ ap (λ lists. set lists it.best.0 new) it.first.parts
        ∙ ap (set (it.first.before ++ (it.best.1 ∷ it.first.rest) ∷ it.first.after) it.best.0) rest
        ∙ set_at it.first.before (it.best.1 ∷ it.first.rest) it.first.after it.first.rest it.best.0 (sym it.first.place) in
        record { rise = subst P (sym now) (all_append (IsRising departure_total) it.first.before (it.first.rest ∷ it.first.after) before (behind.0.1, behind.1)) }

-- where none is told, there is none
pub none_taken : (queues : List (List Departure)) → AreRising queues → None ≡ place_in (first_head departure_cmp queues) → ordered departure_cmp (joined queues) ≡ []
unfolding ordered
none_taken queues are is = by_head (first_head departure_cmp queues) is (first_is departure_total queues are.rise) where
  by_head : (best : Option (Headed Departure)) → None ≡ place_in best → FirstIs departure_total queues best → ordered departure_cmp (joined queues) ≡ []
  by_head None is none = ap (ordered departure_cmp) none
  by_head (Some best) is first = cc
