-- Three lists, place by place.
use Rattle.std.proofs.Common.{◌≡◌, ℕ, zero, suc, ◌+◌, List, [], ◌∷◌, length, map, refl, sym, ap, ◌∙◌, subst, arith}
use Rattle.std.specs.List.{AllByRecursion, range_with_len}
use Rattle.place_jobs.specs.Places.{ArePlaces, PlacesChanged}
use Rattle.sched_types.specs.Schedules.{Schedules}
use Rattle.hub_shared.specs.Seats.{Ties, SeatSeen, fresh_seat, fresh_seats}

-- items of lists of one length are places, and what is true of all of the third is true at each
pub places_with : {A B C : Type 0} (P : C → Type 0) (place : ℕ) (xs : List A) (ys : List B) (zs : List C) → length xs ≡ length zs
    → length ys ≡ length zs → AllByRecursion P zs → ArePlaces (λ (k : ℕ) (x : A) (y : B) (z : C). P z) place xs ys zs
places_with P place [] [] [] p q all = tt
places_with P place [] [] (z ∷ zs) p q all = absurd (omega (arith, p))
places_with P place [] (y ∷ ys) [] p q all = absurd (omega (arith, q))
places_with P place [] (y ∷ ys) (z ∷ zs) p q all = absurd (omega (arith, p))
places_with P place (x ∷ xs) ys [] p q all = absurd (omega (arith, p))
places_with P place (x ∷ xs) [] (z ∷ zs) p q all = absurd (omega (arith, q))
places_with P place (x ∷ xs) (y ∷ ys) (z ∷ zs) p q all =
    (all.0, places_with P (place + 1) xs ys zs (omega (arith, p)) (omega (arith, q)) all.1)

-- what is true beside each place is true at each
pub places_and : {A B C P : Type 0} (accepts : ℕ → A → B → C → Type 0) (place : ℕ) (xs : List A) (ys : List B) (zs : List C) → P → ArePlaces accepts place xs ys zs
    → ArePlaces (λ (k : ℕ) (x : A) (y : B) (z : C). P × accepts k x y z) place xs ys zs
places_and accepts place [] [] [] p are = tt
places_and accepts place [] [] (z ∷ zs) p are = absurd are
places_and accepts place [] (y ∷ ys) zs p are = absurd are
places_and accepts place (x ∷ xs) [] zs p are = absurd are
places_and accepts place (x ∷ xs) (y ∷ ys) [] p are = absurd are
places_and accepts place (x ∷ xs) (y ∷ ys) (z ∷ zs) p are = ((p, are.0), places_and accepts (place + 1) xs ys zs p are.1)

-- the seats of a hub that was opened are its own
seats_from : {P R : Type 0} (hub : Ties) (first place n : ℕ) (ps : List P) (rs : List R) → length ps ≡ n → length rs ≡ n
    → ArePlaces (λ (k : ℕ) (p : P) (seat : SeatSeen) (r : R). seat.ties ≡ hub) place ps (map (fresh_seat hub) (range_with_len first n)) rs
seats_from hub first place zero [] [] p r = tt
seats_from hub first place zero [] (y ∷ rs) p r = absurd (omega (arith, r))
seats_from hub first place zero (x ∷ ps) rs p r = absurd (omega (arith, p))
seats_from hub first place (suc n) [] rs p r = absurd (omega (arith, p))
seats_from hub first place (suc n) (x ∷ ps) [] p r = absurd (omega (arith, r))
seats_from hub first place (suc n) (x ∷ ps) (y ∷ rs) p r = (refl, seats_from hub (first + 1) (place + 1) n ps rs (omega (arith, p)) (omega (arith, r)))

pub seats_placed : {P R : Type 0} (hub : Ties) (schedules : Schedules) (ps : List P) (seats : List SeatSeen) (rs : List R) → hub.plans ≡ schedules → seats ≡ fresh_seats hub
    → length ps ≡ length schedules.feeds → length rs ≡ length schedules.feeds
    → ArePlaces (λ (k : ℕ) (p : P) (seat : SeatSeen) (r : R). seat.ties ≡ hub) 0 ps seats rs
seats_placed {P = P} {R = R} hub schedules ps seats rs plans fresh p r =
    subst (λ (ss : List SeatSeen). ArePlaces (λ (k : ℕ) (p : P) (seat : SeatSeen) (r : R). seat.ties ≡ hub) 0 ps ss rs) (sym fresh)
    (seats_from hub 0 0 (length hub.plans.feeds) ps rs (p ∙ sym feeds) (r ∙ sym feeds))
  where
    feeds : length hub.plans.feeds ≡ length schedules.feeds
    feeds = ap (λ (s : Schedules). length s.feeds) plans

-- there are as many as feeds
counted_from : (hub : Ties) (first n : ℕ) → length (map (fresh_seat hub) (range_with_len first n)) ≡ n
counted_from hub first zero = refl
counted_from hub first (suc n) = ap suc (counted_from hub (first + 1) n)

pub seats_counted : (hub : Ties) (schedules : Schedules) (seats : List SeatSeen) → hub.plans ≡ schedules → seats ≡ fresh_seats hub → length seats ≡ length schedules.feeds
seats_counted hub schedules seats plans fresh =
    ap (λ (ss : List SeatSeen). length ss) fresh ∙ counted_from hub 0 (length hub.plans.feeds) ∙ ap (λ (s : Schedules). length s.feeds) plans

-- What holds of no places, and of one more where it holds of the others, holds of all that changed.
module _ {A B C : Type 0} (does : ℕ → A → B → C → A → B → C → Type 0) (M : ℕ → List A → List B → List C → List A → List B → List C → Type 0)
    (none : (place : ℕ) → M place [] [] [] [] [] [])
    (more : (place : ℕ) (x : A) (y : B) (z : C) (u : A) (v : B) (w : C) (xs : List A) (ys : List B) (zs : List C) (us : List A) (vs : List B) (ws : List C)
    → does place x y z u v w → M (place + 1) xs ys zs us vs ws → M place (x ∷ xs) (y ∷ ys) (z ∷ zs) (u ∷ us) (v ∷ vs) (w ∷ ws)) where
  pub by_places : (place : ℕ) (xs : List A) (ys : List B) (zs : List C) (us : List A) (vs : List B) (ws : List C) → PlacesChanged does place xs ys zs us vs ws → M place xs ys zs us vs ws
  by_places place [] [] [] [] [] [] h = none place
  by_places place [] (y ∷ ys) zs us vs ws h = absurd h
  by_places place [] [] (z ∷ zs) us vs ws h = absurd h
  by_places place [] [] [] (u ∷ us) vs ws h = absurd h
  by_places place [] [] [] [] (v ∷ vs) ws h = absurd h
  by_places place [] [] [] [] [] (w ∷ ws) h = absurd h
  by_places place (x ∷ xs) [] zs us vs ws h = absurd h
  by_places place (x ∷ xs) (y ∷ ys) [] us vs ws h = absurd h
  by_places place (x ∷ xs) (y ∷ ys) (z ∷ zs) [] vs ws h = absurd h
  by_places place (x ∷ xs) (y ∷ ys) (z ∷ zs) (u ∷ us) [] ws h = absurd h
  by_places place (x ∷ xs) (y ∷ ys) (z ∷ zs) (u ∷ us) (v ∷ vs) [] h = absurd h
  by_places place (x ∷ xs) (y ∷ ys) (z ∷ zs) (u ∷ us) (v ∷ vs) (w ∷ ws) h = more place x y z u v w xs ys zs us vs ws h.0 (by_places (place + 1) xs ys zs us vs ws h.1)

-- there are as many places as before
pub lengths_kept : {A B C : Type 0} (does : ℕ → A → B → C → A → B → C → Type 0) (place : ℕ) (xs : List A) (ys : List B) (zs : List C) (us : List A) (vs : List B) (ws : List C)
    → PlacesChanged does place xs ys zs us vs ws → (length vs ≡ length ys) × (length ws ≡ length zs)
lengths_kept {A = A} {B = B} {C = C} does =
    by_places does (λ (k : ℕ) (xs : List A) (ys : List B) (zs : List C) (us : List A) (vs : List B) (ws : List C). (length vs ≡ length ys) × (length ws ≡ length zs))
    (λ place. (refl, refl))
    (λ place x y z u v w xs ys zs us vs ws h rest. (ap suc rest.0, ap suc rest.1))
