-- Rising lists, one after another, in order: the first head that no other goes before, and then what is left.
use Rattle.std.proofs.Common.{◌≡◌, ℕ, ◌+◌, ◌<◌, Bool, true, false, Option, Some, None, List, [], ◌∷◌, ◌++◌, length, get_or, set, refl, sym, ap, subst, ◌∙◌, append_assoc, append-nil, length-append, arith}
use Rattle.std.specs.Prelude.{if◌then◌else◌, slice_get}
use Rattle.std.specs.Cmp.{IsTotalOrder}
use Rattle.std.specs.List.{AllByRecursion}
use Rattle.std.specs.Ordering.{is_gt}
use Rattle.std.specs.declared.cmp.Ordering.{Ordering}
use Rattle.std.proofs.lemmas.Cmp.{tied_itself, upto}
use Rattle.std.proofs.lemmas.List.{get_or_at, set_at}
use Rattle.std.proofs.lemmas.List.Concat.{flat_map-append}
use Rattle.order.specs.Order.{inserted, ordered}
use Rattle.order.proofs.Laws.{IsLeast, IsRising}
use Rattle.order.proofs.Ordered.{not_above_back}
use Rattle.order.proofs.OrderedMap.{each_ordered}
use Rattle.run_departures.specs.Merge.{joined, Headed, sooner, first_from, first_head}

-- ---- lists

pub all_append : {X : Type 0} (P : X → Type 0) (xs ys : List X) → AllByRecursion P xs → AllByRecursion P ys → AllByRecursion P (xs ++ ys)
all_append P [] ys all more = more
all_append P (x ∷ xs) ys all more = (all.0, all_append P xs ys all.1 more)

pub all_first : {X : Type 0} (P : X → Type 0) (xs ys : List X) → AllByRecursion P (xs ++ ys) → AllByRecursion P xs
all_first P [] ys all = tt
all_first P (x ∷ xs) ys all = (all.0, all_first P xs ys all.1)

pub all_second : {X : Type 0} (P : X → Type 0) (xs ys : List X) → AllByRecursion P (xs ++ ys) → AllByRecursion P ys
all_second P [] ys all = all
all_second P (x ∷ xs) ys all = all_second P xs ys all.1

pub all_weaker : {X : Type 0} (P Q : X → Type 0) → ((x : X) → P x → Q x) → (xs : List X) → AllByRecursion P xs → AllByRecursion Q xs
all_weaker P Q h [] all = tt
all_weaker P Q h (x ∷ xs) all = (h x all.0, all_weaker P Q h xs all.1)

joined_more : {X : Type 0} (lists : List (List X)) (list : List X) → joined (lists ++ list ∷ []) ≡ joined lists ++ list
joined_more lists list = flat_map-append (λ xs. xs) lists (list ∷ []) ∙ ap (λ xs. joined lists ++ xs) (append-nil list)

-- ---- which list has the first item

module _ {X : Type 0} {cmp : X → X → Ordering} (o : IsTotalOrder cmp) where
  -- The head x of the list at a place is above no item of the lists, and below each of the lists before it.
  pub record IsFirst (lists : List (List X)) (best : Headed X) : Type 0 where
    pub before : List (List X)
    pub rest : List X
    pub after : List (List X)
    pub parts : lists ≡ before ++ (best.1 ∷ rest) ∷ after
    pub place : best.0 ≡ length before
    pub above : AllByRecursion (λ a. is_gt (cmp a best.1) ≡ true) (joined before)
    pub behind : IsLeast o best.1 rest
    pub least : IsLeast o best.1 (joined after)

  -- there is no item, or one of them is first
  abbrev pub FirstIs : List (List X) → Option (Headed X) → Type 0
  FirstIs lists None = joined lists ≡ []
  FirstIs lists (Some best) = IsFirst lists best

  -- what x is not above is above what x is above
  over : (x a y : X) → is_gt (cmp x a) ≡ false → is_gt (cmp x y) ≡ true → is_gt (cmp a y) ≡ true
  over x a y up above = grind (arith, upto)

  -- the first is above none of them
  first_least : (lists : List (List X)) (best : Headed X) → IsFirst lists best → IsLeast o best.1 (joined lists)
  first_least lists best first = grind (arith, all_append, all_weaker, flat_map-append, not_above_back, tied_itself)

  -- one list more
  with_more : (done : List (List X)) (best : Option (Headed X)) (list : List X) → IsRising o list → FirstIs done best → FirstIs (done ++ list ∷ []) (sooner cmp best (length done) (slice_get list 0))
  with_more done None [] up none = joined_more done [] ∙ append-nil (joined done) ∙ none
  with_more done (Some best) [] up first = record {
    before = first.before;
    rest = first.rest;
    after = first.after ++ [] ∷ [];
    parts = ap (λ ls. ls ++ [] ∷ []) first.parts ∙ append_assoc first.before ((best.1 ∷ first.rest) ∷ first.after) ([] ∷ []);
    place = first.place;
    above = first.above;
    behind = first.behind;
    least = subst (IsLeast o best.1) (sym (joined_more first.after [] ∙ append-nil (joined first.after))) first.least;
  }
  with_more done None (y ∷ ys) up none = record {
    before = done;
    rest = ys;
    after = [];
    parts = refl;
    place = refl;
    above = subst (AllByRecursion (λ a. is_gt (cmp a y) ≡ true)) (sym none) tt;
    behind = up.0;
    least = tt;
  }
  with_more done (Some best) (y ∷ ys) up first = by_test (is_gt (cmp best.1 y)) refl where
    by_test : (b : Bool) → is_gt (cmp best.1 y) ≡ b → FirstIs (done ++ (y ∷ ys) ∷ []) (if b then Some (length done, y) else Some best)
    by_test true above = record {
      before = done;
      rest = ys;
      after = [];
      parts = refl;
      place = refl;
      above = all_weaker (λ a. is_gt (cmp best.1 a) ≡ false) (λ a. is_gt (cmp a y) ≡ true) (λ a low. over best.1 a y low above) (joined done) (first_least done best first);
      behind = up.0;
      least = tt;
    }
    by_test false low = record {
      before = first.before;
      rest = first.rest;
      after = first.after ++ (y ∷ ys) ∷ [];
      parts = ap (λ ls. ls ++ (y ∷ ys) ∷ []) first.parts ∙ append_assoc first.before ((best.1 ∷ first.rest) ∷ first.after) ((y ∷ ys) ∷ []);
      place = first.place;
      above = first.above;
      behind = first.behind;
      least =
          subst (IsLeast o best.1) (sym (joined_more first.after (y ∷ ys)))
          (all_append (λ a. is_gt (cmp best.1 a) ≡ false) (joined first.after) (y ∷ ys) first.least
          (low, all_weaker (λ a. is_gt (cmp y a) ≡ false) (λ a. is_gt (cmp best.1 a) ≡ false) (λ a up. upto o best.1 y a low up) ys up.0));
    }

  first_after : (place : ℕ) (done lists : List (List X)) (best : Option (Headed X)) → place ≡ length done → AllByRecursion (IsRising o) lists → FirstIs done best → FirstIs (done ++ lists) (first_from cmp place best lists)
  first_after place done [] best at up first = subst (λ ls. FirstIs ls best) (sym (append-nil done)) first
  first_after place done (list ∷ lists) best at up first =
      let more : place + 1 ≡ length (done ++ list ∷ []) = omega (arith, at, length-append done (list ∷ [])) in
      let now : FirstIs (done ++ list ∷ []) (sooner cmp best place (slice_get list 0)) =
      subst (λ n. FirstIs (done ++ list ∷ []) (sooner cmp best n (slice_get list 0))) (sym at) (with_more done best list up.0 first) in
      subst (λ ls. FirstIs ls (first_from cmp (place + 1) (sooner cmp best place (slice_get list 0)) lists)) (append_assoc done (list ∷ []) lists)
      (first_after (place + 1) (done ++ list ∷ []) lists (sooner cmp best place (slice_get list 0)) more up.1 now)

  pub first_is : (lists : List (List X)) → AllByRecursion (IsRising o) lists → FirstIs lists (first_head cmp lists)
  first_is lists up = first_after 0 [] lists None refl up refl

  -- ---- in order

  front : (x : X) (ys : List X) → IsLeast o x ys → inserted cmp x ys ≡ x ∷ ys
  unfolding inserted
  front x [] least = refl
  front x (y ∷ ys) least = ap (λ b. if b then y ∷ inserted cmp x ys else x ∷ y ∷ ys) least.0

  least_ordered : (x : X) (ys : List X) → IsLeast o x ys → IsLeast o x (ordered cmp ys)
  least_ordered x ys least = each_ordered (λ y. y) cmp cmp (λ y. is_gt (cmp x y) ≡ false) ys least

  -- what stands before x and is above it comes after it
  first_of_all : (x : X) (before after : List X) → AllByRecursion (λ a. is_gt (cmp a x) ≡ true) before → IsLeast o x after → ordered cmp (before ++ x ∷ after) ≡ x ∷ ordered cmp (before ++ after)
  unfolding ordered inserted
  first_of_all x [] after above least = front x (ordered cmp after) (least_ordered x after least)
  first_of_all x (a ∷ before) after above least = grind (arith, first_of_all x before after above.1 least)

  module _ (lists : List (List X)) (best : Headed X) (first : IsFirst lists best) where
    -- the list at that place begins with it
    pub place_within : best.0 < length lists
    place_within = grind (arith, length-append)

    pub list_there : get_or lists best.0 [] ≡ best.1 ∷ first.rest
    list_there = grind (arith, get_or_at)

    -- with what is left of it in its place, what is left of all follows
    pub merged : (rest : List X) → rest ≡ first.rest → ordered cmp (joined lists) ≡ best.1 ∷ ordered cmp (joined (set lists best.0 rest))
    merged rest is = grind (arith, all_append, first_of_all, flat_map-append, set_at)
