-- The children among the first stops, as a pass over the stops gathers them.
use Rattle.std.proofs.Common.{◌≡◌, ◌≢◌, ℕ, ◌+◌, ◌<◌, Bool, true, false, nat_eq, Some, None, List, [], ◌∷◌, ◌++◌, length, map, filter, get_or, set, slice_get, refl, sym, ap, append-nil, ◌∙◌, arith}
use Rattle.std.specs.Global.{Vec}
use Rattle.std.specs.List.{range_with_len}
use Rattle.std.proofs.lemmas.Bool.{cases_order}
use Rattle.std.proofs.lemmas.Bool.Decides.{nat_tests}
use Rattle.std.proofs.lemmas.List.{same_lists, get_or-map, length-map, get_or-set_same, get_or-set_other, length-set}
use Rattle.std.proofs.lemmas.List.Elements.{filter-append}
use Rattle.std.proofs.lemmas.List.FromFn.{get_or-map-range_with_len, length-map-range_with_len}
use Rattle.order.proofs.Lists.{range_more}
use Rattle.sched_types.specs.declared.rows.Stop.{Stop}
use Rattle.sched_types.specs.Timetable.{is_given, names_parent}

-- the children of a stop among the first stops
abbrev pub children_among : List Stop → ℕ → ℕ → List ℕ
children_among stops count parent = filter (λ stop. names_parent parent (slice_get stops stop)) (range_with_len 0 count)

-- one more number joins those that pass, where it passes
filter_one : (p : ℕ → Bool) (i : ℕ) → p i ≡ true → filter p (range_with_len 0 (i + 1)) ≡ filter p (range_with_len 0 i) ++ i ∷ []
filter_one p i e =
    ap (filter p) (range_more 0 i i (omega arith))
    ∙ filter-append p (range_with_len 0 i) (i ∷ [])
    ∙ rw e refl

filter_none : (p : ℕ → Bool) (i : ℕ) → p i ≡ false → filter p (range_with_len 0 (i + 1)) ≡ filter p (range_with_len 0 i)
filter_none p i e =
    ap (filter p) (range_more 0 i i (omega arith))
    ∙ filter-append p (range_with_len 0 i) (i ∷ [])
    ∙ rw e (append-nil (filter p (range_with_len 0 i)))

same_number : (a b : ℕ) → a ≡ b → nat_eq a b ≡ true
same_number a b e = grind (arith, nat_tests)

other_number : (a b : ℕ) → a ≢ b → nat_eq a b ≡ false
other_number a b e = grind (arith, nat_tests)

module _ (stops : List Stop) (i : ℕ) (stop : Stop) (at : slice_get stops i ≡ Some stop) where
  -- a stop without a parent is nobody's child
  pub no_parent : stop.parent ≡ None → (k : ℕ) → children_among stops (i + 1) k ≡ children_among stops i k
  no_parent none k = filter_none (λ s. names_parent k (slice_get stops s)) i (ap (names_parent k) at ∙ ap (is_given k) none)

  -- a stop with one joins the children of that one alone
  pub own_parent : (parent : ℕ) → stop.parent ≡ Some parent → children_among stops (i + 1) parent ≡ children_among stops i parent ++ i ∷ []
  own_parent parent named = filter_one (λ s. names_parent parent (slice_get stops s)) i (ap (names_parent parent) at ∙ ap (is_given parent) named ∙ same_number parent parent refl)

  pub other_parent : (parent : ℕ) → stop.parent ≡ Some parent → (k : ℕ) → k ≢ parent → children_among stops (i + 1) k ≡ children_among stops i k
  other_parent parent named k other = filter_none (λ s. names_parent k (slice_get stops s)) i (ap (names_parent k) at ∙ ap (is_given k) named ∙ other_number parent k (λ e. other (sym e)))

-- lists of one function of their place, where the function stays
pub lists_same : {X : Type 0} (lists : List X) (f g : ℕ → X) (n : ℕ) → lists ≡ map f (range_with_len 0 n) → ((k : ℕ) → g k ≡ f k) → lists ≡ map g (range_with_len 0 n)
lists_same lists f g n is stays = grind (arith, get_or-map-range_with_len, length-map-range_with_len, same_lists)

-- and where it changes at one place
module _ {X : Type 0} (lists : List X) (f g : ℕ → X) (n p : ℕ) (y : X) (within : p < n) (is : lists ≡ map f (range_with_len 0 n)) (here : g p ≡ y) (others : (k : ℕ) → k ≢ p → g k ≡ f k) where
  size : length lists ≡ n
  size = ap length is ∙ length-map-range_with_len f 0 n

  set_other : (k : ℕ) (d : X) → k < n → k ≢ p → get_or (set lists p y) k d ≡ g k
  set_other k d lt other = get_or-set_other lists p k y d other ∙ ap (λ l. get_or l k d) is ∙ get_or-map-range_with_len f 0 n k k d lt (omega arith) ∙ sym (others k other)

  set_at : (k : ℕ) (d : X) → k < n → get_or (set lists p y) k d ≡ g k
  set_at k d lt = grind (arith, cases_order, get_or-set_same, set_other, size)

  pub lists_set : set lists p y ≡ map g (range_with_len 0 n)
  lists_set = grind (arith, get_or-map-range_with_len, length-map-range_with_len, length-set, same_lists, set_at, size)

-- lists in vectors that are those of a function: their number, and the list at a place
module _ (vs : List (Vec ℕ)) (f : ℕ → List ℕ) (n : ℕ) (is : map (λ v. v.items) vs ≡ map f (range_with_len 0 n)) where
  pub as_many : length vs ≡ n
  as_many = sym (length-map vs (λ v. v.items)) ∙ ap length is ∙ length-map-range_with_len f 0 n

  pub list_at : (p : ℕ) (list : Vec ℕ) → p < n → list ≡ get_or vs p list → list.items ≡ f p
  list_at p list h e =
      ap (λ v. v.items) e ∙ sym (get_or-map (λ v. v.items) vs p list [] (omega (arith, as_many)))
      ∙ ap (λ l. get_or l p []) is ∙ get_or-map-range_with_len f 0 n p p [] h (omega arith)
