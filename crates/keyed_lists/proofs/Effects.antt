-- What changes leave at a key, and that lists by keys have there what their items leave.
use Rattle.std.proofs.Common.{◌≡◌, List, [], ◌∷◌, ◌++◌, Bool, true, false, cond, Option, Some, None, map, refl, sym, ap, subst, ◌∙◌, inl, inr}
use Rattle.std.specs.Prelude.{◌⊎◌, ◌||◌, T, fold}
use Rattle.std.specs.Cmp.{IsTotalOrder}
use Rattle.std.specs.List.{AllByRecursion, flat_map, list_any}
use Rattle.std.specs.Ordering.{eq_by_cmp}
use Rattle.std.specs.declared.cmp.Ordering.{Ordering}
use Rattle.std.specs.FinMap.{IsAntisymmetric, find, is_sorted}
use Rattle.std.specs.FinMap.Entries.{same_entries}
use Rattle.std.proofs.lemmas.List.{map-append}
use Rattle.shared_list.specs.declared.change.Change.{Change}
use Rattle.shared_list.specs.declared.change.Change.TheVariants.{Put, Remove}
use Rattle.shared_list.specs.Changes.{after_change, after_changes}
use Rattle.shared_list.proofs.ChangeLaws.{find-change, sorted-changes}
use Rattle.keyed_lists.specs.Keyed.{with_item, by_key, changed, naming_keys}

-- ---- the effect of changes

module _ {K X : Type 0} (cmp : K → K → Ordering) (key : X → K) (k : K) where
  -- what is found at the key after one change
  abbrev pub effect_one : Option X → Change X K → Option X
  effect_one found (Put x) = cond (eq_by_cmp cmp k (key x)) (Some x) found
  effect_one found (Remove other) = cond (eq_by_cmp cmp k other) None found

  -- and after several
  abbrev pub effect : List (Change X K) → Option X → Option X
  effect [] found = found
  effect (c ∷ cs) found = effect cs (effect_one found c)

  pub effect-append : (cs ds : List (Change X K)) (found : Option X) → effect (cs ++ ds) found ≡ effect ds (effect cs found)
  effect-append [] ds found = refl
  effect-append (c ∷ cs) ds found = effect-append cs ds (effect_one found c)

  -- the item has another key
  abbrev pub IsApart : X → Type 0
  IsApart x = eq_by_cmp cmp k (key x) ≡ false

  pub puts_apart : (xs : List X) → AllByRecursion IsApart xs → (found : Option X) → effect (map Put xs) found ≡ found
  puts_apart [] apart found = refl
  puts_apart (x ∷ xs) apart found =
      ap (λ b. effect (map Put xs) (cond b (Some x) found)) apart.0 ∙ puts_apart xs apart.1 found

  pub removes_apart : (xs : List X) → AllByRecursion IsApart xs → (found : Option X) → effect (map (λ x. Remove (key x)) xs) found ≡ found
  removes_apart [] apart found = refl
  removes_apart (x ∷ xs) apart found =
      ap (λ b. effect (map (λ y. Remove (key y)) xs) (cond b None found)) apart.0 ∙ removes_apart xs apart.1 found

  -- the first of two that is there
  abbrev pub or_else : Option X → Option X → Option X
  or_else None other = other
  or_else (Some x) other = Some x

  later_first : (a found : Option X) (b : Bool) (x : X) → or_else a (cond b (Some x) found) ≡ or_else (or_else a (cond b (Some x) None)) found
  later_first None found true x = refl
  later_first None found false x = refl
  later_first (Some y) found b x = refl

  -- items that are put in leave the last that has the key, or what was found before
  pub puts_leave : (xs : List X) (found : Option X) → effect (map Put xs) found ≡ or_else (effect (map Put xs) None) found
  puts_leave [] found = refl
  puts_leave (x ∷ xs) found =
      puts_leave xs (cond (eq_by_cmp cmp k (key x)) (Some x) found)
      ∙ later_first (effect (map Put xs) None) found (eq_by_cmp cmp k (key x)) x
      ∙ ap (λ o. or_else o found) (sym (puts_leave xs (cond (eq_by_cmp cmp k (key x)) (Some x) None)))

  or_same : (a : Option X) → or_else a a ≡ a
  or_same None = refl
  or_same (Some x) = refl

  -- putting them in again changes nothing
  pub puts_again : (xs : List X) → effect (map Put xs) (effect (map Put xs) None) ≡ effect (map Put xs) None
  puts_again xs = puts_leave xs (effect (map Put xs) None) ∙ or_same (effect (map Put xs) None)

  -- whether one of the items has the key
  abbrev pub is_among : List X → Bool
  is_among xs = list_any (λ x. eq_by_cmp cmp k (key x)) xs

  both_gone : (b c : Bool) (found : Option X) → cond c None (cond b None found) ≡ cond (b || c) None found
  both_gone true true found = refl
  both_gone true false found = refl
  both_gone false c found = refl

  pub removes_leave : (xs : List X) (found : Option X) → effect (map (λ x. Remove (key x)) xs) found ≡ cond (is_among xs) None found
  removes_leave [] found = refl
  removes_leave (x ∷ xs) found =
      removes_leave xs (cond (eq_by_cmp cmp k (key x)) None found)
      ∙ both_gone (eq_by_cmp cmp k (key x)) (is_among xs) found

  -- and where none has it, all have others
  pub none_among : (xs : List X) → is_among xs ≡ false → AllByRecursion IsApart xs
  none_among [] none = tt
  none_among (x ∷ xs) none = by_test (eq_by_cmp cmp k (key x)) refl (none_among xs) none where
    by_test : (b : Bool) → eq_by_cmp cmp k (key x) ≡ b → (is_among xs ≡ false → AllByRecursion IsApart xs) → (b || is_among xs) ≡ false → AllByRecursion IsApart (x ∷ xs)
    by_test true e rest none = cc
    by_test false e rest none = (e, rest none)

  -- what goes and what comes: what is found then is what the new items leave, where it was what the old or the new ones leave
  pub turned : (old new : List X) (found : Option X) → (found ≡ effect (map Put old) None) ⊎ (found ≡ effect (map Put new) None)
      → effect (map (λ x. Remove (key x)) old ++ map Put new) found ≡ effect (map Put new) None
  turned old new found fine =
      effect-append (map (λ x. Remove (key x)) old) (map Put new) found
      ∙ ap (effect (map Put new)) (removes_leave old found)
      ∙ puts_leave new (cond (is_among old) None found)
      ∙ by_new (effect (map Put new) None) refl
    where
      nothing_left : effect (map Put new) None ≡ None → (b : Bool) → is_among old ≡ b → cond b None found ≡ None
      nothing_left none true e = refl
      nothing_left none false e =
          elim fine [
            | inl was ↦ was ∙ puts_apart old (none_among old e) None
            | inr is ↦ is ∙ none
          ]

      by_new : (o : Option X) → effect (map Put new) None ≡ o → or_else o (cond (is_among old) None found) ≡ o
      by_new None e = nothing_left e (is_among old) refl
      by_new (Some y) e = refl

-- ---- changes in segments, each about keys of its own

-- a segment that is not the key's leaves what is found there, and one that is brings it to the goal
pub record IsSegment {A K X : Type 0} (cmp : K → K → Ordering) (key : X → K) (k : K) (segment : A → List (Change X K)) (owns : A → Bool) (goal : Option X) (Fine : Option X → Type 0) (a : A) : Type 0 where
  pub apart : owns a ≡ false → (found : Option X) → effect cmp key k (segment a) found ≡ found
  pub own : owns a ≡ true → (found : Option X) → Fine found → effect cmp key k (segment a) found ≡ goal

module _ {A K X : Type 0} (cmp : K → K → Ordering) (key : X → K) (k : K) (segment : A → List (Change X K)) (owns : A → Bool) (goal : Option X) (Fine : Option X → Type 0) (reached : Fine goal) where
  both_goal : (b : Bool) → cond b goal goal ≡ goal
  both_goal true = refl
  both_goal false = refl

  pub settled : (items : List A) → AllByRecursion (IsSegment cmp key k segment owns goal Fine) items → (found : Option X) → Fine found
      → effect cmp key k (flat_map segment items) found ≡ cond (list_any owns items) goal found
  settled [] all found fine = refl
  settled (a ∷ items) all found fine =
      effect-append cmp key k (segment a) (flat_map segment items) found
      ∙ by_owner (owns a) refl (λ before good. settled items all.1 before good)
    where
      by_owner : (b : Bool) → owns a ≡ b → ((before : Option X) → Fine before → effect cmp key k (flat_map segment items) before ≡ cond (list_any owns items) goal before)
          → effect cmp key k (flat_map segment items) (effect cmp key k (segment a) found) ≡ cond (b || list_any owns items) goal found
      by_owner true e rest =
          ap (effect cmp key k (flat_map segment items)) (all.0.own e found fine)
          ∙ rest goal reached
          ∙ both_goal (list_any owns items)
      by_owner false e rest =
          ap (effect cmp key k (flat_map segment items)) (all.0.apart e found)
          ∙ rest found fine

-- ---- lists

module _ {K X : Type 0} {cmp : K → K → Ordering} (o : IsTotalOrder cmp) (key : X → K) where
  find_one : (k : K) (es : List (K × X)) (c : Change X K) → find cmp k (after_change cmp key (λ q. q) es c) ≡ effect_one cmp key k (find cmp k es) c
  find_one k es (Put x) = find-change o key (λ q. q) k es (Put x)
  find_one k es (Remove other) = find-change o key (λ q. q) k es (Remove other)

  -- what is found after changes
  pub find_changed : (k : K) (es : List (K × X)) (cs : List (Change X K)) → find cmp k (changed cmp key es cs) ≡ effect cmp key k cs (find cmp k es)
  find_changed k es [] = refl
  find_changed k es (c ∷ cs) =
      find_changed k (after_change cmp key (λ q. q) es c) cs
      ∙ ap (effect cmp key k cs) (find_one k es c)

  pub sorted_changed : (es : List (K × X)) (cs : List (Change X K)) → T (is_sorted cmp es) → T (is_sorted cmp (changed cmp key es cs))
  sorted_changed es cs h = sorted-changes o key (λ q. q) es cs h

  put_each : (es : List (K × X)) (xs : List X) → fold (with_item cmp key) es xs ≡ changed cmp key es (map Put xs)
  put_each es [] = refl
  put_each es (x ∷ xs) = put_each (with_item cmp key es x) xs

  -- items by their keys are what putting them in makes of nothing
  pub by_key_is : (xs : List X) → by_key cmp key xs ≡ changed cmp key [] (map Put xs)
  unfolding by_key
  by_key_is xs = put_each [] xs

  pub sorted_by_key : (xs : List X) → T (is_sorted cmp (by_key cmp key xs))
  sorted_by_key xs = subst (λ (es : List (K × X)). T (is_sorted cmp es)) (sym (by_key_is xs)) (sorted_changed [] (map Put xs) tt)

  pub find_by_key : (k : K) (xs : List X) → find cmp k (by_key cmp key xs) ≡ effect cmp key k (map Put xs) None
  find_by_key k xs = ap (find cmp k) (by_key_is xs) ∙ find_changed k [] (map Put xs)

-- ---- a list of which several things change the keys that they own

pub flat_same : {A X : Type 0} (f g : A → List X) → ((a : A) → f a ≡ g a) → (items : List A) → flat_map f items ≡ flat_map g items
flat_same f g same [] = refl
flat_same f g same (a ∷ items) = ap (λ xs. xs ++ flat_map f items) (same a) ∙ ap (λ xs. g a ++ xs) (flat_same f g same items)

module _ {A K X : Type 0} {order : K → K → Ordering} (total : IsTotalOrder order) (exact : IsAntisymmetric order) (key : X → K) (owns : K → A → Bool) (segment : A → List (Change X K))
    (was goal : K → Option X) (items : List A) (same : (k : K) → list_any (owns k) items ≡ false → goal k ≡ was k) where
  abbrev pub IsFine : K → Option X → Type 0
  IsFine k found = (found ≡ was k) ⊎ (found ≡ goal k)

  either_goal : (k : K) (b : Bool) → list_any (owns k) items ≡ b → cond b (goal k) (was k) ≡ goal k
  either_goal k true e = refl
  either_goal k false e = sym (same k e)

  each : (P : A → Type 0) → ((a : A) → P a) → (all : List A) → AllByRecursion P all
  each P is [] = tt
  each P is (a ∷ all) = (is a, each P is all)

  -- where each thing's segment brings its keys to their goal, the list becomes the one that has the goals
  pub all_changed : (old new : List (K × X)) → T (is_sorted order old) → T (is_sorted order new) → ((k : K) → find order k old ≡ was k) → ((k : K) → find order k new ≡ goal k)
      → ((k : K) (a : A) → IsSegment order key k segment (owns k) (goal k) (IsFine k) a)
      → changed order key old (flat_map segment items) ≡ new
  all_changed old new up upper before now segments =
      same_entries order total exact (changed order key old (flat_map segment items)) new
      (sorted_changed total key old (flat_map segment items) up) upper
      (λ k. find_changed total key k old (flat_map segment items)
      ∙ ap (effect order key k (flat_map segment items)) (before k)
      ∙ settled order key k segment (owns k) (goal k) (IsFine k) (inr refl) items (each (IsSegment order key k segment (owns k) (goal k) (IsFine k)) (segments k) items) (was k) (inl refl)
      ∙ either_goal k (list_any (owns k) items) refl
      ∙ sym (now k))

-- ---- items that several things give

-- what doesn't own the key gives no item that has it, and what owns it gives these items
pub record IsGiver {A K X : Type 0} (cmp : K → K → Ordering) (key : X → K) (k : K) (gives : A → List X) (owns : A → Bool) (items : List X) (a : A) : Type 0 where
  pub apart : owns a ≡ false → AllByRecursion (IsApart cmp key k) (gives a)
  pub own : owns a ≡ true → gives a ≡ items

map_flat : {A X Y : Type 0} (f : X → Y) (g : A → List X) (items : List A) → map f (flat_map g items) ≡ flat_map (λ a. map f (g a)) items
map_flat f g [] = refl
map_flat f g (a ∷ items) = map-append f (g a) (flat_map g items) ∙ ap (λ ys. map f (g a) ++ ys) (map_flat f g items)

module _ {A K X : Type 0} {cmp : K → K → Ordering} (o : IsTotalOrder cmp) (key : X → K) (k : K) (gives : A → List X) (owns : A → Bool) (items : List X) where
  abbrev left_by : Option X
  left_by = effect cmp key k (map Put items) None

  abbrev IsEither : Option X → Type 0
  IsEither found = (found ≡ None) ⊎ (found ≡ left_by)

  left_again : (found : Option X) → IsEither found → effect cmp key k (map Put items) found ≡ left_by
  left_again found (inl e) = ap (effect cmp key k (map Put items)) e
  left_again found (inr e) = ap (effect cmp key k (map Put items)) e ∙ puts_again cmp key k items

  segments : (all : List A) → AllByRecursion (IsGiver cmp key k gives owns items) all → AllByRecursion (IsSegment cmp key k (λ a. map Put (gives a)) owns left_by IsEither) all
  segments [] h = tt
  segments (a ∷ all) h = (
    record {
      apart = λ e found. puts_apart cmp key k (gives a) (h.0.apart e) found;
      own = λ e found fine. ap (λ xs. effect cmp key k (map Put xs) found) (h.0.own e) ∙ left_again found fine;
    },
    segments all h.1,
  )

  -- where one of them owns the key, what is found there is what its items leave
  pub find_given : (all : List A) → AllByRecursion (IsGiver cmp key k gives owns items) all → find cmp k (by_key cmp key (flat_map gives all)) ≡ cond (list_any owns all) left_by None
  find_given all h =
      find_by_key o key k (flat_map gives all)
      ∙ ap (λ cs. effect cmp key k cs None) (map_flat Put gives all)
      ∙ settled cmp key k (λ a. map Put (gives a)) owns left_by IsEither (inr refl) all (segments all h) None (inl refl)

-- ---- changes that name what goes in another form

pub by_naming : {K X Q : Type 0} (cmp : K → K → Ordering) (key : X → K) (sought : Q → K) (es : List (K × X)) (cs : List (Change X Q)) → after_changes cmp key sought es cs ≡ changed cmp key es (naming_keys sought cs)
by_naming cmp key sought es [] = refl
by_naming cmp key sought es (Put x ∷ cs) = by_naming cmp key sought (after_change cmp key sought es (Put x)) cs
by_naming cmp key sought es (Remove q ∷ cs) = by_naming cmp key sought (after_change cmp key sought es (Remove q)) cs
