-- What is true of each entry of a list by keys, and of lists that come of entries.
use Rattle.std.proofs.Common.{◌≡◌, List, [], ◌∷◌, Bool, true, false, cond, Option, Some, None, map, filter, refl, sym, ap, subst, ◌∙◌, Less, Equal, Greater}
use Rattle.std.specs.Prelude.{IfSome, T, fold}
use Rattle.std.specs.Cmp.{IsTotalOrder}
use Rattle.std.specs.FinMap.{IsAntisymmetric, find, is_sorted, put}
use Rattle.std.specs.FinMap.Entries.{by_order}
use Rattle.std.specs.List.{AllByRecursion, cons_option, filter_map}
use Rattle.std.specs.Ordering.{eq_by_cmp, is_gt}
use Rattle.std.specs.declared.cmp.Ordering.{Ordering}
use Rattle.std.proofs.lemmas.Cmp.{tied_itself}
use Rattle.shared_list.specs.Order.{entries}
use Rattle.shared_list.proofs.Middle.{second_so, sorted_behind}
use Rattle.keyed_lists.specs.Keyed.{by_key, with_item}
use Rattle.keyed_lists.proofs.Tables.{all_each, all_of, all_with, found_own, tie_self}

-- ---- lists

-- what is true at each place of a list for all of something
pub all_swap : {Q X : Type 0} (P : Q → X → Type 0) (xs : List X) → ((q : Q) → AllByRecursion (P q) xs) → AllByRecursion (λ x. (q : Q) → P q x) xs
all_swap P [] all = tt
all_swap P (x ∷ xs) all = (λ q. (all q).0, all_swap P xs (λ q. (all q).1))

-- what passes a test does so
pub all_passing : {X : Type 0} (R : X → Type 0) (p : X → Bool) (xs : List X) → AllByRecursion R xs → AllByRecursion (λ x. R x × (p x ≡ true)) (filter p xs)
all_passing R p [] all = tt
all_passing R p (x ∷ xs) all = by_test (p x) refl (all_passing R p xs all.1) where
  by_test : (b : Bool) → p x ≡ b → AllByRecursion (λ y. R y × (p y ≡ true)) (filter p xs) → AllByRecursion (λ y. R y × (p y ≡ true)) (cond b (x ∷ filter p xs) (filter p xs))
  by_test true passes rest = ((all.0, passes), rest)
  by_test false passes rest = rest

-- what is true of all that items give
pub all_from : {A X : Type 0} (f : A → Option X) (R : X → Type 0) (items : List A) → AllByRecursion (λ a. (x : X) → f a ≡ Some x → R x) items → AllByRecursion R (filter_map f items)
all_from f R [] all = tt
all_from {A} {X} f R (a ∷ items) all = by_option (f a) all.0 (all_from f R items all.1) where
  by_option : (given : Option X) → ((x : X) → given ≡ Some x → R x) → AllByRecursion R (filter_map f items) → AllByRecursion R (cons_option given (filter_map f items))
  by_option None here rest = rest
  by_option (Some x) here rest = (here x refl, rest)

-- and of what an item gives, where it is true of all that items give and that passes a test
abbrev IsSoIfGiven : {X : Type 0} → (X → Bool) → (X → Type 0) → Option X → Type 0
IsSoIfGiven {X} p R given = (x : X) → given ≡ Some x → p x ≡ true → R x

first_given : {X : Type 0} (p : X → Bool) (R : X → Type 0) (rest : List X) (given : Option X) → AllByRecursion R (filter p (cons_option given rest)) → IsSoIfGiven p R given × AllByRecursion R (filter p rest)
first_given p R rest None all = (λ x same passes. absurd (cc), all)
first_given {X} p R rest (Some y) all = by_test (p y) refl all where
  by_test : (b : Bool) → p y ≡ b → AllByRecursion R (cond b (y ∷ filter p rest) (filter p rest)) → IsSoIfGiven p R (Some y) × AllByRecursion R (filter p rest)
  by_test true passes all = (λ x same again. let is : y ≡ x = cc in subst R is all.0, all.1)
  by_test false fails all = (λ x same passes. absurd (let is : y ≡ x = cc in let clash : false ≡ true = sym fails ∙ ap p is ∙ passes in cc), all)

pub all_given : {A X : Type 0} (f : A → Option X) (p : X → Bool) (R : X → Type 0) (items : List A) → AllByRecursion R (filter p (filter_map f items)) → AllByRecursion (λ a. (x : X) → f a ≡ Some x → p x ≡ true → R x) items
all_given f p R [] all = tt
all_given f p R (a ∷ items) all =
    let parts = first_given p R (filter_map f items) (f a) all in
    (parts.0, all_given f p R items parts.1)

-- what is true of what is there
pub of_some : {X : Type 0} (P : X → Type 0) (found : Option X) (x : X) → found ≡ Some x → IfSome found P → P x
of_some P found x at holds = subst (λ o. IfSome o P) at holds

-- where none passes a test, none does
pub none_passing : {E X : Type 0} (item : E → X) (p : X → Bool) (es : List E) → filter p (map item es) ≡ [] → AllByRecursion (λ e. p (item e) ≡ true → ⊥) es
none_passing item p [] none = tt
none_passing {E} {X} item p (e ∷ es) none = by_test (p (item e)) refl none (none_passing item p es) where
  by_test : (b : Bool) → p (item e) ≡ b → cond b (item e ∷ filter p (map item es)) (filter p (map item es)) ≡ []
      → (filter p (map item es) ≡ [] → AllByRecursion (λ y. p (item y) ≡ true → ⊥) es) → AllByRecursion (λ y. p (item y) ≡ true → ⊥) (e ∷ es)
  by_test true passes none rest = absurd (cc)
  by_test false fails none rest = (λ passes. let clash : false ≡ true = sym fails ∙ passes in cc, rest none)

-- ---- entries by keys

-- an entry has the key of its item
abbrev pub HasItsKey : {K X : Type 0} → (X → K) → K × X → Type 0
HasItsKey key e = e.0 ≡ key e.1

each_own : {K X : Type 0} (key : X → K) (xs : List X) → AllByRecursion (HasItsKey key) (entries key xs)
each_own key [] = tt
each_own key (x ∷ xs) = (refl, each_own key xs)

-- as a list's own contract says it
pub keyed_each : {K X : Type 0} (key : X → K) (es : List (K × X)) → entries key (map (λ e. e.1) es) ≡ es → AllByRecursion (HasItsKey key) es
keyed_each key es keyed = subst (AllByRecursion (HasItsKey key)) keyed (each_own key (map (λ e. e.1) es))

module _ {K X : Type 0} {cmp : K → K → Ordering} (exact : IsAntisymmetric cmp) (Q : K → X → Type 0) where
  abbrev Each : List (K × X) → Type 0
  Each es = AllByRecursion (λ e. Q e.0 e.1) es

  put_so : (k : K) (v : X) (es : List (K × X)) → Q k v → Each es → Each (put cmp k v es)
  put_so k v [] this all = (this, tt)
  put_so k v (e ∷ es) this all = by_case (cmp k e.0) refl (put_so k v es this all.1) where
    by_case : (r : Ordering) → cmp k e.0 ≡ r → Each (put cmp k v es) → Each (by_order r ((k, v) ∷ e ∷ es) ((e.0, v) ∷ es) (e ∷ put cmp k v es))
    by_case Less at rest = (this, all)
    by_case Equal tie rest = (subst (λ x. Q x v) (exact k e.0 tie) this, all.1)
    by_case Greater at rest = (all.0, rest)

  fold_so : (key : X → K) (es : List (K × X)) (xs : List X) → Each es → AllByRecursion (λ x. Q (key x) x) xs → Each (fold (with_item cmp key) es xs)
  fold_so key es [] all these = all
  fold_so key es (x ∷ xs) all these = fold_so key (put cmp (key x) x es) xs (put_so (key x) x es these.0 all) these.1

  -- what is true of each item with its key is true of each entry of a list of them
  pub by_key_so : (key : X → K) (xs : List X) → AllByRecursion (λ x. Q (key x) x) xs → Each (by_key cmp key xs)
  unfolding by_key
  by_key_so key xs these = fold_so key [] xs tt these

module _ {K X : Type 0} {cmp : K → K → Ordering} (o : IsTotalOrder cmp) (exact : IsAntisymmetric cmp) (key : X → K) where
  -- each item of a list by keys is held under its own key
  pub by_key_keyed : (xs : List X) → AllByRecursion (HasItsKey key) (by_key cmp key xs)
  by_key_keyed xs = by_key_so exact (λ k x. k ≡ key x) key xs (all_of (λ x. key x ≡ key x) (λ x. refl) xs)

  -- and is found there
  pub found_each : (es : List (K × X)) → T (is_sorted cmp es) → AllByRecursion (λ e. find cmp e.0 es ≡ Some e.1) es
  found_each es up =
      all_each (λ e. (q : K) → eq_by_cmp cmp q e.0 ≡ true → find cmp q es ≡ Some e.1) (λ e. find cmp e.0 es ≡ Some e.1) (λ e found. found e.0 (tie_self o exact e.0)) es
      (all_swap (λ q e. eq_by_cmp cmp q e.0 ≡ true → find cmp q es ≡ Some e.1) es (λ q. found_own o exact q es up))

  abbrev NotBelow : (X → Bool) → X → K × X → Type 0
  NotBelow p x y = p y.1 ≡ true → is_gt (cmp (key x) (key y.1)) ≡ false

  -- the first that passes a test is below all others that do
  pub first_least : (p : X → Bool) (es : List (K × X)) → T (is_sorted cmp es) → AllByRecursion (HasItsKey key) es → (x : X) (rest : List X) → filter p (map (λ e. e.1) es) ≡ x ∷ rest
      → AllByRecursion (NotBelow p x) es
  first_least p [] up keyed x rest at = tt
  first_least p (e ∷ es) up keyed x rest at = by_test (p e.1) refl at (λ later. first_least p es (second_so _ _ up) keyed.1 x rest later) where
    later_than : x ≡ e.1 → (y : K × X) → cmp e.0 y.0 ≡ Less → HasItsKey key y → NotBelow p x y
    later_than same y less own passes =
        ap (λ z. is_gt (cmp (key z) (key y.1))) same
        ∙ ap (λ k. is_gt (cmp k (key y.1))) (sym keyed.0)
        ∙ ap (λ k. is_gt (cmp e.0 k)) (sym own)
        ∙ ap is_gt less

    by_test : (b : Bool) → p e.1 ≡ b → cond b (e.1 ∷ filter p (map (λ y. y.1) es)) (filter p (map (λ y. y.1) es)) ≡ x ∷ rest
        → (filter p (map (λ y. y.1) es) ≡ x ∷ rest → AllByRecursion (NotBelow p x) es) → AllByRecursion (NotBelow p x) (e ∷ es)
    by_test true passes at later =
        let same : e.1 ≡ x = cc in (
          λ again. ap (λ z. is_gt (cmp (key x) (key z))) same ∙ ap is_gt (tied_itself o (key x)),
          all_with (λ y. cmp e.0 y.0 ≡ Less) (HasItsKey key) (NotBelow p x) (later_than (sym same)) es (sorted_behind o e es up) keyed.1,
        )
    by_test false fails at later = (λ passes. absurd (let clash : false ≡ true = sym fails ∙ passes in cc), later at)
