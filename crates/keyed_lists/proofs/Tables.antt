-- What a table has under an id, and lists of what its entities give.
use Rattle.std.proofs.Common.{◌≡◌, List, [], ◌∷◌, ◌++◌, Bool, true, false, cond, Option, Some, None, map, refl, sym, ap, subst, ◌∙◌, Less, Equal, Greater}
use Rattle.std.specs.Prelude.{◌||◌, IfSome, T}
use Rattle.std.specs.Cmp.{IsTotalOrder}
use Rattle.std.specs.FinMap.{IsAntisymmetric, find, is_sorted}
use Rattle.std.specs.List.{AllByRecursion, cons_option, filter_map, flat_map, list_any}
use Rattle.std.specs.Option.{option_to_list}
use Rattle.std.specs.Ordering.{eq_by_cmp, is_eq, ordering_reverse}
use Rattle.std.specs.declared.cmp.Ordering.{Ordering}
use Rattle.std.proofs.lemmas.Cmp.{tied_itself}
use Rattle.shared_list.specs.declared.change.Change.TheVariants.{Put}
use Rattle.shared_list.proofs.Middle.{second_so, sorted_behind}
use Rattle.keyed_lists.specs.Keyed.{by_key}
use Rattle.keyed_lists.proofs.Effects.{IsApart, IsGiver, effect, find_given}

-- ---- lists

pub all_with : {X : Type 0} (P Q R : X → Type 0) → ((x : X) → P x → Q x → R x) → (xs : List X) → AllByRecursion P xs → AllByRecursion Q xs → AllByRecursion R xs
all_with P Q R both [] p q = tt
all_with P Q R both (x ∷ xs) p q = (both x p.0 q.0, all_with P Q R both xs p.1 q.1)

pub all_each : {X : Type 0} (P Q : X → Type 0) → ((x : X) → P x → Q x) → (xs : List X) → AllByRecursion P xs → AllByRecursion Q xs
all_each P Q weaker [] p = tt
all_each P Q weaker (x ∷ xs) p = (weaker x p.0, all_each P Q weaker xs p.1)

pub all_of : {X : Type 0} (P : X → Type 0) → ((x : X) → P x) → (xs : List X) → AllByRecursion P xs
all_of P each [] = tt
all_of P each (x ∷ xs) = (each x, all_of P each xs)

pub filter_map_flat : {X Y : Type 0} (f : X → Option Y) (xs : List X) → filter_map f xs ≡ flat_map (λ x. option_to_list (f x)) xs
filter_map_flat f [] = refl
filter_map_flat {X} {Y} f (x ∷ xs) = by_option (f x) (filter_map_flat f xs) where
  by_option : (o : Option Y) → filter_map f xs ≡ flat_map (λ x. option_to_list (f x)) xs → cons_option o (filter_map f xs) ≡ option_to_list o ++ flat_map (λ x. option_to_list (f x)) xs
  by_option None rest = rest
  by_option (Some y) rest = ap (λ ys. y ∷ ys) rest

pub filter_map_same : {X Y : Type 0} (f g : X → Option Y) → ((x : X) → f x ≡ g x) → (xs : List X) → filter_map f xs ≡ filter_map g xs
filter_map_same f g same [] = refl
filter_map_same f g same (x ∷ xs) = ap (λ y. cons_option y (filter_map f xs)) (same x) ∙ ap (cons_option (g x)) (filter_map_same f g same xs)

-- ---- orders

pub equal_so : (r : Ordering) → is_eq r ≡ true → r ≡ Equal
equal_so Less e = cc
equal_so Equal e = refl
equal_so Greater e = cc

-- ---- a list in order

module _ {I : Type 0} {cmp : I → I → Ordering} (o : IsTotalOrder cmp) (exact : IsAntisymmetric cmp) where
  pub tie_same : (x y : I) → eq_by_cmp cmp x y ≡ true → x ≡ y
  tie_same x y e = exact x y (equal_so (cmp x y) e)

  pub tie_self : (x : I) → eq_by_cmp cmp x x ≡ true
  tie_self x = ap is_eq (tied_itself o x)

  -- one that ties with a later key does not tie with an earlier one
  above_apart : (q x y : I) → cmp x y ≡ Less → eq_by_cmp cmp q y ≡ true → eq_by_cmp cmp q x ≡ false
  above_apart q x y less tie =
      ap (λ k. eq_by_cmp cmp k x) (tie_same q y tie)
      ∙ ap is_eq (o.antisymm y x ∙ ap ordering_reverse less)

  module _ {V : Type 0} where
    -- what is found under the key of an entry is that entry's
    pub found_own : (q : I) (es : List (I × V)) → T (is_sorted cmp es) → AllByRecursion (λ e. eq_by_cmp cmp q e.0 ≡ true → find cmp q es ≡ Some e.1) es
    found_own q [] h = tt
    found_own q (e ∷ es) h = (
      λ tie. ap (λ b. cond b (Some e.1) (find cmp q es)) tie,
      all_with (λ x. cmp e.0 x.0 ≡ Less) (λ x. eq_by_cmp cmp q x.0 ≡ true → find cmp q es ≡ Some x.1) (λ x. eq_by_cmp cmp q x.0 ≡ true → find cmp q (e ∷ es) ≡ Some x.1)
          (λ x less rest tie. ap (λ b. cond b (Some e.1) (find cmp q es)) (above_apart q e.0 x.0 less tie) ∙ rest tie)
          es (sorted_behind o e es h) (found_own q es (second_so _ _ h)),
    )

    above_none : (q : I) (es : List (I × V)) → AllByRecursion (λ e. cmp q e.0 ≡ Less) es → find cmp q es ≡ None
    above_none q [] all = refl
    above_none q (e ∷ es) all = ap (λ r. cond (is_eq r) (Some e.1) (find cmp q es)) all.0 ∙ above_none q es all.1

    -- after the entry with a key there is none with it
    pub none_after : (q : I) (e : I × V) (es : List (I × V)) → T (is_sorted cmp (e ∷ es)) → eq_by_cmp cmp q e.0 ≡ true → find cmp q es ≡ None
    none_after q e es h tie = ap (λ k. find cmp k es) (tie_same q e.0 tie) ∙ above_none e.0 es (sorted_behind o e es h)

    -- what is found is there under a key that ties
    pub any_found : (q : I) (es : List (I × V)) (v : V) → find cmp q es ≡ Some v → list_any (λ e. eq_by_cmp cmp q e.0) es ≡ true
    any_found q [] v e = cc
    any_found q (e ∷ es) v at = by_tie (eq_by_cmp cmp q e.0) at (λ there. any_found q es v there) where
      by_tie : (b : Bool) → cond b (Some e.1) (find cmp q es) ≡ Some v → (find cmp q es ≡ Some v → list_any (λ x. eq_by_cmp cmp q x.0) es ≡ true) → (b || list_any (λ x. eq_by_cmp cmp q x.0) es) ≡ true
      by_tie true at rest = refl
      by_tie false at rest = rest at

    -- what is true of each entry is true of what is found
    pub found_so : (P : I → V → Type 0) (q : I) (es : List (I × V)) → AllByRecursion (λ e. P e.0 e.1) es → IfSome (find cmp q es) (P q)
    found_so P q [] all = tt
    found_so P q (e ∷ es) all = by_tie (eq_by_cmp cmp q e.0) refl (found_so P q es all.1) where
      by_tie : (b : Bool) → eq_by_cmp cmp q e.0 ≡ b → IfSome (find cmp q es) (P q) → IfSome (cond b (Some e.1) (find cmp q es)) (P q)
      by_tie true tie rest = subst (λ k. P k e.1) (sym (tie_same q e.0 tie)) all.0
      by_tie false tie rest = rest

-- ---- a list of what the entries give, by keys that tell the entry

-- an item, if it has the key
abbrev pub if_tied : {K X : Type 0} → (K → K → Ordering) → (X → K) → K → Option X → Option X
if_tied order key k None = None
if_tied order key k (Some x) = cond (eq_by_cmp order k (key x)) (Some x) None

-- what the value under the key's id gives, if it has the key
abbrev pub given_at : {I V K X : Type 0} → (K → K → Ordering) → (X → K) → (K → I) → (I × V → Option X) → K → Option V → Option X
given_at order key id_in gives k None = None
given_at order key id_in gives k (Some v) = if_tied order key k (gives (id_in k, v))

-- each key that ties with that of an item tells the id
abbrev pub TellsId : {I K X : Type 0} → (K → K → Ordering) → (X → K) → (K → I) → I → Option X → Type 0
TellsId {I} {K} order key id_in id None = Unit {0}
TellsId {I} {K} order key id_in id (Some x) = (k : K) → eq_by_cmp order k (key x) ≡ true → id_in k ≡ id

module _ {I : Type 0} {cmp : I → I → Ordering} (o : IsTotalOrder cmp) (exact : IsAntisymmetric cmp) {V K X : Type 0} {order : K → K → Ordering} (total : IsTotalOrder order) (key : X → K) (id_in : K → I) (gives : I × V → Option X) (k : K) where
  abbrev items_at : Option V → List X
  items_at None = []
  items_at (Some v) = option_to_list (gives (id_in k, v))

  abbrev owns : I × V → Bool
  owns e = eq_by_cmp cmp (id_in k) e.0

  apart_option : (id : I) (given : Option X) → TellsId order key id_in id given → eq_by_cmp cmp (id_in k) id ≡ false → AllByRecursion (IsApart order key k) (option_to_list given)
  apart_option id None tells other = tt
  apart_option id (Some x) tells other = (by_test (eq_by_cmp order k (key x)) refl, tt) where
    by_test : (b : Bool) → eq_by_cmp order k (key x) ≡ b → b ≡ false
    by_test false tie = refl
    by_test true tie = sym (ap (λ i. eq_by_cmp cmp i id) (tells k tie) ∙ tie_self o exact id) ∙ other

  giver : (es : List (I × V)) (e : I × V) → TellsId order key id_in e.0 (gives e) → (owns e ≡ true → find cmp (id_in k) es ≡ Some e.1)
      → IsGiver order key k (λ x. option_to_list (gives x)) owns (items_at (find cmp (id_in k) es)) e
  giver es e tells found = record {
    apart = apart_option e.0 (gives e) tells;
    own = λ tie. ap (λ i. option_to_list (gives (i, e.1))) (sym (tie_same o exact (id_in k) e.0 tie)) ∙ ap items_at (sym (found tie));
  }

  left_at : (given : Option X) → effect order key k (map Put (option_to_list given)) None ≡ if_tied order key k given
  left_at None = refl
  left_at (Some x) = refl

  both_none : (b : Bool) → ◌≡◌ {A = Option X} (cond b None None) None
  both_none true = refl
  both_none false = refl

  by_found : (es : List (I × V)) (found : Option V) → find cmp (id_in k) es ≡ found
      → cond (list_any owns es) (effect order key k (map Put (items_at found)) None) None ≡ given_at order key id_in gives k found
  by_found es None at = both_none (list_any owns es)
  by_found es (Some v) at =
      ap (λ b. cond b (effect order key k (map Put (option_to_list (gives (id_in k, v)))) None) None) (any_found o exact (id_in k) es v at)
      ∙ left_at (gives (id_in k, v))

  -- at a key the list has what the entry of its id gives
  pub find_of_entries : (es : List (I × V)) → T (is_sorted cmp es) → AllByRecursion (λ e. TellsId order key id_in e.0 (gives e)) es → find order k (by_key order key (filter_map gives es)) ≡ given_at order key id_in gives k (find cmp (id_in k) es)
  find_of_entries es h tell =
      ap (λ xs. find order k (by_key order key xs)) (filter_map_flat gives es)
      ∙ find_given total key k (λ e. option_to_list (gives e)) owns (items_at (find cmp (id_in k) es)) es
      (all_with (λ e. TellsId order key id_in e.0 (gives e)) (λ e. owns e ≡ true → find cmp (id_in k) es ≡ Some e.1) (IsGiver order key k (λ x. option_to_list (gives x)) owns (items_at (find cmp (id_in k) es)))
      (giver es) es tell (found_own o exact (id_in k) es h))
      ∙ by_found es (find cmp (id_in k) es) refl
