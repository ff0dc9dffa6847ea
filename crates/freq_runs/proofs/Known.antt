-- The ids that are there already, as more come.
use Rattle.std.proofs.Common.{◌≡◌, ℕ, ◌+◌, ◌<◌, Bool, true, false, not, length, get_or, take, drop, ◌||◌, cond, List, [], ◌∷◌, ◌++◌, refl, sym, ap, ◌∙◌, append_assoc, Option, Some, is_some}
use Rattle.std.specs.Str.{bytes_eq}
use Rattle.std.specs.Bool.{OnTrue}
use Rattle.std.specs.BTreeSet.{BTreeSet, contains_text}
use Rattle.std.specs.declared.alloc.Global.{Global}
use Rattle.std.specs.declared.string.String.{String}
use Rattle.std.proofs.lemmas.List.{take_more, drop_more, map-append}
use Rattle.std.proofs.lemmas.List.Folds.{list_any-append}
use Rattle.freq_runs.specs.declared.rows.Derived.{Derived}
use Rattle.freq_runs.specs.Faults.{has_id, comes_again, ids_of}
use Rattle.freq_runs.specs.Known.{AreIn}

-- an id more
pub has_more : (ids : List (List ℕ)) (more id : List ℕ) → has_id (ids ++ more ∷ []) id ≡ cond (bytes_eq more id) true (has_id ids id)
has_more ids more id = list_any-append (λ other. bytes_eq other id) ids (more ∷ []) ∙ turned (has_id ids id) (bytes_eq more id)
  where
    turned : (a b : Bool) → (a || (b || false)) ≡ cond b true a
    turned true true = refl
    turned true false = refl
    turned false true = refl
    turned false false = refl

-- a look-up after one more was put in
pub found_more : {V : Type 0} (ids : List (List ℕ)) (more id : List ℕ) (before : Option V) (value : V) → is_some before ≡ has_id ids id
    → is_some (cond (bytes_eq more id) (Some value) before) ≡ has_id (ids ++ more ∷ []) id
found_more ids more id before value was = at (bytes_eq more id) ∙ ap (cond (bytes_eq more id) true) was ∙ sym (has_more ids more id)
  where
    at : (b : Bool) → is_some (cond b (Some value) before) ≡ cond b true (is_some before)
    at true = refl
    at false = refl

-- whether either of two parts has an id
pub has_both : (others before : List (List ℕ)) (id : List ℕ) (a b : Bool) → has_id others id ≡ a → has_id before id ≡ b → has_id (others ++ before) id ≡ (a || b)
has_both others before id a b first second = list_any-append (λ other. bytes_eq other id) others before ∙ ap (λ c. c || has_id before id) first ∙ ap (λ c. a || c) second

-- an id more in a set
pub put_in : (set after : BTreeSet (String Global)) (ids : List (List ℕ)) (key id : List ℕ) → key ≡ id → ((other : List ℕ) → contains_text after other ≡ cond (bytes_eq key other) true (contains_text set other))
    → AreIn set ids → AreIn after (ids ++ id ∷ [])
put_in set after ids key id is puts there = record {
  found = λ other. puts other ∙ ap (cond (bytes_eq key other) true) (there.found other) ∙ ap (λ k. cond (bytes_eq k other) true (has_id ids other)) is ∙ sym (has_more ids id other);
}

pub on_true : {P : Type 0} (b : Bool) → P → OnTrue b P
on_true true p = p
on_true false p = tt

-- the ids before, and the next one
pub again_here : (others before : List (List ℕ)) (id : List ℕ) (ids : List (List ℕ)) → has_id (others ++ before) id ≡ true → comes_again (others ++ before) (id ∷ ids) ≡ true
again_here others before id ids known = ap (λ b. b || comes_again ((others ++ before) ++ id ∷ []) ids) known

pub again_later : (others before : List (List ℕ)) (id : List ℕ) (ids : List (List ℕ)) → has_id (others ++ before) id ≡ false → comes_again (others ++ before) (id ∷ ids) ≡ comes_again (others ++ (before ++ id ∷ [])) ids
again_later others before id ids unknown =
    ap (λ b. b || comes_again ((others ++ before) ++ id ∷ []) ids) unknown
    ∙ ap (λ known. comes_again known ids) (append_assoc others before (id ∷ []))

pub from_true : {P : Type 0} (b : Bool) → b ≡ true → OnTrue b P → P
from_true true is p = p
from_true false is p = absurd cc

pub not_true : (b : Bool) → true ≡ not b → b ≡ false
not_true true e = absurd cc
not_true false e = refl

pub not_false : (b : Bool) → false ≡ not b → b ≡ true
not_false true e = refl
not_false false e = absurd cc

module _ (trips : List Derived) (place : ℕ) (trip : Derived) (l : place < length trips) (is : trip ≡ get_or trips place trip) where
  -- the ids up to the next trip
  pub ids_more : (before : List (List ℕ)) → before ++ ids_of (take (place + 1) trips) ≡ (before ++ ids_of (take place trips)) ++ trip.id ∷ []
  ids_more before =
      ap (λ ts. before ++ ids_of ts) (take_more trips place trip l ∙ ap (λ t. take place trips ++ t ∷ []) (sym is))
      ∙ ap (λ ids. before ++ ids) (map-append (λ t. t.id) (take place trips) (trip ∷ []))
      ∙ sym (append_assoc before (ids_of (take place trips)) (trip.id ∷ []))

  -- the ids from it on
  pub ids_left : ids_of (drop place trips) ≡ trip.id ∷ ids_of (drop (place + 1) trips)
  ids_left = ap ids_of (drop_more trips place trip l ∙ ap (λ t. t ∷ drop (place + 1) trips) (sym is))
