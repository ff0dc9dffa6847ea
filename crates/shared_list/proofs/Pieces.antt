-- What stands in leaves and nodes that are made of pieces of a list.
use Rattle.std.proofs.Common.{◌≡◌, ℕ, ◌<◌, List, [], ◌∷◌, ◌++◌, length, take, drop, reverse, refl, sym, ap, ◌∙◌, subst, arith, append_assoc, append-nil}
use Rattle.std.specs.Prelude.{Vec}
use Rattle.std.specs.List.{AllByRecursion, flat_map}
use Rattle.std.specs.declared.sync.Arc.{Arc}
use Rattle.std.specs.declared.alloc.Global.{Global}
use Rattle.std.proofs.lemmas.List.{length-drop, reverse-append, take-append-drop}
use Rattle.shared_list.specs.declared.leaf.Leaf.{Leaf}
use Rattle.shared_list.specs.declared.node.Node.{Node}
use Rattle.shared_list.specs.Parts.{items_in, leaf_items, node_items, AreSound, IsDated, IsFilled}
use Rattle.shared_list.proofs.PartLemmas.{Good, join_parts, sound_front, sound_back, some_items}
use Rattle.shared_list.proofs.Each.{each_push}

-- what pieces have, one after another
abbrev pub pieces_items : {X : Type 0} → List (Vec X Global) → List X
pieces_items pieces = flat_map (λ piece. piece.items) pieces

abbrev pub AreFilled : {X : Type 0} → List (Vec X Global) → Type 0
AreFilled pieces = AllByRecursion (λ piece. 0 < length piece.items) pieces

-- pieces that were cut from the end of a list, the last of them first, and what is left of it
pub record IsCut {X : Type 0} (all left : List X) (pieces : List (Vec X Global)) : Type 0 where
  pub whole : left ++ pieces_items (reverse pieces) ≡ all
  pub filled : AreFilled (reverse pieces)

pub cut_goes_on : {X : Type 0} (all left kept : List X) (at : ℕ) (piece : Vec X Global) (pieces more : List (Vec X Global)) → IsCut all left pieces → at < length left → kept ≡ take at left → piece.items ≡ drop at left → more ≡ pieces ++ piece ∷ [] → IsCut all kept more
cut_goes_on all left kept at piece pieces more so_far less front back pushed = record {
  whole =
      ap (λ ps. kept ++ pieces_items ps) turned
      ∙ sym (append_assoc kept piece.items (pieces_items (reverse pieces)))
      ∙ ap (λ xs. xs ++ pieces_items (reverse pieces)) joined
      ∙ so_far.whole;
  filled = subst (λ ps. AreFilled ps) (sym turned) (some, so_far.filled);
}
  where
    turned : reverse more ≡ piece ∷ reverse pieces
    turned = ap reverse pushed ∙ reverse-append pieces (piece ∷ [])

    joined : kept ++ piece.items ≡ left
    joined = ap (λ xs. xs ++ piece.items) front ∙ ap (λ xs. take at left ++ xs) back ∙ take-append-drop at left

    some : 0 < length piece.items
    some = let long = ap length back ∙ length-drop at left in omega (arith, long, less)

-- ---- parts that are made of pieces, one of each

module _ {P X Y : Type 0} (items : P → List X) (sound : P → Type 0) (given : Vec Y Global → List X) (Fits : Vec Y Global → Type 0) where
  -- parts that were made, and the pieces that are left
  pub record MadeSoFar (parts : List (Arc P Global)) (left all : List (Vec Y Global)) : Type 0 where
    pub whole : items_in items parts ++ flat_map given left ≡ flat_map given all
    pub good : AreSound items sound parts
    pub fit : AllByRecursion Fits left

  pub made_begins : (parts : List (Arc P Global)) (left pieces : List (Vec Y Global)) → parts ≡ [] → left ≡ pieces → AllByRecursion Fits pieces → MadeSoFar parts left pieces
  made_begins parts left pieces none same fit = record {
    whole = ap (λ ps. items_in items ps ++ flat_map given left) none ∙ ap (flat_map given) same;
    good = subst (λ ps. AreSound items sound ps) (sym none) tt;
    fit = subst (λ ps. AllByRecursion Fits ps) (sym same) fit;
  }

  pub made_first : (parts : List (Arc P Global)) (left rest all : List (Vec Y Global)) (piece : Vec Y Global) → MadeSoFar parts left all → left ≡ piece ∷ rest → Fits piece
  made_first parts left rest all piece so_far first = (subst (λ ps. AllByRecursion Fits ps) first so_far.fit).0

  pub made_goes_on : (parts more : List (Arc P Global)) (left rest all : List (Vec Y Global)) (piece : Vec Y Global) (part : Arc P Global) → MadeSoFar parts left all → left ≡ piece ∷ rest → items part.value ≡ given piece → sound part.value → 0 < length (given piece) → more ≡ parts ++ part ∷ [] → MadeSoFar more rest all
  made_goes_on parts more left rest all piece part so_far first same good some pushed = record {
    whole =
        ap (λ ps. items_in items ps ++ flat_map given rest) pushed
        ∙ ap (λ xs. xs ++ flat_map given rest) (sym (join_parts items parts (part ∷ []) _ refl))
        ∙ append_assoc (items_in items parts) (items part.value ++ []) (flat_map given rest)
        ∙ ap (λ xs. items_in items parts ++ (xs ++ flat_map given rest)) (append-nil (items part.value) ∙ same)
        ∙ ap (λ ps. items_in items parts ++ flat_map given ps) (sym first)
        ∙ so_far.whole;
    good = subst (λ ps. AreSound items sound ps) (sym pushed)
        (each_push (Good items sound) parts part so_far.good (good, subst (λ xs. 0 < length xs) (sym same) some));
    fit = (subst (λ ps. AllByRecursion Fits ps) first so_far.fit).1;
  }

  pub made_ends : (parts : List (Arc P Global)) (left all : List (Vec Y Global)) → MadeSoFar parts left all → left ≡ [] → items_in items parts ≡ flat_map given all
  made_ends parts left all so_far none =
      sym (append-nil (items_in items parts)) ∙ ap (λ ps. items_in items parts ++ flat_map given ps) (sym none) ∙ so_far.whole

-- leaves are made of items
abbrev pub LeavesSoFar : {X : Type 0} → (X → ℕ) → List (Arc (Leaf X) Global) → List (Vec X Global) → List (Vec X Global) → Type 0
LeavesSoFar stamp = MadeSoFar leaf_items (IsDated stamp) (λ piece. piece.items) (λ piece. 0 < length piece.items)

-- nodes are made of leaves
module _ {X : Type 0} (stamp : X → ℕ) where
  abbrev pub in_leaves : Vec (Arc (Leaf X) Global) Global → List X
  in_leaves piece = items_in leaf_items piece.items

  abbrev pub FitsNode : Vec (Arc (Leaf X) Global) Global → Type 0
  FitsNode piece = (AreSound leaf_items (IsDated stamp) piece.items) × (0 < length (in_leaves piece))

  abbrev pub NodesSoFar : List (Arc (Node (Leaf X)) Global) → List (Vec (Arc (Leaf X) Global) Global) → List (Vec (Arc (Leaf X) Global) Global) → Type 0
  NodesSoFar = MadeSoFar node_items (IsFilled stamp) in_leaves FitsNode

  pub all_in_leaves : (pieces : List (Vec (Arc (Leaf X) Global) Global)) → flat_map in_leaves pieces ≡ items_in leaf_items (pieces_items pieces)
  all_in_leaves [] = refl
  all_in_leaves (p ∷ ps) =
      ap (λ xs. in_leaves p ++ xs) (all_in_leaves ps) ∙ join_parts leaf_items p.items (pieces_items ps) _ refl

  pub fit_nodes : (pieces : List (Vec (Arc (Leaf X) Global) Global)) → AreFilled pieces → AreSound leaf_items (IsDated stamp) (pieces_items pieces) → AllByRecursion FitsNode pieces
  fit_nodes [] filled good = tt
  fit_nodes (p ∷ ps) filled good =
      let own = sound_front leaf_items (IsDated stamp) p.items (pieces_items ps) (p.items ++ pieces_items ps) refl good in
      ((own, some_items leaf_items (IsDated stamp) p.items own filled.0), fit_nodes ps filled.1 (sound_back leaf_items (IsDated stamp) p.items (pieces_items ps) (p.items ++ pieces_items ps) refl good))
