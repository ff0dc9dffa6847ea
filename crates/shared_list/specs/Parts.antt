-- The parts of a list, as the lists that they are.
use Rattle.std.specs.Prelude.{◌≡◌, ℕ, ◌<◌, List, [], ◌∷◌, ◌++◌, length, map, Option, Some, None, Bool, true, false, refl}
use Rattle.std.proofs.Common.{◌∙◌, arith}
use Rattle.std.specs.Global.{Vec}
use Rattle.std.specs.List.{flat_map, AllByRecursion}
use Rattle.std.specs.declared.cmp.Ordering.{Ordering}
use Rattle.std.specs.declared.sync.Arc.{Arc}
use Rattle.std.specs.declared.alloc.Global.{Global}
use Rattle.shared_list.specs.declared.leaf.Leaf.{Leaf}
use Rattle.shared_list.specs.declared.node.Node.{Node}
use Rattle.shared_list.specs.Order.{at_first, entries, Rises}
use Rattle.shared_list.specs.Stamps.{NoneAbove}

-- the items of each part that is shared
abbrev pub parts_of : {P X : Type 0} → (P → List X) → List (Arc P Global) → List (List X)
parts_of items shares = map (λ share. items share.value) shares

-- the same one after another
abbrev pub items_in : {P X : Type 0} → (P → List X) → List (Arc P Global) → List X
items_in items shares = flat_map (λ part. part) (parts_of items shares)

-- the items of a part, if there is one
abbrev pub items_if_some : {P X : Type 0} → (P → List X) → Option P → List X
items_if_some items None = []
items_if_some items (Some rest) = items rest

-- whether no items are left
abbrev pub TellsLeft : {X : Type 0} → Bool → List X → Type 0
TellsLeft true xs = xs ≡ []
TellsLeft false xs = 0 < length xs

-- each part is sound, and not empty
abbrev pub AreSound : {P X : Type 0} → (P → List X) → (P → Type 0) → List (Arc P Global) → Type 0
AreSound items sound shares =
    AllByRecursion (λ share. (sound share.value) × (0 < length (items share.value))) shares

-- the first part stands to a key as the first item of all does
pub first_leads : {P X : Type 0} (items : P → List X) (sound : P → Type 0) (part_order : P
    → Ordering) (item_order : X → Ordering) → ((part : P) → sound part
    → part_order part ≡ at_first item_order (items part)) → (shares : List (Arc P Global))
    → AreSound items sound shares
    → at_first (λ share. part_order share.value) shares
    ≡ at_first item_order (items_in items shares)
first_leads items sound part_order item_order leads [] are = refl
first_leads {P} {X} items sound part_order item_order leads (share ∷ shares) are =
    leads share.value are.0.0 ∙ before (items share.value) (items_in items shares) are.0.1
  where
    before : (front back : List X) → 0 < length front
        → at_first item_order front ≡ at_first item_order (front ++ back)
    before [] back some = absurd (omega arith)
    before (x ∷ xs) back some = refl

-- the items of leaves, and of nodes of leaves
abbrev pub leaf_items : {X : Type 0} → Leaf X → List X
leaf_items leaf = leaf.items.items

-- no item is newer than the leaf says
abbrev pub IsDated : {X : Type 0} → (X → ℕ) → Leaf X → Type 0
IsDated stamp leaf = NoneAbove stamp leaf.newest leaf.items.items

-- each part of a node is sound, and no item is newer than the node says
abbrev pub IsNode : {P X : Type 0} → (P → List X) → (P → Type 0) → (X → ℕ) → Node P → Type 0
IsNode items sound stamp node =
    (AreSound items sound node.parts.items)
    × (NoneAbove stamp node.newest (items_in items node.parts.items))

abbrev pub node_items : {X : Type 0} → Node (Leaf X) → List X
node_items node = items_in leaf_items node.parts.items

abbrev pub IsFilled : {X : Type 0} → (X → ℕ) → Node (Leaf X) → Type 0
IsFilled stamp node = IsNode leaf_items (IsDated stamp) stamp node

-- the nodes of a list, which has none before it has an item
abbrev pub nodes_of : {X : Type 0} → Option (Arc (Vec (Arc (Node (Leaf X)) Global)) Global)
    → List (Arc (Node (Leaf X)) Global)
nodes_of None = []
nodes_of (Some shared) = shared.value.items

-- what is true of the nodes of a list with so many items
pub record AreNodes {K X : Type 0} (cmp : K → K → Ordering) (key : X
    → K) (stamp : X → ℕ) (nodes : List (Arc (Node (Leaf X)) Global)) (len : ℕ) : Type 0 where
  pub sound : AreSound node_items (IsFilled stamp) nodes
  pub rising : Rises cmp key (items_in node_items nodes)
  pub counted : len ≡ length (entries key (items_in node_items nodes))
