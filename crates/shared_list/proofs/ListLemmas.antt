-- What a list's nodes make of its count, its items and its order.
use Rattle.std.proofs.Common.{◌≡◌, ℕ, ◌+◌, ◌-◌, List, [], ◌∷◌, Bool, true, false, cond, not, Option, Some, None, length, refl, sym, ap, ◌∙◌, subst, arith}
use Rattle.std.specs.Prelude.{T, is_some, if◌then◌else◌}
use Rattle.std.specs.Cmp.{IsTotalOrder}
use Rattle.std.specs.Option.{option_copied}
use Rattle.std.specs.Ordering.{eq_by_cmp}
use Rattle.std.specs.declared.cmp.Ordering.{Ordering}
use Rattle.std.specs.FinMap.{find, put, is_sorted}
use Rattle.std.specs.FinMap.Entries.{is_sorted-put, is_sorted-where_key, length-put, length_without}
use Rattle.std.specs.declared.sync.Arc.{Arc}
use Rattle.std.specs.declared.alloc.Global.{Global}
use Rattle.shared_list.specs.declared.leaf.Leaf.{Leaf}
use Rattle.shared_list.specs.declared.node.Node.{Node}
use Rattle.shared_list.specs.Order.{entries, item_with, without, Rises}
use denote.Ref.{Bor}
use Rattle.shared_list.specs.Parts.{items_in, node_items, IsFilled, AreSound, AreNodes}

one_less : (was_there : Bool) (before left all len : ℕ) → len ≡ (if was_there then before - 1 else before) → before ≡ all → cond was_there 1 0 + left ≡ all → len ≡ left
one_less true before left all len count own taken = omega arith
one_less false before left all len count own taken = omega arith

module _ {K X : Type 0} {cmp : K → K → Ordering} (o : IsTotalOrder cmp) (key : X → K) (stamp : X → ℕ) where
  pub AreNodes-put : (old new : List (Arc (Node (Leaf X)) Global)) (k : K) (v : X) (replaced : Option X) (before len : ℕ) → AreNodes cmp key stamp old before → replaced ≡ item_with cmp key k (items_in node_items old) → len ≡ (if is_some replaced then before else before + 1) → entries key (items_in node_items new) ≡ put cmp k v (entries key (items_in node_items old)) → AreSound node_items (IsFilled stamp) new → AreNodes cmp key stamp new len
  AreNodes-put old new k v replaced before len are told count is sound =
      let es = entries key (items_in node_items old) in
      record {
        sound = sound;
        rising = record { sorted = subst (λ xs. T (is_sorted cmp xs)) (sym is) (is_sorted-put cmp o k v es are.rising.sorted) };
        counted =
            count
            ∙ ap (λ (held : Option X). if is_some held then before else before + 1) told
            ∙ ap (λ n. if is_some (item_with cmp key k (items_in node_items old)) then n else n + 1) are.counted
            ∙ sym (ap length is ∙ length-put cmp o k v es are.rising.sorted);
      }

  pub AreNodes-without : (old new : List (Arc (Node (Leaf X)) Global)) (k : K) (taken : Option X) (before len : ℕ) → AreNodes cmp key stamp old before → taken ≡ item_with cmp key k (items_in node_items old) → len ≡ (if is_some taken then before - 1 else before) → entries key (items_in node_items new) ≡ without cmp k (entries key (items_in node_items old)) → AreSound node_items (IsFilled stamp) new → AreNodes cmp key stamp new len
  AreNodes-without old new k taken before len are told count is sound =
      let es = entries key (items_in node_items old) in
      record {
        sound = sound;
        rising = record { sorted = subst (λ xs. T (is_sorted cmp xs)) (sym is) (is_sorted-where_key cmp (λ x. not (eq_by_cmp cmp k x)) es are.rising.sorted) };
        counted =
            one_less (is_some taken) before (length (without cmp k es)) (length es) len count are.counted
            (ap (λ (held : Option X). cond (is_some held) 1 0 + length (without cmp k es)) told ∙ length_without cmp o k es are.rising.sorted)
            ∙ sym (ap length is);
      }

  -- shares of the same nodes are the same list
  pub AreNodes-same : (old new : List (Arc (Node (Leaf X)) Global)) (len : ℕ) → items_in node_items new ≡ items_in node_items old → AreSound node_items (IsFilled stamp) new → AreNodes cmp key stamp old len → AreNodes cmp key stamp new len
  AreNodes-same old new len same sound are = record {
    sound = sound;
    rising = subst (λ xs. Rises cmp key xs) (sym same) are.rising;
    counted = subst (λ xs. len ≡ length (entries key xs)) (sym same) are.counted;
  }

-- what isn't found isn't taken away
pub without_absent : {K X : Type 0} (cmp : K → K → Ordering) (k : K) (es : List (K × X)) → find cmp k es ≡ None → without cmp k es ≡ es
without_absent cmp k [] h = refl
without_absent {K} {X} cmp k (e ∷ es) h = by_tie (eq_by_cmp cmp k e.0) h (without_absent cmp k es)
  where
    by_tie : (t : Bool) → cond t (Some e.1) (find cmp k es) ≡ None → (find cmp k es ≡ None → without cmp k es ≡ es) → cond (not t) (e ∷ without cmp k es) (without cmp k es) ≡ e ∷ es
    by_tie true g rest = absurd (not_none g)
      where
        not_none : Some e.1 ≡ None → ⊥
        not_none e = cc
    by_tie false g rest = ap (λ xs. e ∷ xs) (rest g)

-- `is_none` as std tells it
pub absent : {X : Type 0} (got : Option (Bor X)) (found : Option X) (asked : Bool) → option_copied got ≡ found → is_some got ≡ not asked → asked ≡ true → found ≡ None
absent None found asked e is none = sym e
absent (Some x) found asked e is none = absurd (apart (is ∙ ap not none))
  where
    apart : true ≡ false → ⊥
    apart h = cc
