-- What changes make of a list in order: it stays in order, and a key has what the last change of it left there.
use Rattle.std.proofs.Common.{◌≡◌, List, [], ◌∷◌, Bool, true, false, cond, not, Option, Some, None, refl, sym, ap, ◌∙◌}
use Rattle.std.specs.Prelude.{T}
use Rattle.std.specs.Cmp.{IsTotalOrder}
use Rattle.std.specs.Ordering.{is_eq, eq_by_cmp}
use Rattle.std.specs.declared.cmp.Ordering.{Ordering}
use Rattle.std.specs.FinMap.{find, is_sorted}
use Rattle.std.specs.FinMap.Entries.{is_sorted-put, is_sorted-where_key, find-put, find-where_key}
use Rattle.std.proofs.lemmas.Cmp.{alike_right, eq_by_cmp_equiv}
use Rattle.shared_list.specs.declared.change.Change.{Change}
use Rattle.shared_list.specs.declared.change.Change.TheVariants.{Put, Remove}
use Rattle.shared_list.specs.Changes.{after_change, after_changes}

module _ {K X Q : Type 0} {cmp : K → K → Ordering} (o : IsTotalOrder cmp) (key : X → K) (sought : Q → K) where
  -- the key that a change is about, and what it leaves there
  abbrev pub changed_key : Change X Q → K
  changed_key (Put x) = key x
  changed_key (Remove q) = sought q

  abbrev pub left_there : Change X Q → Option X
  left_there (Put x) = Some x
  left_there (Remove q) = None

  pub sorted-change : (es : List (K × X)) (c : Change X Q) → T (is_sorted cmp es) → T (is_sorted cmp (after_change cmp key sought es c))
  sorted-change es (Put x) h = is_sorted-put cmp o (key x) x es h
  sorted-change es (Remove q) h = is_sorted-where_key cmp (λ other. not (eq_by_cmp cmp (sought q) other)) es h

  pub sorted-changes : (es : List (K × X)) (cs : List (Change X Q)) → T (is_sorted cmp es) → T (is_sorted cmp (after_changes cmp key sought es cs))
  sorted-changes es [] h = h
  sorted-changes es (c ∷ cs) h = sorted-changes (after_change cmp key sought es c) cs (sorted-change es c h)

  pub find-change : (k : K) (es : List (K × X)) (c : Change X Q) → find cmp k (after_change cmp key sought es c) ≡ cond (eq_by_cmp cmp k (changed_key c)) (left_there c) (find cmp k es)
  find-change k es (Put x) = find-put cmp o k (key x) x es
  find-change k es (Remove q) =
      find-where_key cmp (λ other. not (eq_by_cmp cmp (sought q) other)) k (λ x tie. ap (λ r. not (is_eq r)) (sym (alike_right o k x (sought q) tie))) es
      ∙ other_way (eq_by_cmp cmp (sought q) k)
      ∙ ap (λ b. cond b None (find cmp k es)) ((eq_by_cmp_equiv o).symm (sought q) k)
    where
      other_way : (b : Bool) → cond (not b) (find cmp k es) None ≡ cond b None (find cmp k es)
      other_way true = refl
      other_way false = refl
