-- Lists whose keys are texts, in the words of texts.
use Rattle.std.proofs.Common.{◌≡◌, ℕ, List, [], ◌∷◌, cond, not, filter, refl, ap, ◌∙◌}
use Rattle.std.specs.Cmp.Lexicographic.{slice_cmp}
use Rattle.std.specs.Ordering.{nat_cmp}
use Rattle.std.specs.Str.{bytes_eq}
use Rattle.std.proofs.lemmas.Map.Text.{is_eq-slice_cmp}
use Rattle.shared_list.specs.Order.{without}

-- the entries of other texts
pub without-texts : {X : Type 0} (k : List ℕ) (es : List (List ℕ × X)) → without (slice_cmp nat_cmp) k es ≡ filter (λ e. not (bytes_eq k e.0)) es
without-texts k [] = refl
without-texts {X} k (e ∷ es) =
    ap (λ b. cond (not b) (e ∷ without (slice_cmp nat_cmp) k es) (without (slice_cmp nat_cmp) k es)) (is_eq-slice_cmp k e.0)
    ∙ ap (λ (rest : List (List ℕ × X)). cond (not (bytes_eq k e.0)) (e ∷ rest) rest) (without-texts k es)
