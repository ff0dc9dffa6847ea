-- A view that is found in the list is what was said at its number.
use Rattle.std.proofs.Common.{◌≡◌, ℕ, List, Bool, Option, Some, None, refl, sym, ap, ◌∙◌}
use Rattle.std.specs.Prelude.{is_some}
use Rattle.std.specs.List.{find}
use Rattle.std.specs.Option.{option_map}
use Rattle.board_defs.specs.Fold.{FeedFold}
use Rattle.delta_defs.specs.Kept.{KeptView, is_numbered, folds_at}

folds_of_some : (o : Option KeptView) → is_some (option_map (λ v. v.folds) o) ≡ is_some o
folds_of_some None = refl
folds_of_some (Some v) = refl

-- it is kept just where it is found
pub found_is : (views : List KeptView) (number : ℕ) (o : Option KeptView) (b : Bool) → b ≡ is_some o → o ≡ find (is_numbered number) views → b ≡ is_some (folds_at number views)
found_is views number o b is found = is ∙ ap is_some found ∙ sym (folds_of_some (find (is_numbered number) views))

some_is : (a b : List FeedFold) → Some a ≡ Some b → a ≡ b
some_is a b e = cc

pub found_folds : (views : List KeptView) (number : ℕ) (v : KeptView) (old : List FeedFold) → Some v ≡ find (is_numbered number) views → folds_at number views ≡ Some old → v.folds ≡ old
found_folds views number v old found at = some_is v.folds old (ap (option_map (λ x. x.folds)) found ∙ at)

pub none_at : (views : List KeptView) (number : ℕ) (old : List FeedFold) → None ≡ find (is_numbered number) views → folds_at number views ≡ Some old → ⊥
none_at views number old none at = nothing (ap (option_map (λ x. x.folds)) none ∙ at)
  where
    nothing : ◌≡◌ {A = Option (List FeedFold)} None (Some old) → ⊥
    nothing e = cc
