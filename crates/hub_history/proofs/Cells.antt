-- The cells of a book.
use Rattle.std.proofs.Common.{◌≡◌, ◌≢◌, ℕ, zero, suc, ◌+◌, ◌<◌, ◌≤◌, Bool, true, false, List, [], ◌∷◌, ◌++◌, length, get_or, set, refl, sym, ap, ◌∙◌, subst, arith}
use Rattle.std.proofs.lemmas.List.{get_or-set_same, get_or-set_other, set-get_or, length-set}
use Rattle.logbook.specs.Pages.{Cell, cell}

-- a cell beyond the end reads as one that is away
pub cell_past : (cs : List Cell) (k : ℕ) → length cs ≤ k → cell cs k ≡ (0, false)
cell_past [] k late = refl
cell_past (c ∷ cs) zero late = absurd (omega arith)
cell_past (c ∷ cs) (suc k) late = cell_past cs k (omega arith)

-- one more that is away at the end changes none
pub cell_snoc : (cs : List Cell) (k : ℕ) → cell (cs ++ (0, false) ∷ []) k ≡ cell cs k
cell_snoc [] zero = refl
cell_snoc [] (suc k) = refl
cell_snoc (c ∷ cs) zero = refl
cell_snoc (c ∷ cs) (suc k) = cell_snoc cs k

pub cell_set : (cs : List Cell) (i : ℕ) (c : Cell) → i < length cs → cell (set cs i c) i ≡ c
cell_set cs i c within = get_or-set_same cs i c (0, false) within

pub cell_else : (cs : List Cell) (i j : ℕ) (c : Cell) → j ≢ i → cell (set cs i c) j ≡ cell cs j
cell_else cs i j c other = get_or-set_other cs i j c (0, false) other

-- a word that is written as it was
pub same_word : (cs : List Cell) (i : ℕ) (c : Cell) → cell cs i ≡ c → set cs i c ≡ cs
same_word cs i c is = ap (λ (d : Cell). set cs i d) (sym is) ∙ set-get_or cs i (0, false)
