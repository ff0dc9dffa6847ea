-- The first fault of the rows of a file, row by row.
use Rattle.std.proofs.Common.{◌≡◌, ℕ, zero, suc, ◌+◌, ◌≤◌, Bool, true, false, List, [], ◌∷◌, length, take, drop, refl, sym, ap, ◌∙◌, arith}
use Rattle.std.specs.Prelude.{slice_get, Option, Some, None, Ok, Err, if◌then◌else◌, option_map}
use Rattle.std.specs.List.{list_any, enumerate_from}
use Rattle.std.proofs.lemmas.Option.{none-some as none_some, same_Some}
use Rattle.answer_defs.specs.Steps.{unless}
use Rattle.answer_defs.specs.Choices.{or_else}
use Rattle.gtfs_rows.specs.declared.column.Column.{Column}
use Rattle.sched_load_defs.specs.declared.fault.File.{File}
use Rattle.sched_load_defs.specs.declared.fault.LoadFault.{LoadFault}
use Rattle.sched_load_defs.specs.declared.fault.LoadFault.TheVariants as fault
use Rattle.sched_load_defs.specs.References.{first_fault, row_fault, row_at, consistent}

-- a list from a place on begins with what stands there
pub drop_at : {X : Type 0} (xs : List X) (n : ℕ) (x : X) → slice_get xs n ≡ Some x → drop n xs ≡ x ∷ drop (n + 1) xs
drop_at [] n x e = absurd (none_some x e)
drop_at (y ∷ ys) zero x e = ap (λ z. z ∷ ys) (same_Some _ _ e)
drop_at (y ∷ ys) (suc n) x e = let more : suc n + 1 ≡ suc (n + 1) = omega arith in drop_at ys n x e ∙ ap (λ k. x ∷ drop k (y ∷ ys)) (sym more)

pub drop_past : {X : Type 0} (xs : List X) (n : ℕ) → length xs ≤ n → drop n xs ≡ []
drop_past [] zero h = refl
drop_past [] (suc n) h = refl
drop_past (x ∷ xs) zero h = absurd (omega (arith, h))
drop_past (x ∷ xs) (suc n) h = drop_past xs n (omega (arith, h))

-- the first fault of items from a place on
abbrev pub faults_from : {X : Type 0} → (ℕ × X → Option LoadFault) → List X → ℕ → Option LoadFault
faults_from f xs n = first_fault f (enumerate_from n (drop n xs))

pub fault_at : {X : Type 0} (f : ℕ × X → Option LoadFault) (xs : List X) (n : ℕ) (x : X) (e : LoadFault) → slice_get xs n ≡ Some x → f (n, x) ≡ Some e → faults_from f xs n ≡ Some e
fault_at f xs n x e at is = ap (λ rest. first_fault f (enumerate_from n rest)) (drop_at xs n x at) ∙ ap (λ o. or_else o (first_fault f (enumerate_from (n + 1) (drop (n + 1) xs)))) is

pub fault_behind : {X : Type 0} (f : ℕ × X → Option LoadFault) (xs : List X) (n : ℕ) (x : X) → slice_get xs n ≡ Some x → f (n, x) ≡ None → faults_from f xs n ≡ faults_from f xs (n + 1)
fault_behind f xs n x at is = ap (λ rest. first_fault f (enumerate_from n rest)) (drop_at xs n x at) ∙ ap (λ o. or_else o (first_fault f (enumerate_from (n + 1) (drop (n + 1) xs)))) is

pub no_fault : {X : Type 0} (f : ℕ × X → Option LoadFault) (xs : List X) (n : ℕ) → length xs ≤ n → faults_from f xs n ≡ None
no_fault f xs n h = ap (λ rest. first_fault f (enumerate_from n rest)) (drop_past xs n h)

module _ {R : Type 0} (name : File) (unknown : R → Option Column) (same : R → R → Bool) (rows : List R) where
  -- what is told of all rows is what is told of those from a place on
  pub record Judged (n : ℕ) : Type 0 where
    pub told : faults_from (row_fault name unknown same rows) rows 0 ≡ faults_from (row_fault name unknown same rows) rows n

  refused : (e : LoadFault) → faults_from (row_fault name unknown same rows) rows 0 ≡ Some e → consistent name unknown same rows ≡ Err e
  refused e h = ap (λ o. unless o rows) h

  pub judged_start : Judged 0
  judged_start = record { told = refl }

  row_unknown : (n : ℕ) (row : R) (column : Column) → unknown row ≡ Some column → row_fault name unknown same rows (n, row) ≡ Some (fault.UnknownRef name (row_at n) column)
  row_unknown n row column u = ap (λ o. or_else (option_map (λ c. fault.UnknownRef name (row_at n) c) o) (if list_any (λ e. same e row) (take n rows) then Some (fault.Duplicate name (row_at n)) else None)) u

  row_judged : (n : ℕ) (row : R) (twin : Bool) → unknown row ≡ None → list_any (λ e. same e row) (take n rows) ≡ twin → row_fault name unknown same rows (n, row) ≡ (if twin then Some (fault.Duplicate name (row_at n)) else None)
  row_judged n row twin u t =
      ap (λ o. or_else (option_map (λ c. fault.UnknownRef name (row_at n) c) o) (if list_any (λ e. same e row) (take n rows) then Some (fault.Duplicate name (row_at n)) else None)) u
      ∙ ap (λ b. if b then Some (fault.Duplicate name (row_at n)) else None) t

  pub judged_unknown : (n : ℕ) (row : R) (column : Column) → Judged n → slice_get rows n ≡ Some row → unknown row ≡ Some column → consistent name unknown same rows ≡ Err (fault.UnknownRef name (row_at n) column)
  judged_unknown n row column j at u = refused _ (j.told ∙ fault_at (row_fault name unknown same rows) rows n row _ at (row_unknown n row column u))

  pub judged_twin : (n : ℕ) (row : R) → Judged n → slice_get rows n ≡ Some row → unknown row ≡ None → list_any (λ e. same e row) (take n rows) ≡ true → consistent name unknown same rows ≡ Err (fault.Duplicate name (row_at n))
  judged_twin n row j at u t = refused _ (j.told ∙ fault_at (row_fault name unknown same rows) rows n row _ at (row_judged n row true u t))

  pub judged_more : (n : ℕ) (row : R) → Judged n → slice_get rows n ≡ Some row → unknown row ≡ None → list_any (λ e. same e row) (take n rows) ≡ false → Judged (n + 1)
  judged_more n row j at u t = record { told = j.told ∙ fault_behind (row_fault name unknown same rows) rows n row at (row_judged n row false u t) }

  pub judged_all : (n : ℕ) → length rows ≤ n → Judged n → consistent name unknown same rows ≡ Ok rows
  judged_all n h j = ap (λ o. unless o rows) (j.told ∙ no_fault (row_fault name unknown same rows) rows n h)
