-- Rows of which no two have one key, and these in order.
use Rattle.std.specs.Prelude.{◌≡◌, ℕ, ◌<◌, ◌≤◌, List, count_by, Some, slice_get, IsPermutation}
use Rattle.std.specs.Cmp.Lexicographic.{slice_cmp}
use Rattle.std.specs.Ordering.{nat_cmp, is_eq}
use Rattle.std.specs.declared.cmp.Ordering.{Ordering}
use Rattle.std.specs.declared.cmp.Ordering.TheVariants.{Less}
use Rattle.sched_load_defs.specs.Numbers.{rows_by_key}

-- how ids stand to one another: in byte order
abbrev pub text_cmp : List ℕ → List ℕ → Ordering
text_cmp = slice_cmp nat_cmp

-- each key is that of one row at most
pub record Differ {K R : Type 0} (order : K → K → Ordering) (key : R → K) (rows : List R)
    : Type 0 where
  pub once : (wanted : K) → count_by (λ row. is_eq (order wanted (key row))) rows ≤ 1

-- the rows by rising keys: all of them, and no key twice
pub record IsListed {K R : Type 0} (order : K → K → Ordering) (key : R → K) (rows listed : List R)
    : Type 0 where
  pub is : rows_by_key order key rows ≡ listed
  pub same : IsPermutation rows listed
  pub rise : (i j : ℕ) (x y : R) → i < j → slice_get listed i ≡ Some x → slice_get listed j ≡ Some y
      → order (key x) (key y) ≡ Less
