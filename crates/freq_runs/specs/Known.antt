-- The ids that are there already, as the code keeps them.
use Rattle.std.specs.Prelude.{◌≡◌, ℕ, is_some, List}
use Rattle.std.specs.Borrow.{Bor}
use Rattle.std.specs.BTreeMap.{BTreeMap, get_by}
use Rattle.std.specs.BTreeSet.{BTreeSet, contains_text}
use Rattle.std.specs.Cmp.Lexicographic.{slice_cmp}
use Rattle.std.specs.Ordering.{nat_cmp}
use Rattle.std.specs.declared.alloc.Global.{Global}
use Rattle.std.specs.declared.string.String.{String}
use Rattle.freq_runs.specs.Faults.{has_id}

-- just these ids are keys of the map
pub record AreKeys {V : Type 0} (map : BTreeMap (Bor (List ℕ)) V) (ids : List (List ℕ))
    : Type 0 where
  pub found : (id : List ℕ) → is_some (get_by (λ key. slice_cmp nat_cmp id key.now) map)
      ≡ has_id ids id

-- just these ids are in the set
pub record AreIn (set : BTreeSet (String Global)) (ids : List (List ℕ)) : Type 0 where
  pub found : (id : List ℕ) → contains_text set id ≡ has_id ids id
