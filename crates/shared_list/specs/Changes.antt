-- What changes make of a list, one after another.
use Rattle.std.specs.Prelude.{List, fold}
use Rattle.std.specs.FinMap.{put}
use Rattle.std.specs.declared.cmp.Ordering.{Ordering}
use Rattle.shared_list.specs.declared.change.Change.{Change}
use Rattle.shared_list.specs.declared.change.Change.TheVariants.{Put, Remove}
use Rattle.shared_list.specs.Order.{without}

module _ {K X Q : Type 0} (cmp : K → K → Ordering) (key : X → K) (sought : Q → K) where
  -- the entries after one change
  abbrev pub after_change : List (K × X) → Change X Q → List (K × X)
  after_change es (Put x) = put cmp (key x) x es
  after_change es (Remove q) = without cmp (sought q) es

  -- the entries after each of them in turn
  abbrev pub after_changes : List (K × X) → List (Change X Q) → List (K × X)
  after_changes es changes = fold after_change es changes
