-- Values of a document beside the data that they stand for.
use Rattle.std.proofs.Common.{◌≡◌, List, [], ◌∷◌, length, refl, ap, ◌&&◌, arith}
use Rattle.std.specs.List.{list_all}
use Rattle.toml.specs.View.{view, items_view}
use Rattle.toml.specs.declared.value.Value.{Value}
use Rattle.hub_config_defs.specs.Values.{count, are_tables, is_table}

-- an array has as many items as its values
pub count_view : (vs : List Value) → count (items_view vs) ≡ length vs
count_view [] = refl
count_view (v ∷ vs) = omega (arith, count_view vs)

-- its items are tables where its values are
pub are_tables-view : (vs : List Value) → list_all (λ v. is_table (view v)) vs ≡ are_tables (items_view vs)
are_tables-view [] = refl
are_tables-view (v ∷ vs) = ap (λ b. is_table (view v) && b) (are_tables-view vs)

pub ruleset array_views = (count_view, are_tables-view)
