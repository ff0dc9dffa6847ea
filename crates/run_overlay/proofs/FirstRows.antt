-- Where there was no run with an update, and so no departure, those that runs have now come.
use Rattle.std.proofs.Common.{◌≡◌, List, [], ◌∷◌, ◌++◌, map, length, refl, sym, ap, ◌∙◌, arith}
use Rattle.std.specs.List.{flat_map}
use Rattle.std.proofs.lemmas.List.{map-append}
use Rattle.shared_list.specs.declared.change.Change.TheVariants.{Put}
use Rattle.sched_types.specs.declared.rows.Run.{Run}
use Rattle.run_overlay.specs.declared.live_run.LiveRun.{LiveRun}
use Rattle.run_overlay.specs.declared.row.LiveRow.{LiveRow}
use Rattle.run_overlay.specs.declared.row.RowKey.{RowKey}
use Rattle.run_overlay.specs.declared.turns.Turn.{Turn}
use Rattle.keyed_lists.specs.Keyed.{by_key, changed, unlike}
use Rattle.keyed_lists.proofs.Effects.{by_key_is}
use Rattle.run_overlay.specs.Keys.{row_cmp, row_key}
use Rattle.run_overlay.specs.Orders.{rows_total}
use Rattle.run_overlay.specs.Turning.{row_changes, rows_now, same_row}

all_unlike : (rows : List LiveRow) → unlike same_row rows [] ≡ rows
all_unlike [] = refl
all_unlike (row ∷ rows) = ap (λ rs. row ∷ rs) (all_unlike rows)

all_put : (turns : List Turn) → flat_map (row_changes []) turns ≡ map Put (flat_map rows_now turns)
all_put [] = refl
all_put (turn ∷ turns) =
    ap (λ rows. map Put rows ++ flat_map (row_changes []) turns) (all_unlike (rows_now turn))
    ∙ ap (λ changes. map Put (rows_now turn) ++ changes) (all_put turns)
    ∙ sym (map-append Put (rows_now turn) (flat_map rows_now turns))

pub rows_come : (runs : List (Run × LiveRun)) (rows : List (RowKey × LiveRow)) (turns : List Turn) → length runs ≡ 0 → length rows ≡ 0
    → by_key row_cmp row_key (flat_map rows_now turns) ≡ changed row_cmp row_key rows (flat_map (row_changes runs) turns)
rows_come [] [] turns none none_too = by_key_is rows_total row_key (flat_map rows_now turns) ∙ ap (changed row_cmp row_key []) (sym (all_put turns))
rows_come (run ∷ runs) rows turns none none_too = absurd (omega (arith, none))
rows_come [] (row ∷ rows) turns none none_too = absurd (omega (arith, none_too))
