-- What is read in an overlay is what its table says.
use Rattle.std.proofs.Common.{◌≡◌, List, Option, Some, None, refl, ap, ◌∙◌}
use Rattle.std.specs.Option.{option_map}
use Rattle.feed_defs.specs.History.{Change as EntityChange}
use Rattle.sched_types.specs.declared.rows.Run.{Run}
use Rattle.sched_types.specs.Timetable.{Timetable}
use Rattle.board_defs.specs.Choice.{Update, chosen}
use Rattle.run_overlay.specs.Kept.{FeedOverlay, chosen_in, overlay_of, run_by, told_run, told_update}
use Rattle.run_overlay.specs.Updates.{updates_of}
use Rattle.run_overlay.proofs.Lived.{find_run}

told_by : (t : Timetable) (run : Run) (best : Option Update) → option_map told_run (option_map (run_by t run) best) ≡ option_map told_update best
told_by t run None = refl
told_by t run (Some u) = refl

-- The update that is read is the one that counts.
pub chosen_is : (t : Timetable) (entities : List EntityChange) (overlay : FeedOverlay) → overlay ≡ overlay_of t entities → (run : Run) → chosen_in overlay run ≡ option_map told_update (chosen t (updates_of entities) run)
unfolding overlay_of
chosen_is t entities overlay is run =
    ap (λ (o : FeedOverlay). chosen_in o run) is
    ∙ ap (option_map told_run) (find_run t (updates_of entities) run)
    ∙ told_by t run (chosen t (updates_of entities) run)
