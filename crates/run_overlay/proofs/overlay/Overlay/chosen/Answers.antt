-- The run is looked up among those with an update.
use Rattle.std.proofs.Common.{sym, ap, ◌∙◌}
use Rattle.std.specs.FinMap.{find}
use Rattle.std.specs.Option.{option_copied, option_map}
use Rattle.run_overlay.specs.Keys.{run_cmp}
use Rattle.run_overlay.specs.Kept.{FeedOverlay, chosen_in, told_run}
use Rattle.run_overlay.proofs.Read.{chosen_is}
use Rattle.run_overlay.proofs.overlay.Overlay.chosen.Goals as goal

pub returns-in-Some-clause-kept : goal.returns-in-Some-clause-kept
returns-in-Some-clause-kept c =
    ap (option_map told_run) (sym (ap option_copied c.in-Some.is) ∙ c.get.ensures ∙ ap (find run_cmp c.args.run) c.runs.ensures)
    ∙ ap (λ (overlay : FeedOverlay). chosen_in overlay c.args.run) c.self.view_is

pub returns-in-Some-clause-said : goal.returns-in-Some-clause-said
returns-in-Some-clause-said c = λ t entities is. returns-in-Some-clause-kept c ∙ chosen_is t entities c.args.self.now is c.args.run

pub returns-in-None-clause-kept : goal.returns-in-None-clause-kept
returns-in-None-clause-kept c =
    ap (option_map told_run) (sym (ap option_copied c.in-None.is) ∙ c.get.ensures ∙ ap (find run_cmp c.args.run) c.runs.ensures)
    ∙ ap (λ (overlay : FeedOverlay). chosen_in overlay c.args.run) c.self.view_is

pub returns-in-None-clause-said : goal.returns-in-None-clause-said
returns-in-None-clause-said c = λ t entities is. returns-in-None-clause-kept c ∙ chosen_is t entities c.args.self.now is c.args.run
