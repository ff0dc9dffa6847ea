-- Nothing is kept of a feed that holds nothing.
use Rattle.std.proofs.Common.{sym, ◌∙◌}
use Rattle.run_overlay.proofs.Alone.{none_kept}
use Rattle.run_overlay.proofs.overlay.Overlay.empty.Goals as goal

pub returns-clause-kept : goal.returns-clause-kept
returns-clause-kept c = λ i. record { mentions = c.empty.ensures i; live = c.empty-2.ensures i }

pub returns-clause-every : goal.returns-clause-every
returns-clause-every c = λ t. returns-clause-kept c ∙ sym (none_kept t)
