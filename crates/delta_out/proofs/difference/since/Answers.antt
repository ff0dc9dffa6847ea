-- What is found in the list is what was said at its number.
use Rattle.std.proofs.Common.{◌≡◌, ◌∙◌, subst, Ok}
use Rattle.std.specs.Prelude.{IfOk, OnOk}
use Rattle.board_defs.specs.Views.{folds_of}
use Rattle.feed_defs.specs.Table.{read}
use Rattle.delta_defs.specs.Applied.{BringsTo}
use Rattle.delta_defs.specs.Changes.{changes, changes_bytes}
use Rattle.delta_defs.specs.Kept.{is_numbered}
use Rattle.delta_defs.proofs.OneHistory.{found_of_one}
use Rattle.delta_out.proofs.KeptLemmas.{found_folds, none_at}
use Rattle.delta_out.proofs.difference.since.Goals as goal

pub changed_since-requires-clause-one_history : goal.changed_since-requires-clause-one_history
changed_since-requires-clause-one_history c =
    found_of_one (is_numbered c.args.number) c.args.kept.now c.in-Some.old.now c.args.view.now c.in-Some.ensures c.requires.one_history

pub returns-in-Some-clause-changes : goal.returns-in-Some-clause-changes
returns-in-Some-clause-changes c = λ old at.
    subst (λ folds. IfOk c.changed_since.result (λ bytes. bytes.items ≡ changes_bytes c.args.view.now.plans c.args.plan folds (folds_of c.args.view.now)))
    (found_folds c.args.kept.now c.args.number c.in-Some.old.now old c.in-Some.ensures at) c.changed_since.ensures.changes

pub returns-in-Some-clause-brings : goal.returns-in-Some-clause-brings
returns-in-Some-clause-brings c = λ old at g h were read then stands.
    let same = found_folds c.args.kept.now c.args.number c.in-Some.old.now old c.in-Some.ensures at in
    subst (λ folds. OnOk c.changed_since.result (BringsTo c.args.view.now.plans c.args.plan folds (folds_of c.args.view.now) (changes c.args.view.now.plans c.args.plan folds (folds_of c.args.view.now))))
    same (c.changed_since.ensures.brings g h were read (same ∙ then) stands)

pub returns-in-Some-clause-reads : goal.returns-in-Some-clause-reads
returns-in-Some-clause-reads c = λ old at g h were read_h then stands.
    let same = found_folds c.args.kept.now c.args.number c.in-Some.old.now old c.in-Some.ensures at in
    subst (λ folds. IfOk c.changed_since.result (λ bytes. read bytes.items ≡ Ok (changes c.args.view.now.plans c.args.plan folds (folds_of c.args.view.now))))
    same (c.changed_since.ensures.reads g h were read_h (same ∙ then) stands)

pub returns-in-None-clause-changes : goal.returns-in-None-clause-changes
returns-in-None-clause-changes c = λ old at. absurd (none_at c.args.kept.now c.args.number old c.in-None.ensures at)

pub returns-in-None-clause-brings : goal.returns-in-None-clause-brings
returns-in-None-clause-brings c = λ old at g h were read then stands. absurd (none_at c.args.kept.now c.args.number old c.in-None.ensures at)

pub returns-in-None-clause-reads : goal.returns-in-None-clause-reads
returns-in-None-clause-reads c = λ old at g h were read_h then stands. absurd (none_at c.args.kept.now c.args.number old c.in-None.ensures at)
