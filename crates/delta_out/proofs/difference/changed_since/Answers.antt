-- The bytes are all that was appended.
use Rattle.std.proofs.Common.{◌≡◌, ap, ◌∙◌, rules}
use Rattle.board_defs.specs.Views.{folds_of}
use Rattle.feed_defs.specs.Table.{read}
use Rattle.delta_defs.specs.Changes.{changes_bytes}
use Rattle.delta_out.proofs.difference.changed_since.Goals as goal

pub returns-clause-reads : goal.returns-clause-reads
returns-clause-reads c = λ g h were read_h then stands.
    let all : c.push_changes.new.out.items ≡ changes_bytes c.args.view.now.plans c.args.plan c.args.old.now.folds (folds_of c.args.view.now) = search rules in
    ap read all ∙ c.in_ok-push_changes.ensures.reads g h were read_h then stands
