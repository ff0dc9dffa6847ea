-- What the list has under other keys is what is held under other ids.
use Rattle.std.proofs.Common.{ap, ◌∙◌}
use Rattle.feed_defs.specs.History.{changes_without}
use Rattle.shared_list.proofs.TextKeys.{without-texts}
use Rattle.entity_table.proofs.table.Table.without.Goals as goal

pub returns-clause-table : goal.returns-clause-table
returns-clause-table c =
    c.in_ok-list.ensures.list
    ∙ without-texts c.args.id.now c.self.inside.list
    ∙ ap (changes_without c.args.id.now) c.self.view_is
