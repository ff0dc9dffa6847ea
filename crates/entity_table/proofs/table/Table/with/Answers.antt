-- A deleted entity takes its id away.
use Rattle.std.proofs.Common.{false, ap, ◌∙◌}
use Rattle.std.specs.Prelude.{unwrap_or}
use Rattle.feed_defs.specs.declared.history.Stored.{Stored}
use Rattle.entity_table.proofs.TableLemmas.{taken, had}
use Rattle.entity_table.proofs.table.Table.with.Goals as goal

pub returns-then-is_deleted-clause-table : goal.returns-then-is_deleted-clause-table
returns-then-is_deleted-clause-table c =
    taken c.without.result c.args.self c.as_str.result.now c.args.stored c.is_deleted.result
    (c.as_str.ensures ∙ ap (λ (s : Stored). s.entity.id) c.get.ensures)
    (c.is_deleted.ensures ∙ ap (λ (s : Stored). unwrap_or s.entity.is_deleted false) c.get.ensures)
    c.if-is_deleted.true c.without.ensures.table

pub returns-then-is_deleted-clause-before : goal.returns-then-is_deleted-clause-before
returns-then-is_deleted-clause-before c =
    had c.without.result c.args.self c.as_str.result.now c.args.stored.entity.id
    (c.as_str.ensures ∙ ap (λ (s : Stored). s.entity.id) c.get.ensures) c.without.ensures.before
