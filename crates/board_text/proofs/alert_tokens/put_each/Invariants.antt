-- The tokens of the rows that were gone over are written.
use Rattle.std.proofs.Common.{◌≡◌, ◌++◌, take}
use Rattle.std.specs.List.{flat_map}
use Rattle.board_text_defs.specs.Alerts.{alert_tokens}
use Rattle.board_text.proofs.alert_tokens.put_each.Given as goal

abbrev pub invariant-loop-row : goal.invariant-loop-row
invariant-loop-row l = record {
  written : l.writer.tokens ≡ l.initial.writer.tokens ++ flat_map (alert_tokens l.feeds) (take l.row-index l.rows);
  before : l.writer.before ≡ l.initial.writer.before;
}
