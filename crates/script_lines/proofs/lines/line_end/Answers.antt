use Rattle.std.proofs.Common.{refl, take, length}
use Rattle.std.specs.Prelude.{min}
use Rattle.hub_replay_defs.specs.Lines.{longest_line}
use Rattle.script_lines.proofs.Places.{line_ends}
use Rattle.script_lines.proofs.lines.line_end.Goals as goal

pub returns : goal.returns
returns c =
    line_ends longest_line c.args.bytes.now (take (min (length c.args.bytes.now) longest_line) c.args.bytes.now) c.line_feed_place.result refl
    (rw c.min.ensures at c.line_feed_place.ensures)
