use Rattle.std.proofs.Common.{◌∙◌, ap}
use Rattle.std.specs.Int.{div_ceil}
use Rattle.freq_runs.proofs.Ranges.{starts_below}
use Rattle.freq_runs.proofs.starts.starts.Goals as goal

pub returns-clause-starts : goal.returns-clause-starts
returns-clause-starts c =
    let row = c.args.row.now in
    starts_below row.start row.headway row.end c.div_ceil.result c.requires (c.div_ceil.ensures ∙ ap (λ n. div_ceil n row.headway) c.saturating_sub.ensures)
