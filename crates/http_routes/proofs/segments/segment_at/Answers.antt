use Rattle.std.proofs.Common.{rules, lit<}
use Rattle.std.proofs.lemmas.Iterator.Splits.{YieldsList-from_str_split}
use Rattle.std.proofs.lemmas.Iterator.Consumers.{nth_from_yields_List}
use Rattle.http_routes.proofs.segments.segment_at.Goals as goal

pub returns : goal.returns
returns c =
    nth_from_yields_List _ _ c.args.place c.nth.ensures.ran
    (YieldsList-from_str_split 47 c.args.path.now (lit< tt) (search rules) (search rules) (search rules))
