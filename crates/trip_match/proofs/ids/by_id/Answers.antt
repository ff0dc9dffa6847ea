use Rattle.std.proofs.Common.{pos, sym}
use Rattle.trip_match.proofs.ids.by_id.Goals as goal

pub returns-in-Err : goal.returns-in-Err
returns-in-Err c = λ later. sym (c.in-Err.ensures.meant c.args.date (pos c.args.stamp) later)
