use Rattle.poll_port.proofs.HeadReading.{unfit_at}
use Rattle.poll_port.proofs.heads.good_head.Goals as goal

pub returns-in-Err : goal.returns-in-Err
returns-in-Err c = unfit_at c.args.bytes.now c.args.headers.now c.args.spans c.in-Err.fault c.requires c.in-Err.ensures
