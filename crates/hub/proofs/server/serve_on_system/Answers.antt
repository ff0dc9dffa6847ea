-- There are as many ports as feeds.
use Rattle.std.proofs.Common.{length, ap, arith}
use Rattle.hub.proofs.server.serve_on_system.Goals as goal

pub run_serve-requires-clause-ports : goal.run_serve-requires-clause-ports
run_serve-requires-clause-ports g c κs within =
    omega (arith, c.as_mut_slice.ensures.len, c.in_ok-ports.ensures.count, ap length c.as_slice.ensures, c.requires.feeds)
