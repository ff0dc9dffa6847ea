-- What becomes of one more message.
use Rattle.std.proofs.Common.{arith, false}
use Rattle.hub_core.specs.Answers.{cause_of}
use Rattle.hub_shared.proofs.Handed.{accepts, not_accepted}
use Rattle.hub_shared.proofs.feeding.judge.Goals as goal

pub returns-in-Ok-clause-judged : goal.returns-in-Ok-clause-judged
returns-in-Ok-clause-judged g c first given s = record {
  starved = false;
  sorts = accepts first c.args.seat.now c.ingest.new.seat given c.args.bytes.now c.args.tally.now s c.requires.fit (λ i. omega (arith, c.type_inv.bytes i)) _ c.in-Ok.ensures.ingested;
}

pub returns-clause-judged : goal.returns-clause-judged
returns-clause-judged g c first given s =
    not_accepted first c.args.seat.now c.ingest.new.seat given c.args.bytes.now c.args.tally.now s c.requires.fit (λ i. omega (arith, c.type_inv.bytes i))
    c.in-Err.ensures.ingested.1 (cause_of c.in-Err.refusal) c.in-Err.ensures.ingested.0 c.count.new.tally c.count.ensures
