use Rattle.feed_defs.specs.Table.{entity}
use Rattle.feed_read.proofs.Together.{numbered_each}
use Rattle.feed_read.proofs.on_threads.entities_of.Goals as goal

pub returns-in-Ok : goal.returns-in-Ok
returns-in-Ok g c =
    rw (← c.in_ok-payloads.ensures, c.new.ensures)
    (numbered_each entity (λ bytes. bytes.now) 0 c.in_ok-payloads.payloads.items c.in-Ok.entities.items (rw c.as_slice.ensures.value at c.in-Ok.ensures))
