use Rattle.poll_port.proofs.FoundLemmas.{overflow_none}
use Rattle.poll_port.proofs.heads.look.Goals as goal

pub returns-in-Ok-Partial : goal.returns-in-Ok-Partial
returns-in-Ok-Partial c = c.unfound.ensures c.parse_response.new.headers

pub returns-in-Err : goal.returns-in-Err
returns-in-Err c = overflow_none c.args.bytes.now _ c.requires.room c.in-Err.ensures.no_room
