use Rattle.std.proofs.Common.{refl}
use Rattle.hub_replay.proofs.Doing.{turns_of_line, lacks_line, no_head}
use Rattle.hub_replay.proofs.records.do_record.Goals as goal

pub returns-in-Ok : goal.returns-in-Ok
returns-in-Ok c =
    turns_of_line c.args.hub.now c.do_line.new.hub c.args.bytes.now _ _ _ c.do_line.result c.args.said.now.items c.do_line.new.said.items
    c.in-Some.ensures.2 c.in-Ok.ensures.0 c.do_line.ensures

pub returns-in-None : goal.returns-in-None
returns-in-None c = lacks_line c.args.hub.now c.args.bytes.now c.args.said.now.items c.step_without_line.result c.in-None.ensures c.step_without_line.ensures

pub returns-in-Err-NotALine : goal.returns-in-Err-NotALine
returns-in-Err-NotALine c = (refl, no_head c.args.hub.now c.args.bytes.now _ _ c.in-Some.ensures.2 (rw c.in-Err-NotALine.field-0-is at c.in-Err-NotALine.ensures))
