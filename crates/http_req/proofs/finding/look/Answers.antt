use Rattle.std.proofs.Common.{◌∙◌, sym}
use Rattle.http_req.proofs.HeadEnds.{none_before, some_ended}
use Rattle.http_req.proofs.FoundLemmas.{none_short, overflow_none}
use Rattle.http_req.proofs.finding.look.Goals as goal

pub returns-in-Ok-Partial : goal.returns-in-Ok-Partial
returns-in-Ok-Partial c = c.unfound.ensures c.parse_request.new.headers

pub returns-in-Err : goal.returns-in-Err
returns-in-Err c = (
  some_ended c.args.bytes.now c.args.progress c.requires.progress (sym c.has_ended.ensures ∙ c.if-has_ended.true),
  overflow_none c.args.bytes.now _ c.requires.room c.in-Err.ensures.no_room,
)

pub unfound-requires-2 : goal.unfound-requires-2
unfound-requires-2 c =
    none_short c.args.bytes.now
    (none_before c.args.bytes.now c.args.progress c.requires.progress (sym c.has_ended.ensures ∙ c.if-has_ended.false))

pub returns : goal.returns
returns c = c.unfound-2.ensures c.args.headers.now
