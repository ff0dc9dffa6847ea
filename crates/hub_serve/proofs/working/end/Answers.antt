-- The lines are told of the seats as they were before closing.
use Rattle.std.proofs.Common.{◌∙◌, List, [], map, ap, subst}
use Rattle.std.proofs.KnownBytes.{Appends-nil}
use Rattle.exit_status.specs.Codes.{code_of}
use Rattle.serve_lines.specs.Wrote.{Wrote}
use Rattle.hub_shared.specs.Seats.{SeatSeen}
use Rattle.hub_serve.specs.declared.readers.Post.{Post}
use Rattle.hub_serve.specs.Runs.{text_of}
use Rattle.hub_serve.specs.Steps.{lasts_of}
use Rattle.hub_serve.proofs.working.end.Goals as goal

pub returns : goal.returns
returns g c = record {
  closed = c.close-closed.result;
  closes = c.close-closed.ensures.closes;
  writing = c.write_lines-writing.result;
  wrote = subst (λ (seats : List SeatSeen). Wrote c.write_lines-writing.result (g.K.Sink.written c.args.out.now) (g.K.Sink.written c.write_lines-writing.new.out)
      (text_of c.args.plans.now.feeds c.args.reports.now (lasts_of seats) (map (λ (post : Post g.row.C.Denot). post.report) c.args.posts.now))) c.close-closed.ensures.seats
      (c.write_lines-writing.ensures.wrote (g.K.Sink.written c.args.out.now) [] (Appends-nil (g.K.Sink.written c.args.out.now)));
  cause = c.write_lines-writing.ensures.cause;
  status_is = c.code.ensures ∙ ap code_of c.status_of.ensures;
}
