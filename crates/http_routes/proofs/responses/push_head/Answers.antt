-- The lines one after another are the head.
use Rattle.std.proofs.Common.{◌≡◌, ◌++◌, append_assoc}
use Rattle.http_defs.specs.Responses.{crlf, head_bytes}
use Rattle.http_routes.proofs.responses.push_head.Goals as goal

pub returns-clause-written : goal.returns-clause-written
unfolding head_bytes
returns-clause-written c =
    let is : c.push_text-3.new.out.items ++ crlf
    ≡ c.args.out.now.items ++ head_bytes c.args.status c.args.kind c.args.size c.args.number c.args.moment c.args.close = rw (
      c.in_ok-push_text-3.ensures.written,
      c.in_ok-push_number-3.ensures.written,
      c.in_ok-push_number-2.ensures.written,
      c.in_ok-push_allowed.ensures.written,
      c.in_ok-push_number.ensures.written,
      c.in_ok-push_text-2.ensures.written,
      c.in_ok-push_text.ensures.written,
      c.status_text.ensures,
      c.type_text.ensures,
      c.connection_text.ensures,
    ) (simp append_assoc) in
    rw is at c.end_line.ensures.written
