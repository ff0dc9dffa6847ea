use Rattle.http_serve_defs.proofs.QueryLaws.{request_askable}
use Rattle.http_serve.proofs.responses.answer_item.Goals as goal

pub answer_query-requires-clause-askable : goal.answer_query-requires-clause-askable
answer_query-requires-clause-askable c =
    rw c.in_ok-query-in-Asked.ensures.answers_what_is_asked (request_askable c.in-Asked.request)
