-- Whole responses, computed.
use Rattle.std.specs.Prelude.{◌≡◌, refl, ◌++◌, true, false, codes}
use Rattle.http_defs.specs.declared.response.BodyKind.TheVariants.{Json}
use Rattle.http_defs.specs.Responses.{crlf, response, refusal}
use Rattle.text_defs.specs.Cleaned.{line_feed}
use Rattle.http_defs.proofs.OnLiterals.{http_on_literals}

pub json_response : response 200 Json (codes "{}") 12 1743315000 false
    ≡ codes "HTTP/1.1 200 OK" ++ crlf
    ++ codes "Content-Type: application/json" ++ crlf
    ++ codes "Content-Length: 2" ++ crlf
    ++ codes "X-Hub-Sequence: 12" ++ crlf
    ++ codes "X-Hub-Moment: 1743315000" ++ crlf
    ++ codes "Connection: keep-alive" ++ crlf
    ++ crlf ++ codes "{}"
unfolding http_on_literals
json_response = refl

pub other_method : refusal 405 0 7 true
    ≡ codes "HTTP/1.1 405 Method Not Allowed" ++ crlf
    ++ codes "Content-Type: text/plain; charset=utf-8" ++ crlf
    ++ codes "Content-Length: 19" ++ crlf
    ++ codes "Allow: GET" ++ crlf
    ++ codes "X-Hub-Sequence: 0" ++ crlf
    ++ codes "X-Hub-Moment: 7" ++ crlf
    ++ codes "Connection: close" ++ crlf
    ++ crlf ++ codes "method not allowed" ++ line_feed
unfolding http_on_literals
other_method = refl

pub bad_request : refusal 400 3 7 true
    ≡ codes "HTTP/1.1 400 Bad Request" ++ crlf
    ++ codes "Content-Type: text/plain; charset=utf-8" ++ crlf
    ++ codes "Content-Length: 12" ++ crlf
    ++ codes "X-Hub-Sequence: 3" ++ crlf
    ++ codes "X-Hub-Moment: 7" ++ crlf
    ++ codes "Connection: close" ++ crlf
    ++ crlf ++ codes "bad request" ++ line_feed
unfolding http_on_literals
bad_request = refl
