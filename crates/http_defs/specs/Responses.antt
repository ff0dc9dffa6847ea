-- The bytes of a response (RFC 9112).
use Rattle.std.specs.Prelude.{ℕ, Bool, ◌==◌, if◌then◌else◌, List, [], ◌∷◌, ◌++◌, length, codes}
use Rattle.std.specs.Fmt.{decimal}
use Rattle.text_defs.specs.Cleaned.{line_feed}
use Rattle.http_defs.specs.declared.response.Status.{Status}
use Rattle.http_defs.specs.declared.response.Status.TheVariants.{Ok as Success, BadRequest, NotFound, MethodNotAllowed}
use Rattle.http_defs.specs.declared.response.BodyKind.{BodyKind}
use Rattle.http_defs.specs.declared.response.BodyKind.TheVariants.{Text as Lines, Json, Feed}

-- what ends a line of a head
unfoldable pub crlf : List ℕ
crlf = 13 ∷ 10 ∷ []

-- the status of a code; 405 is the last that there is
abbrev pub status_of : ℕ → Status
status_of code =
    if code == 200 then Success
    else (if code == 400 then BadRequest
    else (if code == 404 then NotFound else MethodNotAllowed))

-- the code of a status and its reason
unfoldable pub status_text : Status → List ℕ
status_text Success = codes "200 OK"
status_text BadRequest = codes "400 Bad Request"
status_text NotFound = codes "404 Not Found"
status_text MethodNotAllowed = codes "405 Method Not Allowed"

-- the media type of a body
unfoldable pub type_text : BodyKind → List ℕ
type_text Lines = codes "text/plain; charset=utf-8"
type_text Json = codes "application/json"
type_text Feed = codes "application/x-protobuf"

-- what becomes of the connection
unfoldable pub connection_text : Bool → List ℕ
connection_text close = if close then codes "close" else codes "keep-alive"

-- a line of a head that says a text, and one that says a number
unfoldable pub text_line : List ℕ → List ℕ → List ℕ
text_line name text = name ++ text ++ crlf

unfoldable pub number_line : List ℕ → ℕ → List ℕ
number_line name n = name ++ decimal n ++ crlf

-- the methods that there are, where another one was asked
unfoldable pub allow_line : Status → List ℕ
allow_line MethodNotAllowed = codes "Allow: GET" ++ crlf
allow_line Success = []
allow_line BadRequest = []
allow_line NotFound = []

-- the head of a response: the length of its body, the number of the last message that it knows of,
-- and the moment for which it holds
unfoldable pub head_bytes : Status → BodyKind → ℕ → ℕ → ℕ → Bool → List ℕ
head_bytes status kind len number moment close =
    [] ++ text_line (codes "HTTP/1.1 ") (status_text status)
    ++ text_line (codes "Content-Type: ") (type_text kind)
    ++ number_line (codes "Content-Length: ") len
    ++ allow_line status
    ++ number_line (codes "X-Hub-Sequence: ") number
    ++ number_line (codes "X-Hub-Moment: ") moment
    ++ text_line (codes "Connection: ") (connection_text close)
    ++ crlf

-- a response to the code of a status
unfoldable pub response : ℕ → BodyKind → List ℕ → ℕ → ℕ → Bool → List ℕ
response code kind body number moment close =
    head_bytes (status_of code) kind (length body) number moment close ++ body

-- the body of a refusal
unfoldable pub refusal_text : Status → List ℕ
refusal_text Success = []
refusal_text BadRequest = codes "bad request" ++ line_feed
refusal_text NotFound = codes "not found" ++ line_feed
refusal_text MethodNotAllowed = codes "method not allowed" ++ line_feed

-- the response that refuses with the code of a status
abbrev pub refusal : ℕ → ℕ → ℕ → Bool → List ℕ
refusal code number moment close =
    response code Lines (refusal_text (status_of code)) number moment close
