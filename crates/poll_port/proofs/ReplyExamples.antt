-- Which bytes are good replies, and their messages, computed.
use Rattle.std.specs.Prelude.{◌≡◌, refl, ℕ, ⊤, List, [], ◌∷◌, ◌++◌, codes, map, replicate, Some, None}
use Prim.Native.String.{String}
use Rattle.httparse.proofs.OnLiterals.{httparse_on_literals}
use Rattle.httparse.specs.Grammar.{trim_ows, print_response, is_token_byte}
use Rattle.text_defs.specs.Numbers.{number}
use Rattle.poll_port.specs.Fields.{has_name, length_in, extent_of, extent_behind}
use Rattle.poll_port.specs.declared.faults.ReplyFault.TheVariants.{Head, Status, Length, Cut}
use Rattle.poll_port.specs.Heads.{head_in, reply_in, fault_in}
use Rattle.poll_port.specs.Replies.{message_in}
use Rattle.poll_port.specs.Requests.{request_for}

-- what an answer unfolds to compute this crate's specs on a literal
unfoldable pub replies_on_literals : ⊤
unfolding httparse_on_literals trim_ows print_response is_token_byte number has_name length_in extent_of extent_behind head_in reply_in fault_in message_in request_for
replies_on_literals = tt

abbrev crlf : List ℕ
crlf = 13 ∷ 10 ∷ []

-- a reply with these lines in its head, each with CR and LF, and these bytes behind it
abbrev reply : List String → String → List ℕ
reply [] body = crlf ++ codes body
reply (line ∷ lines) body = codes line ++ (crlf ++ reply lines body)

abbrev replies : List (List ℕ)
replies =
    reply ("HTTP/1.1 200 OK" ∷ "Content-Length: 3" ∷ []) "fed"
    ∷ reply ("HTTP/1.0 200" ∷ "Date: x" ∷ "cONTENT-length:03 " ∷ []) "fed up"
    ∷ reply ("HTTP/1.0 200 OK" ∷ []) "fed up"
    ∷ (codes "\n\nHTTP/1.0 200 OK\n" ++ codes "A: b\n\n\r\n")
    ∷ []

pub replies_are : map reply_in replies ≡ Some (codes "fed") ∷ Some (codes "fed") ∷ Some (codes "fed up") ∷ Some crlf ∷ []
unfolding replies_on_literals
replies_are = refl

abbrev others : List (List ℕ)
others =
    reply ("HTTP/1.1 404 Not Found" ∷ "Content-Length: 3" ∷ []) "fed"
    ∷ reply ("HTTP/1.1 200 OK" ∷ "Content-Length: 4" ∷ []) "fed"
    ∷ reply ("HTTP/1.1 200 OK" ∷ "Content-Length: 3" ∷ "content-length: 3" ∷ []) "fed"
    ∷ reply ("HTTP/1.1 200 OK" ∷ "Content-Length: 00000000003" ∷ []) "fed"
    ∷ reply ("HTTP/1.1 200 OK" ∷ "Content-Length: +3" ∷ []) "fed"
    ∷ reply ("HTTP/1.1 200 OK" ∷ "Content-Length:" ∷ []) ""
    ∷ reply ("HTTP/1.1 200 OK" ∷ "transfer-encoding: chunked" ∷ []) "0\r\n\r\n"
    ∷ reply ("HTTP/2.0 200 OK" ∷ []) "fed"
    ∷ reply ("HTTP/1.1 200 OK" ∷ "A b: c" ∷ []) "fed"
    ∷ codes "HTTP/1.1 200 OK\r\nContent-Length: 0\r\n"
    ∷ []
    ∷ []

pub others_are_none : map reply_in others ≡ replicate 11 None
unfolding replies_on_literals
others_are_none = refl

-- what is wrong with each of them, and nothing with the good ones
pub faults_are : map fault_in others
    ≡ Some (Status 404) ∷ Some Cut ∷ Some Length ∷ Some Length ∷ Some Length ∷ Some Length ∷ Some Length
    ∷ Some Head ∷ Some Head ∷ Some Head ∷ Some Head ∷ []
unfolding replies_on_literals
faults_are = refl

pub good_have_none : map fault_in replies ≡ replicate 4 None
unfolding replies_on_literals
good_have_none = refl

pub request_is : request_for (codes "agency:80") (codes "/feed")
    ≡ codes "GET /feed HTTP/1.0\r\nHost: agency:80\r\nConnection: close\r\n\r\n"
unfolding replies_on_literals
request_is = refl
