-- What heads tell, computed.
use Rattle.std.specs.Prelude.{◌≡◌, refl, ℕ, Bool, true, false, List, [], ◌∷◌, ◌++◌, codes}
use Prim.Native.String.{String}
use Rattle.std.proofs.Common.{lit<, lit≤}
use Rattle.std.proofs.lemmas.List.Elements.{All-cons, All-nil}
use Rattle.std.proofs.lemmas.List.Sums.{AllPass-from_list_all}
use Rattle.std.proofs.lemmas.Str.{IsUtf8-from_is_utf8}
use Rattle.httparse.specs.Grammar.{RequestHead, IsRequestHead, IsField, crlf as ends_crlf, print_request, is_token_byte, is_uri_byte, is_value_byte}
use Rattle.http_defs.specs.declared.request.Item.TheVariants.{Asked}
use Rattle.http_defs.specs.Requests.{AreRequests, closed}
use Rattle.http_defs.specs.Heads.{closes, carries_body, request_of}
use Rattle.http_defs.specs.Responses.{crlf}
use Rattle.http_defs.proofs.OnLiterals.{http_on_literals}

-- a field
abbrev field : String → String → List ℕ × List ℕ
field name value = (codes name, codes value)

-- whether the connection is closed after a request that has one field, at version 1.1 and at 1.0
abbrev closed_11 : String → String → Bool
closed_11 name value = closes 1 (field name value ∷ [])

abbrev closed_10 : String → String → Bool
closed_10 name value = closes 0 (field name value ∷ [])

abbrev closings : List Bool
closings =
    closed_11 "Host" "close" ∷ closed_11 "Connection" "close" ∷ closed_11 "connection" "CLOSE"
    ∷ closed_11 "Connection" "keep-alive, close" ∷ closed_11 "Connection" "keep-alive ,\t close ,x"
    ∷ closed_11 "Connection" "closed" ∷ closed_11 "Connection" "clo se" ∷ closed_11 "Connection" ""
    ∷ closed_10 "Host" "a" ∷ closed_10 "Connection" "keep-alive" ∷ closed_10 "Connection" "Keep-Alive, x"
    ∷ closed_10 "Connection" "keep-alive, close" ∷ closed_10 "Connection" "keep" ∷ []

pub closings_are : closings
    ≡ false ∷ true ∷ true ∷ true ∷ true ∷ false ∷ false ∷ false ∷ true ∷ false ∷ false ∷ true ∷ true ∷ []
unfolding http_on_literals
closings_are = refl

-- the tokens of all fields of that name count
pub second_field_closes : closes 1 (field "Connection" "x" ∷ field "Connection" "close" ∷ []) ≡ true
unfolding http_on_literals
second_field_closes = refl

abbrev bodies : List Bool
bodies =
    carries_body [] ∷ carries_body (field "Content-Length" "0" ∷ [])
    ∷ carries_body (field "content-LENGTH" "00" ∷ []) ∷ carries_body (field "Content-Length" "+0" ∷ [])
    ∷ carries_body (field "Content-Length" "" ∷ []) ∷ carries_body (field "Content-Length" "5" ∷ [])
    ∷ carries_body (field "Content-Length" "0" ∷ field "Content-Length" "5" ∷ [])
    ∷ carries_body (field "Content-Length" "0" ∷ field "Transfer-Encoding" "chunked" ∷ [])
    ∷ carries_body (field "Transfer-Encoding" "" ∷ []) ∷ []

pub bodies_are : bodies ≡ false ∷ false ∷ true ∷ true ∷ true ∷ true ∷ true ∷ true ∷ true ∷ []
unfolding http_on_literals
bodies_are = refl

-- a whole head: an empty line, the start line, a field with blanks around its value, an empty line
abbrev board_head : RequestHead
board_head = record {
  blank = ends_crlf ∷ [];
  method = codes "GET";
  target = codes "/board/city/S1";
  minor = 1;
  line_end = ends_crlf;
  fields = record { name = codes "Connection"; raw = codes " close "; end = ends_crlf } ∷ [];
  last = ends_crlf;
}

pub board_head_bytes : print_request board_head
    ≡ crlf ++ codes "GET /board/city/S1 HTTP/1.1" ++ crlf ++ codes "Connection: close " ++ crlf ++ crlf
unfolding http_on_literals
board_head_bytes = refl

pub board_head_asks : request_of board_head
    ≡ record { method = codes "GET"; target = codes "/board/city/S1"; close = true; body = false }
unfolding http_on_literals
board_head_asks = refl

-- whole bytes: a request, and behind it one that closes
abbrev status_head : RequestHead
status_head = record {
  blank = [];
  method = codes "GET";
  target = codes "/status";
  minor = 1;
  line_end = ends_crlf;
  fields = [];
  last = ends_crlf;
}

abbrev two_heads : List ℕ
two_heads =
    (codes "GET /status HTTP/1.1" ++ crlf ++ crlf)
    ++ (crlf ++ codes "GET /board/city/S1 HTTP/1.1" ++ crlf ++ codes "Connection: close " ++ crlf ++ crlf)

status_is_head : IsRequestHead status_head
unfolding http_on_literals
status_is_head = record {
  method = (lit< tt, AllPass-from_list_all is_token_byte status_head.method refl);
  target = (lit< tt, AllPass-from_list_all is_uri_byte status_head.target refl);
  target_text = IsUtf8-from_is_utf8 status_head.target refl;
  minor = lit≤ tt;
  fields = All-nil IsField;
}

board_is_head : IsRequestHead board_head
unfolding http_on_literals
board_is_head = record {
  method = (lit< tt, AllPass-from_list_all is_token_byte board_head.method refl);
  target = (lit< tt, AllPass-from_list_all is_uri_byte board_head.target refl);
  target_text = IsUtf8-from_is_utf8 board_head.target refl;
  minor = lit≤ tt;
  fields = All-cons IsField _ [] (record {
    name = (lit< tt, AllPass-from_list_all is_token_byte (codes "Connection") refl);
    raw = AllPass-from_list_all is_value_byte (codes " close ") refl;
  }) (All-nil IsField);
}

pub two_requests : AreRequests 1 two_heads
    (Asked (request_of status_head) ∷ Asked (request_of board_head) ∷ []) closed
unfolding http_on_literals
two_requests = (
  print_request board_head,
  record { head = status_head; begins = record { reads = (status_is_head, refl); short = lit≤ tt }; is = refl },
  (
    [],
    record { head = board_head; begins = record { reads = (board_is_head, refl); short = lit≤ tt }; is = refl },
    (refl, refl),
  ),
)
