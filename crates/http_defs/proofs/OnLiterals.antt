use Rattle.std.specs.Prelude.{⊤}
use Rattle.std.specs.Fmt.{digits}
use Rattle.std.specs.Str.{chars, is_utf8}
use Rattle.std.specs.Str.Lossy.{utf8_lossy, utf8_valid_len, utf8_error_len}
use lib.Utf8.{encode}
use Rattle.httparse.specs.Grammar.{trim_ows, print_request, is_token_byte}
use Rattle.matchit.proofs.OnLiterals.{matchit_on_literals}
use Rattle.form_urlencoded.proofs.OnLiterals.{form_urlencoded_on_literals}
use Rattle.text_defs.specs.Numbers.{number}
use Rattle.http_defs.specs.Heads.{is_named, has_token, is_connection_with, tells_body, closes}
use Rattle.http_defs.specs.Requests.{closes_after, is_last}
use Rattle.http_defs.specs.Routes.{routes}
use Rattle.http_defs.specs.Targets.{text_at, first_value, choices_in, since_in, query_at, query_of}
use Rattle.http_defs.specs.Responses.{crlf, status_text, type_text, connection_text, text_line, number_line, allow_line, head_bytes, response, refusal_text}

-- what an answer unfolds to compute this crate's specs on a literal
unfoldable pub http_on_literals : ⊤
unfolding matchit_on_literals form_urlencoded_on_literals digits chars is_utf8 encode utf8_lossy utf8_valid_len utf8_error_len number trim_ows print_request is_token_byte is_named has_token is_connection_with tells_body closes closes_after is_last routes text_at first_value choices_in since_in query_at query_of crlf status_text type_text connection_text text_line number_line allow_line head_bytes response refusal_text
http_on_literals = tt
