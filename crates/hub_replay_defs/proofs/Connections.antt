-- Connections that a script serves.
use Rattle.std.specs.Prelude.{◌≡◌, ℕ, ◌<◌, ◌≤◌, true, false, List, [], ◌∷◌, ◌++◌, length, Some, None, refl, codes}
use Rattle.std.proofs.Common.{lit<, lit≤, arith, ap, length-append}
use Rattle.std.proofs.lemmas.List.Elements.{All-nil}
use Rattle.std.proofs.lemmas.List.Sums.{AllPass-from_list_all}
use Rattle.std.proofs.lemmas.Str.{IsUtf8-from_is_utf8}
use Rattle.httparse.specs.Grammar.{RequestHead, IsRequestHead, IsField, crlf as ends_crlf, print_request, is_token_byte, is_uri_byte}
use Rattle.std.specs.Str.{is_utf8, chars, bytes_eq}
use Rattle.std.specs.Fmt.{decimal, digits}
use lib.Utf8.{encode}
use Rattle.percent_encoding.specs.Percent.{percent_decode}
use Rattle.text_defs.specs.Numbers.{number}
use Rattle.feed_defs.specs.History.{messages_of, since_full, changes_by_id, entities_of}
use Rattle.feed_defs.specs.Rows.{fields_of_all, value, message_bytes, merged_message, values, numbered_values}
use Rattle.pb_wire_defs.specs.Writing.{groups, varint, payload_bytes, field_bytes}
use Rattle.feed_defs.specs.Table.{read, write}
use Rattle.board_defs.specs.Feed.{feed_bytes}
use Rattle.board_defs.specs.Fold.{fold_of}
use Rattle.board_text_defs.specs.Answers.{feed_answer, schedule_number, feed_number}
use Rattle.http_defs.specs.declared.request.Item.{Item}
use Rattle.http_defs.specs.declared.request.Item.TheVariants.{Asked, Malformed}
use Rattle.http_defs.specs.declared.response.BodyKind.TheVariants.{Feed as Message}
use Rattle.http_defs.specs.Requests.{NoHead, ended, closed, bad}
use Rattle.http_defs.specs.Responses.{crlf, refusal, response}
use Rattle.http_defs.proofs.OnLiterals.{http_on_literals}
use Rattle.http_serve_defs.specs.Answers.{answer, closes_behind}
use Rattle.http_serve_defs.specs.Connections.{IsServed, Served, responses}
use Rattle.hub_replay_defs.specs.Lines.{head_of, line_within, texts_of}
use Rattle.hub_replay_defs.specs.Lines.Head.{Connection}
use Rattle.hub_replay_defs.specs.Record.{connection_of, payload_at, serving, start, turn, waits}
use Rattle.hub_replay_defs.specs.Output.{replayed, run, run_within}
use Rattle.hub_replay_defs.specs.Examples.{done, header, line, refused_at}

-- ---- whole scripts

-- a GET of that target that has no body and doesn't ask to close
abbrev get : List ℕ → Item
get target = Asked (record { method = codes "GET"; target = target; close = false; body = false })

-- a request for the combined feed, and that feed where nothing was accepted
abbrev ask : List ℕ
ask = codes "GET /feed/plain HTTP/1.1" ++ crlf ++ crlf

abbrev feed_response : List ℕ
feed_response = response 200 Message (header 0 0) 0 7 false

-- the record of an input at the second 7
abbrev serve : List ℕ → List ℕ
serve input = line (codes "Q 7 " ++ decimal (length input)) ++ line input

-- what it prints
abbrev connection : List ℕ → List ℕ → List ℕ
connection bytes end = line (codes "connection " ++ decimal (length bytes) ++ codes " " ++ end) ++ line bytes

abbrev one : Served
one = record { input = ask; items = get (codes "/feed/plain") ∷ []; finish = ended }

-- a start of a request behind a request, and a method that closes
abbrev broken : Served
broken = record { input = ask ++ codes "GE"; items = get (codes "/feed/plain") ∷ Malformed ∷ []; finish = bad }

abbrev post : Served
post = record {
  input = codes "POST /status HTTP/1.1" ++ crlf ++ crlf;
  items = Asked (record { method = codes "POST"; target = codes "/status"; close = false; body = false }) ∷ [];
  finish = closed;
}

-- each connection is answered by what was given for its input, in whatever order
connections_are_served :
    replayed (serving (one ∷ broken ∷ post ∷ []) start)
    (serve one.input ++ (serve post.input ++ (serve [] ++ line (codes "E"))))
    ≡ done (connection feed_response (codes "ended")
    ++ (connection (refusal 405 0 7 true) (codes "closed") ++ connection [] (codes "ended")))
unfolding http_on_literals is_utf8 chars digits encode groups varint payload_bytes field_bytes fields_of_all value message_bytes merged_message values numbered_values read write messages_of since_full changes_by_id entities_of feed_bytes fold_of feed_answer feed_number schedule_number line_within percent_decode texts_of head_of payload_at turn run_within run replayed number answer closes_behind responses connection_of
connections_are_served = refl

broken_connection_is_bad :
    replayed (serving (one ∷ broken ∷ []) start) (serve broken.input ++ line (codes "E"))
    ≡ done (connection (feed_response ++ refusal 400 0 7 true) (codes "bad"))
unfolding http_on_literals is_utf8 chars digits encode groups varint payload_bytes field_bytes fields_of_all value message_bytes merged_message values numbered_values read write messages_of since_full changes_by_id entities_of feed_bytes fold_of feed_answer feed_number schedule_number line_within percent_decode texts_of head_of payload_at turn run_within run replayed number answer closes_behind responses connection_of
broken_connection_is_bad = refl

-- no feed is declared behind a connection; an LF must stand behind the input
connections_begin :
    (replayed start (serve [] ++ line (codes "F a"))
    ≡ record { written = connection [] (codes "ended") ++ (refused_at 7).written; status = 7 })
    × (replayed start (line (codes "Q 7 2") ++ codes "ABC") ≡ refused_at 0)
    × (replayed start (line (codes "Q 7 2") ++ codes "AB") ≡ refused_at 0)
unfolding http_on_literals is_utf8 chars digits encode line_within percent_decode texts_of head_of payload_at turn run_within run replayed number responses connection_of
connections_begin = (refl, refl, refl)

-- ---- lines

-- the longest input; one byte more, a moment past the year 9999 and a word more are no record
connection_lines :
    (head_of (codes "Q 0 16777216") ≡ Some (Connection 0 16777216))
    × (head_of (codes "Q 0 16777217") ≡ None)
    × (head_of (codes "Q 253402300799 0") ≡ Some (Connection 253402300799 0))
    × (head_of (codes "Q 253402300800 0") ≡ None)
    × (head_of (codes "Q 7 0 0") ≡ None)
    × (head_of (codes "Q 7") ≡ None)
unfolding is_utf8 chars encode percent_decode texts_of head_of number
connection_lines = (refl, refl, refl, refl, refl, refl)

-- a connection waits until its input and the byte behind it are there
connections_wait :
    (waits start (line (codes "Q 7 2") ++ codes "AB") ≡ true)
    × (waits start (line (codes "Q 7 2") ++ codes "ABC") ≡ false)
    × (waits start (line (codes "Q 7 16777217")) ≡ false)
unfolding is_utf8 chars encode line_within percent_decode texts_of head_of number waits
connections_wait = (refl, refl, refl)

-- ---- laws

-- the first that is given is served where its input comes
pub first_is_served : (s : Served) (input : List ℕ) (later : List Served) → bytes_eq s.input input ≡ true → connection_of input (s ∷ later) ≡ (s, later)
unfolding connection_of
first_is_served s input later same = rw same refl

-- ---- the items that were given are those of the inputs

abbrev feed_head : RequestHead
feed_head = record {
  blank = [];
  method = codes "GET";
  target = codes "/feed/plain";
  minor = 1;
  line_end = ends_crlf;
  fields = [];
  last = ends_crlf;
}

abbrev post_head : RequestHead
post_head = record feed_head { method = codes "POST"; target = codes "/status" }

feed_is_head : IsRequestHead feed_head
unfolding http_on_literals
feed_is_head = record {
  method = (lit< tt, AllPass-from_list_all is_token_byte feed_head.method refl);
  target = (lit< tt, AllPass-from_list_all is_uri_byte feed_head.target refl);
  target_text = IsUtf8-from_is_utf8 feed_head.target refl;
  minor = lit≤ tt;
  fields = All-nil IsField;
}

post_is_head : IsRequestHead post_head
unfolding http_on_literals
post_is_head = grind (arith, All-nil, AllPass-from_list_all, IsUtf8-from_is_utf8)

-- a head has a method, a space and a target at least
head_long : (head : RequestHead) → IsRequestHead head → 3 ≤ length (print_request head)
unfolding print_request
head_long head is = grind (arith, length-append)

-- two bytes are none
no_head : NoHead (codes "GE")
no_head head rest b = grind (arith, head_long head b.reads.0, length-append (print_request head) rest)

one_is_served : IsServed one
unfolding http_on_literals
one_is_served = grind (arith, feed_is_head)

post_is_served : IsServed post
unfolding http_on_literals
post_is_served = grind (arith, post_is_head)

broken_is_served : IsServed broken
unfolding http_on_literals
broken_is_served = (
  codes "GE",
  record { head = feed_head; begins = record { reads = (feed_is_head, refl); short = lit≤ tt }; is = refl },
  ((λ e. absurd (let long : 2 ≡ 0 = ap length e in omega (arith, long))), no_head, refl, refl),
)
