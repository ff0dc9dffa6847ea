-- Whole responses about the small city: each line computes.
use Rattle.std.specs.Prelude.{◌≡◌, ℕ, Bool, true, false, List, [], ◌∷◌, ◌++◌, length, take, None, refl, codes}
use Rattle.std.specs.Fmt.{decimal, digits}
use Rattle.json.specs.Print.{escape_byte, print_from}
use Rattle.text_defs.specs.Cleaned.{line_feed}
use Rattle.pb_wire_defs.specs.Writing.{groups, varint, payload_bytes, field_bytes}
use Rattle.rt_types.specs.declared.message.Entity.{Entity}
use Rattle.feed_defs.specs.declared.history.Entry.{Entry}
use Rattle.feed_defs.specs.Rows.{fields_of_all, value, message_bytes, merged_message, values, numbered_values}
use Rattle.feed_defs.specs.Table.{read, write}
use Rattle.text_defs.specs.Dates.{is_day, date_plus, next_day, date_in}
use Rattle.feed_defs.specs.History.{messages_of, since_full, changes_by_id, entities_of}
use Rattle.sched_types.specs.City.{city}
use Rattle.sched_types.specs.Schedules.{Schedules}
use Rattle.trip_match_defs.specs.Matching.{match_of, by_near}
use Rattle.delay_rule_defs.specs.Delays.{states}
use Rattle.order.specs.Order.{inserted, ordered}
use Rattle.board_defs.specs.Choice.{chosen, added_updates}
use Rattle.board_defs.specs.Feed.{feed_bytes}
use Rattle.board_defs.specs.Fold.{FeedFold, fold_of}
use Rattle.sched_types.specs.Runs.{all_runs}
use Rattle.board_defs.specs.Rows.{run_rows, board_at, board}
use Rattle.board_text_defs.specs.Lines.{tab, between_tabs}
use Rattle.board_text_defs.specs.BoardText.{board_text}
use Rattle.board_text_defs.specs.BoardJson.{board_json}
use Rattle.board_text_defs.specs.Alerts.{alerts_text}
use Rattle.board_text_defs.specs.Status.{status_text}
use Rattle.board_text_defs.specs.UnmatchedText.{unmatched_text}
use Rattle.board_text_defs.specs.Answers.{board_answer, feed_answer, alerts_answer, unmatched_answer, schedule_number}
use Rattle.alert_defs.specs.Alerts.{alerts}
use Rattle.alert_defs.specs.Unmatched.{unmatched}
use Rattle.delta_defs.specs.Changes.{changes_bytes}
use Rattle.delta_defs.specs.Kept.{KeptView}
use Rattle.http_defs.specs.declared.request.Item.{Item}
use Rattle.http_defs.specs.declared.request.Item.TheVariants.{Asked, Malformed}
use Rattle.http_defs.specs.Responses.{crlf, refusal}
use Rattle.http_defs.proofs.OnLiterals.{http_on_literals}
use Rattle.board_defs.proofs.Parts.{entry_of, message_at}
use Rattle.http_serve_defs.specs.Answers.{answer, closes_behind}
use Rattle.http_serve_defs.specs.Connections.{kept_with, responses}

-- the city with the feeds a and b, which have said nothing
abbrev schedules : Schedules
schedules = record {
  plans = record { name = codes "city"; prefix = []; plan = city } ∷ [];
  feeds = record { name = codes "a"; plan = 0; max_age = 0 } ∷ record { name = codes "b"; plan = 0; max_age = 0 } ∷ [];
}

-- a GET of that target that has no body and doesn't ask to close
abbrev get : List ℕ → Item
get target =
    Asked (record { method = codes "GET"; target = target; close = false; body = false })

-- the response of that hub at 07:53:20
abbrev answered : Item → Bool → List ℕ
answered item thousandth = answer schedules item thousandth 1743314000 0 (fold_of 2 []) []

-- fields with tabs between them, and what ends their line
abbrev fields : List (List ℕ) → List ℕ
fields [] = line_feed
fields (field ∷ []) = field ++ line_feed
fields (field ∷ next ∷ more) = field ++ tab ++ fields (next ∷ more)

-- a head, where there is no Allow, and an empty line
abbrev typed_head : List ℕ → List ℕ → ℕ → ℕ → List ℕ → List ℕ
typed_head status kind size number connection =
    codes "HTTP/1.1 " ++ status ++ crlf
    ++ codes "Content-Type: " ++ kind ++ crlf
    ++ codes "Content-Length: " ++ decimal size ++ crlf
    ++ codes "X-Hub-Sequence: " ++ decimal number ++ crlf
    ++ codes "X-Hub-Moment: 1743314000" ++ crlf
    ++ codes "Connection: " ++ connection ++ crlf ++ crlf

-- that of a text, where no message was accepted
abbrev head : List ℕ → ℕ → List ℕ → List ℕ
head status size connection = typed_head status (codes "text/plain; charset=utf-8") size 0 connection

-- the first departure of the harbour
abbrev harbour : List ℕ
harbour =
    fields (codes "stop" ∷ codes "S3" ∷ codes "Harbour" ∷ [])
    ++ (fields (codes "expected" ∷ codes "scheduled" ∷ codes "delay" ∷ codes "state" ∷ codes "route"
    ∷ codes "headsign" ∷ codes "trip" ∷ codes "date" ∷ codes "platform" ∷ [])
    ++ fields (codes "1743315000" ∷ codes "1743315000" ∷ codes "-" ∷ codes "scheduled" ∷ codes "7"
    ∷ codes "Hill" ∷ codes "T1" ∷ codes "20250330" ∷ codes "S3" ∷ []))

-- a board, on a connection that stays open, and as the thousandth response of one
board_is_answered :
    (answered (get (codes "/board/city/S3?limit=1")) false
    ≡ head (codes "200 OK") 137 (codes "keep-alive") ++ harbour)
    × (answered (get (codes "/board/city/S3?limit=1")) true
    ≡ head (codes "200 OK") 137 (codes "close") ++ harbour)
unfolding http_on_literals fold_of messages_of since_full changes_by_id entities_of chosen added_updates match_of by_near date_in is_day date_plus next_day states all_runs run_rows board_at board inserted ordered digits between_tabs board_text schedule_number board_answer answer closes_behind
board_is_answered = (refl, refl)

-- what isn't there: a stop, a schedule
nothing_is_found :
    (answered (get (codes "/board/city/NO")) false
    ≡ head (codes "404 Not Found") 10 (codes "keep-alive") ++ codes "not found" ++ line_feed)
    × (answered (get (codes "/board/town/S3")) false ≡ refusal 404 0 1743314000 false)
    × (answered (get (codes "/feed/town")) false ≡ refusal 404 0 1743314000 false)
    × (answered (get (codes "/unmatched/town")) true ≡ refusal 404 0 1743314000 true)
    × (answered (get (codes "/alerts/city/NO")) false ≡ refusal 404 0 1743314000 false)
unfolding http_on_literals fold_of messages_of since_full changes_by_id entities_of chosen added_updates match_of by_near date_in is_day date_plus next_day states all_runs run_rows board_at board inserted ordered digits schedule_number board_answer feed_answer unmatched_answer alerts_answer alerts answer closes_behind
nothing_is_found = (refl, refl, refl, refl, refl)

-- the lists beside a board, of feeds that said nothing
lists_are_answered :
    (answered (get (codes "/status")) false
    ≡ head (codes "200 OK") 54 (codes "keep-alive")
    ++ codes "entries\t0\nfeed\taccepted\tlast\tentities\na\t0\t0\t0\nb\t0\t0\t0\n")
    × (answered (get (codes "/unmatched/city")) false
    ≡ head (codes "200 OK") 20 (codes "keep-alive") ++ codes "feed\tid\tkind\treason\n")
    × (answered (get (codes "/alerts/city/S3")) false
    ≡ head (codes "200 OK") 28 (codes "keep-alive") ++ codes "feed\tid\tcause\teffect\theader\n")
unfolding http_on_literals fold_of messages_of since_full changes_by_id entities_of chosen added_updates match_of by_near date_in is_day date_plus next_day states all_runs run_rows board_at board inserted ordered digits between_tabs schedule_number status_text unmatched_answer unmatched_text unmatched alerts_answer alerts_text alerts answer closes_behind
lists_are_answered = (refl, refl, refl)

-- refusals, by the rule that applies first
what_is_wrong_is_refused :
    (answered (get (codes "/board/city/S3?limit=0")) false ≡ refusal 400 0 1743314000 false)
    × (answered (get (codes "*")) false ≡ refusal 400 0 1743314000 false)
    × (answered Malformed false ≡ refusal 400 0 1743314000 true)
    × (answered (Asked (record { method = codes "POST"; target = codes "/status"; close = false; body = true })) false
    ≡ refusal 405 0 1743314000 true)
    × (answered (Asked (record { method = codes "GET"; target = codes "*"; close = false; body = true })) false
    ≡ refusal 400 0 1743314000 true)
    × (answered (Asked (record { method = codes "GET"; target = codes "/no"; close = true; body = false })) false
    ≡ refusal 404 0 1743314000 true)
unfolding http_on_literals answer closes_behind
what_is_wrong_is_refused = (refl, refl, refl, refl, refl, refl)

-- ---- other types, and what was accepted

-- an entity with an id alone
abbrev nameless : Entity
nameless = record {
  id = codes "x";
  is_deleted = None;
  trip_update = None;
  vehicle = None;
  alert = None;
  unknown = [];
}

-- a sends it at the stamp 5, and b nothing at the stamp 7
abbrev sent : List Entry
sent = entry_of 0 (message_at 5 (nameless ∷ [])) ∷ entry_of 1 (message_at 7 []) ∷ []

-- the response of the hub after so many of these messages
abbrev after : ℕ → Item → List ℕ
after number item = answer schedules item false 1743314000 number (fold_of 2 (take number sent)) []

-- a board of one row as JSON
abbrev market : List ℕ
market =
    codes "{\"name\":\"Market\",\"rows\":[{\"date\":\"20250330\",\"delay\":null,\"expected\":1743314400,\"headsign\":\"Hill\",\"platform\":\"S1\",\"route\":\"7\",\"scheduled\":1743314400,\"state\":\"scheduled\",\"trip\":\"T1\"}],\"stop\":\"ST\"}"

json_is_answered :
    after 0 (get (codes "/board/city/ST?limit=1&format=json"))
    ≡ typed_head (codes "200 OK") (codes "application/json") (length market) 0 (codes "keep-alive") ++ market
unfolding http_on_literals fold_of messages_of since_full changes_by_id entities_of chosen added_updates match_of by_near date_in is_day date_plus next_day states all_runs run_rows board_at board inserted ordered digits print_from escape_byte board_json schedule_number board_answer answer closes_behind
json_is_answered = refl

-- the status after no message, after one and after two
numbers_are_told :
    (after 1 (get (codes "/status"))
    ≡ typed_head (codes "200 OK") (codes "text/plain; charset=utf-8") 54 1 (codes "keep-alive")
    ++ codes "entries\t1\nfeed\taccepted\tlast\tentities\na\t1\t5\t1\nb\t0\t0\t0\n")
    × (after 2 (get (codes "/status"))
    ≡ typed_head (codes "200 OK") (codes "text/plain; charset=utf-8") 54 2 (codes "keep-alive")
    ++ codes "entries\t2\nfeed\taccepted\tlast\tentities\na\t1\t5\t1\nb\t1\t7\t0\n")
    × (after 2 (get (codes "/status/"))
    ≡ refusal 404 2 1743314000 false)
unfolding http_on_literals fold_of messages_of since_full changes_by_id entities_of inserted ordered digits between_tabs status_text schedule_number answer closes_behind
numbers_are_told = (refl, refl, refl)

-- the combined feed has the latest stamp of its feeds, and the entity under its feed
feed_is_answered :
    after 2 (get (codes "/feed/city"))
    ≡ typed_head (codes "200 OK") (codes "application/x-protobuf") 18 2 (codes "keep-alive")
    ++ 10 ∷ 9 ∷ 10 ∷ 3 ∷ 50 ∷ 46 ∷ 48 ∷ 16 ∷ 0 ∷ 24 ∷ 7 ∷ 18 ∷ 5 ∷ 10 ∷ 3 ∷ 97 ∷ 58 ∷ 120 ∷ []
unfolding http_on_literals groups varint payload_bytes field_bytes fields_of_all value message_bytes merged_message values numbered_values read write fold_of messages_of since_full changes_by_id entities_of inserted ordered digits feed_bytes schedule_number feed_answer answer closes_behind
feed_is_answered = refl

-- ---- what changed since a look

-- a schedule of the feed a alone
abbrev plain : Schedules
plain = record {
  plans = record { name = codes "plain"; prefix = []; plan = city } ∷ [];
  feeds = record { name = codes "a"; plan = 0; max_age = 0 } ∷ [];
}

-- what a says after so many messages, and the views that are kept with a look then
abbrev said : ℕ → List FeedFold
said number = fold_of 1 (take number sent)

abbrev looked : ℕ → List KeptView → List KeptView
looked number kept = kept_with number (said number) kept

-- the response at that look
abbrev since : ℕ → List KeptView → List ℕ → List ℕ
since number kept target =
    answer plain (get target) false 1743314000 number (said number) (looked number kept)

abbrev feed_head : ℕ → ℕ → List ℕ
feed_head size number = typed_head (codes "200 OK") (codes "application/x-protobuf") size number (codes "keep-alive")

-- the look's own view is kept, so nothing changed since
own_view_is_kept :
    (since 0 [] (codes "/feed/plain?since=0")
    ≡ feed_head 11 0 ++ 0x0a ∷ 0x09 ∷ 0x0a ∷ 0x03 ∷ 0x32 ∷ 0x2e ∷ 0x30 ∷ 0x10 ∷ 0x01 ∷ 0x18 ∷ 0x00 ∷ [])
    × (since 1 (looked 0 []) (codes "/feed/plain?since=1")
    ≡ feed_head 11 1 ++ 0x0a ∷ 0x09 ∷ 0x0a ∷ 0x03 ∷ 0x32 ∷ 0x2e ∷ 0x30 ∷ 0x10 ∷ 0x01 ∷ 0x18 ∷ 0x05 ∷ [])
unfolding http_on_literals groups varint payload_bytes field_bytes fields_of_all value message_bytes merged_message values numbered_values read write fold_of messages_of since_full changes_by_id entities_of inserted ordered digits changes_bytes schedule_number answer closes_behind
own_view_is_kept = (refl, refl)

-- since the look before its message a has an entity more; all of it is told where that look isn't kept, or none is named
changes_are_answered :
    (since 1 (looked 0 []) (codes "/feed/plain?since=0")
    ≡ feed_head 18 1 ++ 0x0a ∷ 0x09 ∷ 0x0a ∷ 0x03 ∷ 0x32 ∷ 0x2e ∷ 0x30 ∷ 0x10 ∷ 0x01 ∷ 0x18 ∷ 0x05 ∷ 0x12 ∷ 0x05 ∷ 0x0a ∷ 0x03 ∷ 0x61 ∷ 0x3a ∷ 0x78 ∷ [])
    × (since 1 [] (codes "/feed/plain?since=0")
    ≡ feed_head 18 1 ++ 0x0a ∷ 0x09 ∷ 0x0a ∷ 0x03 ∷ 0x32 ∷ 0x2e ∷ 0x30 ∷ 0x10 ∷ 0x00 ∷ 0x18 ∷ 0x05 ∷ 0x12 ∷ 0x05 ∷ 0x0a ∷ 0x03 ∷ 0x61 ∷ 0x3a ∷ 0x78 ∷ [])
    × (since 1 (looked 0 []) (codes "/feed/plain?since=7") ≡ since 1 [] (codes "/feed/plain?since=0"))
    × (since 1 (looked 0 []) (codes "/feed/plain") ≡ since 1 [] (codes "/feed/plain?since=0"))
unfolding http_on_literals groups varint payload_bytes field_bytes fields_of_all value message_bytes merged_message values numbered_values read write fold_of messages_of since_full changes_by_id entities_of inserted ordered digits feed_bytes changes_bytes schedule_number feed_answer answer closes_behind
changes_are_answered = (refl, refl, refl, refl)

-- what isn't there, and what is no number
wrong_changes_are_refused :
    (since 0 [] (codes "/feed/town?since=0") ≡ refusal 404 0 1743314000 false)
    × (since 0 [] (codes "/feed/plain?since=x") ≡ refusal 400 0 1743314000 false)
unfolding http_on_literals fold_of messages_of since_full changes_by_id entities_of inserted ordered digits schedule_number answer closes_behind
wrong_changes_are_refused = (refl, refl)

-- ---- connections

-- the requests of a connection: from the thousandth place on it closes
thousandth_closes :
    responses schedules 1743314000 0 (fold_of 2 []) [] 999 (get (codes "/no") ∷ get (codes "/no") ∷ [])
    ≡ refusal 404 0 1743314000 false ++ refusal 404 0 1743314000 true
unfolding http_on_literals fold_of messages_of since_full changes_by_id entities_of answer closes_behind responses
thousandth_closes = refl
