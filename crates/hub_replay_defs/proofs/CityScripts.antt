-- Whole scripts on the hub of a configuration, with the small city.
use Rattle.std.specs.Prelude.{◌≡◌, ℕ, List, [], ◌∷◌, ◌++◌, length, refl, codes}
use Rattle.std.specs.Fmt.{decimal, digits}
use Rattle.std.specs.Str.{is_utf8, chars}
use lib.Utf8.{encode}
use Rattle.json.specs.Print.{escape_byte, print_from}
use Rattle.percent_encoding.specs.Percent.{percent_decode}
use Rattle.text_defs.specs.Dates.{is_day, date_plus, next_day, date_in}
use Rattle.text_defs.specs.Names.{is_name}
use Rattle.text_defs.specs.Numbers.{number}
use Rattle.pb_wire_defs.specs.Writing.{groups, varint, payload_bytes, field_bytes}
use Rattle.feed_defs.specs.History.{messages_of, since_full, changes_by_id, entities_of}
use Rattle.feed_defs.specs.Rows.{fields_of_all, value, message_bytes, merged_message, values, numbered_values}
use Rattle.feed_defs.specs.Table.{read, write}
use Rattle.sched_types.specs.City.{city}
use Rattle.sched_types.specs.Schedules.{Schedules}
use Rattle.trip_match_defs.specs.Matching.{match_of, by_near}
use Rattle.delay_rule_defs.specs.Delays.{states}
use Rattle.order.specs.Order.{inserted, ordered}
use Rattle.board_defs.specs.Choice.{chosen, added_updates}
use Rattle.board_defs.specs.Feed.{feed_bytes}
use Rattle.board_defs.specs.Fold.{fold_of}
use Rattle.sched_types.specs.Runs.{all_runs}
use Rattle.board_defs.specs.Rows.{run_rows, board_at, board}
use Rattle.board_text_defs.specs.Lines.{between_tabs}
use Rattle.board_text_defs.specs.BoardText.{board_text}
use Rattle.board_text_defs.specs.BoardJson.{board_json}
use Rattle.board_text_defs.specs.Alerts.{alerts_text}
use Rattle.board_text_defs.specs.Status.{status_text}
use Rattle.board_text_defs.specs.UnmatchedText.{unmatched_text}
use Rattle.board_text_defs.specs.Answers.{board_answer, feed_answer, alerts_answer, unmatched_answer, schedule_number, feed_number}
use Rattle.alert_defs.specs.Alerts.{alerts}
use Rattle.alert_defs.specs.Unmatched.{unmatched}
use Rattle.hub_replay_defs.specs.Lines.{line_within, texts_of, head_of}
use Rattle.hub_replay_defs.specs.Record.{payload_at, turn, configured, waits}
use Rattle.hub_replay_defs.specs.Output.{run_within, run, replayed}
use Rattle.hub_replay_defs.specs.Examples.{header, line, done, feed, refused_at}

-- the city with the feeds a and b
abbrev schedules : Schedules
schedules = record {
  plans = record { name = codes "city"; prefix = []; plan = city } ∷ [];
  feeds = record { name = codes "a"; plan = 0; max_age = 0 } ∷ record { name = codes "b"; plan = 0; max_age = 0 } ∷ [];
}

-- a board of one row as JSON
abbrev market : List ℕ
market =
    codes "{\"name\":\"Market\",\"rows\":[{\"date\":\"20250330\",\"delay\":null,\"expected\":1743314400,\"headsign\":\"Hill\",\"platform\":\"S1\",\"route\":\"7\",\"scheduled\":1743314400,\"state\":\"scheduled\",\"trip\":\"T1\"}],\"stop\":\"ST\"}"

-- a board, one of a stop that isn't there, the combined feed of two feeds that said nothing, and the end
questions_are_answered :
    replayed (configured schedules)
    (line (codes "B city ST 1743314000 3600 1 json") ++ (line (codes "B city NO 1743314000 3600 1 text")
    ++ (line (codes "O city") ++ line (codes "E"))))
    ≡ done (line (codes "board " ++ decimal (length market)) ++ (line market
    ++ (line (codes "board none") ++ feed (header 0 0))))
unfolding fold_of messages_of since_full changes_by_id entities_of chosen added_updates match_of by_near date_in is_day date_plus next_day states all_runs run_rows board_at board inserted ordered digits print_from escape_byte board_json board_text between_tabs schedule_number feed_number board_answer feed_answer feed_bytes fields_of_all value message_bytes merged_message values numbered_values read write groups varint payload_bytes field_bytes is_utf8 chars encode percent_decode texts_of head_of line_within payload_at turn run_within run replayed is_name number waits
questions_are_answered = refl

-- the lists beside a board, of feeds that said nothing, and those of what isn't there; alerts have no form
lists_are_answered :
    (replayed (configured schedules)
    (line (codes "A city S3 1743314000 3600 50") ++ (line (codes "A city NO 1743314000 3600 50")
    ++ (line (codes "U city") ++ (line (codes "U town") ++ (line (codes "S") ++ line (codes "E"))))))
    ≡ done (line (codes "alerts 28") ++ (line (codes "feed\tid\tcause\teffect\theader\n")
    ++ (line (codes "alerts none") ++ (line (codes "unmatched 20") ++ (line (codes "feed\tid\tkind\treason\n")
    ++ (line (codes "unmatched none") ++ (line (codes "status 54")
    ++ line (codes "entries\t0\nfeed\taccepted\tlast\tentities\na\t0\t0\t0\nb\t0\t0\t0\n")))))))))
    × (replayed (configured schedules) (line (codes "A city S3 1743314000 3600 50 text")) ≡ refused_at 0)
unfolding fold_of messages_of since_full changes_by_id entities_of chosen match_of by_near date_in is_day date_plus next_day states all_runs run_rows board_at board inserted ordered digits alerts_text alerts_answer alerts unmatched_text unmatched_answer unmatched status_text between_tabs schedule_number is_utf8 chars encode percent_decode texts_of head_of line_within payload_at turn run_within run replayed number waits
lists_are_answered = (refl, refl)

-- a line whose one word is E with its byte escaped ends a script
escapes_are_undone : replayed (configured schedules) (line (codes "%45")) ≡ done []
unfolding is_utf8 chars encode percent_decode texts_of head_of line_within payload_at turn run_within run replayed
escapes_are_undone = refl
