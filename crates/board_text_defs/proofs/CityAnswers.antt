-- Answers about the small city: each line computes.
use Rattle.std.specs.Prelude.{◌≡◌, ℕ, List, [], ◌∷◌, ◌++◌, Some, None, Option, Bool, true, false, refl, pos, codes}
use Rattle.std.specs.Fmt.{digits}
use Rattle.json.specs.Print.{escape_byte, print_from}
use Rattle.text_defs.specs.Cleaned.{line_feed}
use Rattle.text_defs.specs.Dates.{is_day, date_plus, next_day, date_in}
use Rattle.feed_defs.specs.History.{messages_of, since_full, changes_by_id, entities_of}
use Rattle.sched_types.specs.City.{city}
use Rattle.sched_types.specs.Schedules.{Schedules}
use Rattle.trip_match_defs.specs.Matching.{match_of, by_near}
use Rattle.delay_rule_defs.specs.Delays.{states}
use Rattle.order.specs.Order.{inserted, ordered}
use Rattle.board_defs.specs.declared.row.Row.{Row}
use Rattle.board_defs.specs.declared.row.RowState.TheVariants as state
use Rattle.board_defs.specs.Choice.{chosen, added_updates}
use Rattle.board_defs.specs.Fold.{fold_of}
use Rattle.sched_types.specs.Runs.{all_runs}
use Rattle.board_defs.specs.Rows.{run_rows, board_at, board}
use Rattle.board_text_defs.specs.Lines.{tab, between_tabs}
use Rattle.board_text_defs.specs.BoardText.{board_text, row_line}
use Rattle.board_text_defs.specs.BoardJson.{board_json}
use Rattle.board_text_defs.specs.Answers.{BoardAsked, board_answer, feed_answer, schedule_number, feed_number}

-- the city with the feeds a and b, which have said nothing
abbrev schedules : Schedules
schedules = record {
  plans = record { name = codes "city"; prefix = []; plan = city } ∷ [];
  feeds = record { name = codes "a"; plan = 0; max_age = 0 } ∷ record { name = codes "b"; plan = 0; max_age = 0 } ∷ [];
}

-- the market, for an hour from 07:53:20 on
abbrev asked : List ℕ → List ℕ → ℕ → Bool → BoardAsked
asked schedule stop limit json = record {
  schedule = schedule;
  stop = stop;
  at = 1743314000;
  span = 3600;
  limit = limit;
  json = json;
}

abbrev answered : BoardAsked → Option (List ℕ)
answered question = board_answer schedules (fold_of 2 []) question

-- fields with tabs between them, and what ends their line
abbrev fields : List (List ℕ) → List ℕ
fields [] = line_feed
fields (field ∷ []) = field ++ line_feed
fields (field ∷ next ∷ more) = field ++ tab ++ fields (next ∷ more)

abbrev departure : List ℕ → List ℕ → List ℕ → List ℕ
departure at trip platform =
    fields (at ∷ at ∷ codes "-" ∷ codes "scheduled" ∷ codes "7" ∷ codes "Hill" ∷ trip ∷ codes "20250330"
    ∷ platform ∷ [])

-- two rows of the market as text
as_text : answered (asked (codes "city") (codes "ST") 2 false)
    ≡ Some (fields (codes "stop" ∷ codes "ST" ∷ codes "Market" ∷ [])
    ++ (fields (codes "expected" ∷ codes "scheduled" ∷ codes "delay" ∷ codes "state" ∷ codes "route"
    ∷ codes "headsign" ∷ codes "trip" ∷ codes "date" ∷ codes "platform" ∷ [])
    ++ (departure (codes "1743314400") (codes "T1") (codes "S1")
    ++ (departure (codes "1743315660") (codes "T1") (codes "S2") ++ []))))
unfolding fold_of messages_of since_full changes_by_id entities_of chosen added_updates match_of by_near date_in is_day date_plus next_day states all_runs run_rows board_at board inserted ordered digits between_tabs board_text schedule_number board_answer
as_text = refl

-- one row as JSON
as_json : answered (asked (codes "city") (codes "ST") 1 true)
    ≡ Some (codes "{\"name\":\"Market\",\"rows\":[{\"date\":\"20250330\",\"delay\":null,\"expected\":1743314400,\"headsign\":\"Hill\",\"platform\":\"S1\",\"route\":\"7\",\"scheduled\":1743314400,\"state\":\"scheduled\",\"trip\":\"T1\"}],\"stop\":\"ST\"}")
unfolding fold_of messages_of since_full changes_by_id entities_of chosen added_updates match_of by_near date_in is_day date_plus next_day states all_runs run_rows board_at board inserted ordered digits print_from escape_byte board_json schedule_number board_answer
as_json = refl

-- a stop and a schedule that aren't there
not_there : (answered (asked (codes "city") (codes "NO") 2 false) ≡ None)
    × (answered (asked (codes "town") (codes "ST") 2 false) ≡ None)
    × (feed_answer schedules (fold_of 2 []) (codes "town") ≡ None)
    × (feed_number schedules (codes "b") ≡ Some 1) × (feed_number schedules (codes "c") ≡ None)
unfolding fold_of messages_of since_full changes_by_id entities_of chosen added_updates match_of by_near date_in is_day date_plus next_day states all_runs run_rows board_at board inserted ordered digits schedule_number feed_number feed_answer board_answer
not_there = (refl, refl, refl, refl, refl)

-- a row with a delay, one before 1970, and texts with control characters: a line of text keeps none, a
-- string of JSON escapes them
abbrev odd : Row
odd = record {
  expected = pos 60;
  scheduled = None;
  delay = Some (pos 5);
  state = state.Added;
  route = 9 ∷ 34 ∷ [];
  headsign = [];
  trip = codes "X" ++ 10 ∷ [];
  date = [];
  platform = 127 ∷ [];
}

odd_texts : (row_line odd ≡ fields (codes "60" ∷ codes "-" ∷ codes "5" ∷ codes "added" ∷ codes " \"" ∷ []
    ∷ codes "X " ∷ [] ∷ codes " " ∷ []))
    × (board_json [] [] (odd ∷ [])
    ≡ codes "{\"name\":\"\",\"rows\":[{\"date\":\"\",\"delay\":5,\"expected\":60,\"headsign\":\"\",\"platform\":\""
    ++ 127 ∷ codes "\",\"route\":\"\\t\\\"\",\"scheduled\":null,\"state\":\"added\",\"trip\":\"X\\n\"}],\"stop\":\"\"}")
unfolding digits between_tabs print_from escape_byte board_json
odd_texts = (refl, refl)
