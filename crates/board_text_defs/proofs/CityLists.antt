-- Lists of the small city: each line computes.
use Rattle.std.specs.Prelude.{◌≡◌, ℕ, List, [], ◌∷◌, Some, None, Option, false, refl, codes}
use Rattle.std.specs.Fmt.{digits}
use Rattle.json.specs.Print.{escape_byte, print_from}
use Rattle.rt_types.specs.declared.message.Entity.{Entity}
use Rattle.text_defs.specs.Dates.{is_day, date_plus, next_day, date_in}
use Rattle.feed_defs.specs.declared.history.Entry.{Entry}
use Rattle.feed_defs.specs.History.{messages_of, since_full, changes_by_id, entities_of}
use Rattle.sched_types.specs.City.{city}
use Rattle.sched_types.specs.Schedules.{Schedules}
use Rattle.trip_match_defs.specs.Matching.{match_of, by_near}
use Rattle.delay_rule_defs.specs.Delays.{states}
use Rattle.order.specs.Order.{inserted, ordered}
use Rattle.board_defs.specs.Choice.{chosen, added_updates}
use Rattle.board_defs.specs.Fold.{fold_of}
use Rattle.sched_types.specs.Runs.{all_runs}
use Rattle.board_defs.specs.Rows.{run_rows, board_at, board}
use Rattle.alert_defs.specs.Alerts.{is_active, concerns, alerts}
use Rattle.alert_defs.specs.Touching.{touches}
use Rattle.alert_defs.specs.Unmatched.{unmatched}
use Rattle.board_text_defs.specs.Lines.{between_tabs}
use Rattle.board_text_defs.specs.Alerts.{alerts_text, alerts_json}
use Rattle.board_text_defs.specs.Status.{status_text}
use Rattle.board_text_defs.specs.UnmatchedText.{unmatched_text}
use Rattle.board_text_defs.specs.Answers.{Question, answer_to, alerts_answer, unmatched_answer, schedule_number}
use Rattle.board_text_defs.specs.Answers.Question.{AlertsOf, UnmatchedOf, StatusOf}

-- the city with the feed a
abbrev schedules : Schedules
schedules = record {
  plans = record { name = codes "city"; prefix = []; plan = city } ∷ [];
  feeds = record { name = codes "a"; plan = 0; max_age = 0 } ∷ [];
}

-- one message of the feed a
abbrev sent : List Entity → List Entry
sent entities = record {
  feed = 0;
  message = record {
    header = record { version = codes "2.0"; incrementality = None; timestamp = Some 5; unknown = [] };
    entity = entities;
    unknown = [];
  };
} ∷ []

-- the lift at the harbour is out from 07:53:20 up to 08:10
abbrev lift_out : Entity
lift_out = record {
  id = codes "w";
  is_deleted = None;
  trip_update = None;
  vehicle = None;
  alert = Some (record {
    active_period = record { start = Some 1743314000; end = Some 1743315000; unknown = [] } ∷ [];
    informed_entity = record {
      agency_id = None;
      route_id = None;
      route_type = None;
      trip = None;
      stop_id = Some (codes "S3");
      direction_id = None;
      unknown = [];
    } ∷ [];
    cause = None;
    effect = None;
    header_text = Some (record {
      translation = record { text = codes "Lift out"; language = None; unknown = [] } ∷ [];
      unknown = [];
    });
    description_text = None;
    unknown = [];
  });
  unknown = [];
}

-- the update of a trip that isn't there
abbrev about_no_run : Entity
about_no_run = record {
  id = codes "u";
  is_deleted = None;
  trip_update = Some (record {
    trip = record {
      trip_id = Some (codes "T8");
      start_time = None;
      start_date = None;
      relation = None;
      route_id = None;
      direction_id = None;
      unknown = [];
    };
    stop_time_update = [];
    vehicle = None;
    timestamp = None;
    delay = None;
    unknown = [];
  });
  vehicle = None;
  alert = None;
  unknown = [];
}

abbrev harbour : List ℕ → ℕ → Question
harbour schedule at = AlertsOf (record {
  schedule = schedule;
  stop = codes "S3";
  at = at;
  span = 3600;
  limit = 50;
  json = false;
})

abbrev told : List Entity → Question → Option (List ℕ)
told entities question = answer_to schedules (fold_of 1 (sent entities)) question

-- under the names of the columns the alert; a second later it has ended
alerts_told :
    (told (lift_out ∷ []) (harbour (codes "city") 1743314999)
    ≡ Some (codes "feed\tid\tcause\teffect\theader\na\tw\t-\t-\tLift out\n"))
    × (told (lift_out ∷ []) (harbour (codes "city") 1743315000) ≡ Some (codes "feed\tid\tcause\teffect\theader\n"))
    × (told (lift_out ∷ []) (harbour (codes "town") 1743314999) ≡ None)
unfolding alerts_answer alerts_text alerts is_active concerns touches fold_of messages_of since_full changes_by_id entities_of chosen added_updates match_of by_near date_in is_day date_plus next_day states all_runs run_rows board_at board inserted ordered digits between_tabs schedule_number
alerts_told = (refl, refl, refl)

-- one alert as JSON
alerts_spelled : alerts_json schedules.feeds (codes "S3") (record { feed = 0; id = codes "w"; cause = Some 9; effect = None; header = codes "Lift out" } ∷ [])
    ≡ codes "{\"alerts\":[{\"cause\":9,\"effect\":null,\"feed\":\"a\",\"header\":\"Lift out\",\"id\":\"w\"}],\"stop\":\"S3\"}"
unfolding alerts_json digits print_from escape_byte
alerts_spelled = refl

-- one message of no entity was accepted
status_told : told [] StatusOf ≡ Some (codes "entries\t1\nfeed\taccepted\tlast\tentities\na\t1\t5\t0\n")
unfolding status_text fold_of messages_of since_full changes_by_id entities_of digits between_tabs
status_told = refl

unmatched_told : told (about_no_run ∷ []) (UnmatchedOf (codes "city")) ≡ Some (codes "feed\tid\tkind\treason\na\tu\ttrip\tnotrip\n")
unfolding unmatched_answer unmatched_text unmatched fold_of messages_of since_full changes_by_id entities_of match_of by_near date_in is_day date_plus next_day digits between_tabs schedule_number
unmatched_told = refl
