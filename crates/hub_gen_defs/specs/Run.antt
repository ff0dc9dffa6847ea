-- What the hub does with a sample, and what that prints.
use Rattle.std.specs.Prelude.{ℕ, ◌-◌, List, [], ◌∷◌, ◌++◌, length, fold, unwrap_or, ℤ, pos, ◌+ℤ◌, Result, codes}
use Rattle.std.specs.Fmt.{decimal, signed_decimal}
use Rattle.std.specs.List.{flat_map, range_with_len}
use Rattle.text_defs.specs.Cleaned.{line_feed}
use Rattle.feed_defs.specs.declared.history.Entry.{Entry}
use Rattle.feed_defs.specs.History.{offer_outcome}
use Rattle.sched_types.specs.Schedules.{Schedules}
use Rattle.sched_types.specs.Timetable.{Timetable}
use Rattle.sched_load_defs.specs.Loading.{timetable}
use Rattle.sched_load_defs.specs.declared.conf.PlanConf.{PlanConf}
use Rattle.sched_load_defs.specs.declared.fault.LoadFault.{LoadFault}
use Rattle.board_defs.specs.declared.query.BoardQuery.{BoardQuery}
use Rattle.board_defs.specs.declared.row.Row.{Row}
use Rattle.board_defs.specs.Fold.{FeedFold, fold_of}
use Rattle.board_defs.specs.Rows.{rows}
use Rattle.hub_gen_defs.specs.Network.{sample_files, sample_name, stop_id}
use Rattle.hub_gen_defs.specs.Messages.{Offered, offers_of}

-- the week of the service, in Coordinated Universal Time
abbrev pub sample_conf : PlanConf
sample_conf = record { zone = codes "UTC0"; first = 20250101; days = 7 }

-- the timetable of so many trips, or the first fault of its files
abbrev pub sample_timetable : ℕ → Result Timetable LoadFault
sample_timetable trips = timetable (sample_files trips) sample_name sample_conf

-- a hub of that timetable and of two feeds
abbrev pub sample_schedules : Timetable → Schedules
sample_schedules t = record {
  plans = record { name = sample_name; prefix = []; plan = t } ∷ [];
  feeds = record { name = codes "a"; plan = 0; max_age = 0 }
      ∷ record { name = codes "b"; plan = 0; max_age = 0 } ∷ [];
}

-- the history behind one offer more
abbrev pub history_with : List Entry → Offered → List Entry
history_with history offer = (offer_outcome offer.feed offer.bytes history).history

-- the history of a hub to which these were offered in order
unfoldable pub history_after : List Offered → List Entry
history_after offers = fold history_with [] offers

-- ---- the boards

-- how many stops have a board, from the first on
abbrev pub boards : ℕ
boards = 10

-- the board of a stop, from the first day's noon on
abbrev pub query_at : ℕ → BoardQuery
query_at stop = record {
  plan = 0;
  stop = stop_id stop;
  at = 1735732800;
  span = 3600;
  limit = 50;
}

-- its rows; none where there is no such stop
abbrev pub rows_at : Schedules → List FeedFold → ℕ → List Row
rows_at schedules folds stop = unwrap_or (rows schedules folds (query_at stop)) []

-- the rows of all boards
unfoldable pub board_rows : Schedules → List FeedFold → List Row
board_rows schedules folds = flat_map (rows_at schedules folds) (range_with_len 0 boards)

-- the sum of the delays that are known, in seconds
abbrev pub sum_with : ℤ → Row → ℤ
sum_with sum row = sum +ℤ unwrap_or row.delay (pos 0)

abbrev pub delays_of : List Row → ℤ
delays_of all = fold sum_with (pos 0) all

-- ---- what is printed

-- the sizes of the sample, how many messages were accepted and refused, and what the boards show
abbrev pub counts_line : ℕ → ℕ → ℕ → ℕ → List Row → List ℕ
counts_line trips messages accepted refused all =
    codes "trips " ++ decimal trips ++ codes " messages " ++ decimal messages
    ++ codes " accepted " ++ decimal accepted ++ codes " refused " ++ decimal refused
    ++ codes " rows " ++ decimal (length all) ++ codes " delays " ++ signed_decimal (delays_of all)
    ++ line_feed

-- the same of the history that the messages left
abbrev pub line_after : ℕ → ℕ → Schedules → List Entry → List ℕ
line_after trips messages schedules history =
    counts_line trips messages (length history) (messages - length history)
    (board_rows schedules (fold_of (length schedules.feeds) history))

-- the line of a sample, on its timetable
unfoldable pub sample_line : ℕ → ℕ → ℕ → Timetable → List ℕ
sample_line seed trips messages t =
    line_after trips messages (sample_schedules t) (history_after (offers_of seed trips messages))
