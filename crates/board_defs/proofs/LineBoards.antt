-- The rows of a trip of twenty places under an update: each line computes.
use Rattle.std.specs.Prelude.{◌≡◌, ℕ, ◌==◌, Some, None, Option, List, [], ◌∷◌, map, filter, refl, ℤ, pos, codes}
use Rattle.std.specs.Fmt.{digits}
use Rattle.std.specs.List.{list_any}
use Rattle.rt_types.specs.declared.enums.StopRelation.TheVariants.{Skipped, NoData}
use Rattle.rt_types.specs.declared.trip_update.StopUpdate.{StopUpdate}
use Rattle.text_defs.specs.Dates.{is_day, date_plus, next_day, date_in}
use Rattle.delay_rule_defs.specs.Delays.{states}
use Rattle.delay_rule_defs.specs.Line.{line}
use Rattle.trip_match_defs.specs.Matching.{match_of, by_near}
use Rattle.board_defs.specs.declared.row.RowState.{RowState}
use Rattle.board_defs.specs.declared.row.RowState.TheVariants as state
use Rattle.board_defs.specs.Choice.{Update, chosen}
use Rattle.board_defs.specs.Rows.{BoardRow, run_rows}
use Rattle.board_defs.proofs.Parts.{trip_on, late, stop_update, trip_update}

-- what a row says of its place, whose number counts from 0
abbrev told : BoardRow → ℕ × RowState × Option ℤ × ℤ
told b = (b.place, b.row.state, b.row.delay, b.row.expected)

-- an update of the trip
abbrev update : List StopUpdate → Update
update updates = record {
  stamp = 1743314000;
  feed = 0;
  id = codes "u";
  update = trip_update (trip_on (codes "T") (codes "20250330") None) updates;
}

-- the rows of some places
abbrev told_of : List ℕ → List StopUpdate → List (ℕ × RowState × Option ℤ × ℤ)
told_of places updates =
    map told
    (filter (λ b. list_any (λ place. place == b.place) places)
    (run_rows line 0 (update updates ∷ []) (record { trip = 0; day = 0 })))

-- late by 300 at sequence 3, by 60 at 8, and nothing is known from 10 on
goes_on : told_of (1 ∷ 6 ∷ 8 ∷ 9 ∷ []) (stop_update 3 (late 300) None ∷ stop_update 8 (late 60) None ∷ stop_update 10 None (Some NoData) ∷ [])
    ≡ (1, state.Scheduled, None, pos 1743314460)
    ∷ (6, state.Live, Some (pos 300), pos 1743315060)
    ∷ (8, state.Live, Some (pos 60), pos 1743314940)
    ∷ (9, state.Scheduled, None, pos 1743314940)
    ∷ []
unfolding chosen match_of by_near date_in is_day date_plus next_day states run_rows digits
goes_on = refl

-- a skipped place passes the delay on
skipped : told_of (4 ∷ 5 ∷ []) (stop_update 3 (late 300) None ∷ stop_update 5 None (Some Skipped) ∷ stop_update 8 (late 60) None ∷ [])
    ≡ (4, state.Skipped, None, pos 1743314640) ∷ (5, state.Live, Some (pos 300), pos 1743315000) ∷ []
unfolding chosen match_of by_near date_in is_day date_plus next_day states run_rows digits
skipped = refl
