-- A list of the trip updates and vehicles that are about no run, as text: a line with the names of
-- the columns and a line for each row.
use Rattle.std.specs.Prelude.{ℕ, Bool, true, false, List, [], ◌∷◌, ◌++◌, codes}
use Rattle.std.specs.List.{flat_map}
use Rattle.sched_types.specs.declared.plans.NamedFeed.{NamedFeed}
use Rattle.trip_match_defs.specs.declared.found.Why.{Why}
use Rattle.trip_match_defs.specs.declared.found.Why.TheVariants as why
use Rattle.alert_defs.specs.declared.rows.Unmatched.{Unmatched}
use Rattle.board_text_defs.specs.Lines.{line_of_fields}
use Rattle.board_text_defs.specs.Alerts.{feed_name}

-- the word of why no run was found
abbrev pub why_word : Why → List ℕ
why_word why.NoTrip = codes "notrip"
why_word why.NoDay = codes "noday"
why_word why.NotActive = codes "notactive"
why_word why.Several = codes "several"
why_word why.Relation = codes "relation"
why_word why.BadText = codes "text"

abbrev pub kind_word : Bool → List ℕ
kind_word true = codes "vehicle"
kind_word false = codes "trip"

abbrev pub unmatched_columns : List (List ℕ)
unmatched_columns = codes "feed" ∷ codes "id" ∷ codes "kind" ∷ codes "reason" ∷ []

abbrev pub unmatched_line : List NamedFeed → Unmatched → List ℕ
unmatched_line feeds row =
    line_of_fields (feed_name feeds row.feed ∷ row.id ∷ kind_word row.vehicle
    ∷ why_word row.why ∷ [])

unfoldable pub unmatched_text : List NamedFeed → List Unmatched → List ℕ
unmatched_text feeds rows = line_of_fields unmatched_columns ++ flat_map (unmatched_line feeds) rows
