-- The query of a stop, from what is asked of it.
use Rattle.std.specs.Prelude.{ℕ, Bool, List}
use Rattle.http_defs.specs.declared.asked.Query.{Query}
use Rattle.http_routes.specs.declared.asking.StopAsked.{StopAsked}

-- a query of what is asked of a stop
abbrev pub asked_by : (List ℕ → List ℕ → ℕ → ℕ → Bool → Query) → StopAsked → Query
asked_by query asked =
    query asked.schedule asked.stop asked.choices.span asked.choices.limit asked.choices.json
