use Rattle.std.proofs.Common.{◌≡◌}
use Rattle.std.specs.Prelude.{codes}
use Rattle.std.specs.Option.{option_or}
use Rattle.form_urlencoded.specs.Form.{raw_pairs}
use Rattle.form_urlencoded.specs.Parse.{pairs_left}
use Rattle.http_defs.specs.Targets.{value_in}
use Rattle.http_routes.proofs.forms.given_in.Given as goal

-- what was found of a name, or else the pairs that are left give, is what all give
abbrev pub invariant-loop-pair : goal.invariant-loop-pair
invariant-loop-pair l =
    (option_or l.given.span (value_in (codes "span") (pairs_left l.pair-iterator)) ≡ value_in (codes "span") (raw_pairs l.form))
    × ((option_or l.given.limit (value_in (codes "limit") (pairs_left l.pair-iterator)) ≡ value_in (codes "limit") (raw_pairs l.form))
    × ((option_or l.given.format (value_in (codes "format") (pairs_left l.pair-iterator)) ≡ value_in (codes "format") (raw_pairs l.form))
    × (option_or l.given.since (value_in (codes "since") (pairs_left l.pair-iterator)) ≡ value_in (codes "since") (raw_pairs l.form))))
