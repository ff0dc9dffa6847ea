-- The values that a form gives to the names that are read.
use Rattle.std.specs.Prelude.{◌≡◌, ℕ, List, codes}
use Rattle.http_defs.specs.Targets.{first_value}
use Rattle.http_routes.specs.declared.forms.Given.{Given}

-- each is the first value of its name
pub record IsGiven (form : List ℕ) (given : Given) : Type 0 where
  pub span : given.span ≡ first_value (codes "span") form
  pub limit : given.limit ≡ first_value (codes "limit") form
  pub format : given.format ≡ first_value (codes "format") form
  pub since : given.since ≡ first_value (codes "since") form
