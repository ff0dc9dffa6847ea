-- An answer in two parts.
use Rattle.std.specs.Prelude.{◌≡◌, ℕ, List, ◌++◌}
use Rattle.http_serve.specs.declared.responses.Heading.{Heading}
use Rattle.http_serve_defs.specs.Answers.{Answered}

-- the heading is that of the answer, and its body was appended
pub record Appends (heading : Heading) (old new : List ℕ) (answered : Answered) : Type 0 where
  pub status : heading.status ≡ answered.status
  pub kind : heading.kind ≡ answered.kind
  pub body : new ≡ old ++ answered.body
