-- The bytes of what changed are appended.
use Rattle.std.proofs.Common.{List, ℕ, ◌++◌, refl, ap, ◌∙◌}
use Rattle.http_serve.proofs.responses.push_changes.Goals as goal

pub returns-clause-answered : goal.returns-clause-answered
returns-clause-answered c = λ old at.
    record {
      status = refl;
      kind = refl;
      body = c.in_ok-extend_from_slice.ensures.items
          ∙ ap (λ (xs : List ℕ). c.args.bytes.now.items ++ xs) (c.as_slice.ensures.value ∙ c.in_ok-changes.ensures.changes old at);
    }
