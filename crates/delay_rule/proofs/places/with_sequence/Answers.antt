use Rattle.std.proofs.Common.{rules}
use Rattle.std.proofs.lemmas.Fn.{always_returns_same}
use Rattle.delay_rule.proofs.Search.{sequence_found, no_sequence, rest_of}
use Rattle.delay_rule.proofs.places.with_sequence.Goals as goal

pub returns-in-Ok-clause-value : goal.returns-in-Ok-clause-value
returns-in-Ok-clause-value c =
    sequence_found c.args.places.now c.requires.rise c.args.from _ (rest_of c.args.places.now c.args.from) c.args.sequence c.in-Ok.found c.in-Ok.ensures.bound
    (c.in-Ok.ensures.position (λ place. place.sequence) (always_returns_same _ _ _ (λ a r f called. search rules)))

pub returns-in-Err-clause-value : goal.returns-in-Err-clause-value
returns-in-Err-clause-value c =
    no_sequence c.args.places.now c.requires.rise c.args.from _ (rest_of c.args.places.now c.args.from) c.args.sequence c.in-Err.field-0 c.in-Err.ensures.bound
    (c.in-Err.ensures.position (λ place. place.sequence) (always_returns_same _ _ _ (λ a r f called. search rules)))
