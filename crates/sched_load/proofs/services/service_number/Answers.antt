use Rattle.std.proofs.Common.{sym, rules}
use Rattle.std.specs.Cmp.Lexicographic.{slice_cmp}
use Rattle.std.specs.Ordering.{nat_cmp}
use Rattle.std.proofs.lemmas.Fn.{always_returns_same}
use Rattle.sched_types.proofs.Found.{found_place, no_place}
use Rattle.sched_load.proofs.services.service_number.Goals as goal

pub returns-in-Ok-clause-value : goal.returns-in-Ok-clause-value
returns-in-Ok-clause-value c =
    sym (found_place (λ id. id) c.args.services.now c.requires c.args.id.now c.in-Ok.number c.in-Ok.ensures.bound
    (c.in-Ok.ensures.position (λ id. slice_cmp nat_cmp id c.args.id.now) (always_returns_same _ _ _ (λ a r f called. search rules))))

pub returns-in-Err-clause-value : goal.returns-in-Err-clause-value
returns-in-Err-clause-value c =
    sym (no_place (λ id. id) c.args.services.now c.requires c.args.id.now c.in-Err.field-0 c.in-Err.ensures.bound
    (c.in-Err.ensures.position (λ id. slice_cmp nat_cmp id c.args.id.now) (always_returns_same _ _ _ (λ a r f called. search rules))))
