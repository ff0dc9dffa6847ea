use Rattle.std.proofs.Common.{sym, rules}
use Rattle.std.specs.Cmp.Lexicographic.{slice_cmp}
use Rattle.std.specs.Ordering.{nat_cmp}
use Rattle.std.proofs.lemmas.Fn.{always_returns_same}
use Rattle.sched_types.proofs.Found.{found_place, no_place}
use Rattle.sched_types.proofs.numbers.number_by_id.Goals as goal

pub returns-in-Ok-clause-value : goal.returns-in-Ok-clause-value
returns-in-Ok-clause-value g c =
    sym (found_place g.T.Row.id_of c.args.rows.now c.requires.rises c.args.id.now c.in-Ok.number c.in-Ok.ensures.bound
    (c.in-Ok.ensures.position (λ row. slice_cmp nat_cmp (g.T.Row.id_of row) c.args.id.now) (always_returns_same _ _ _ (λ a r f called. search rules))))

pub returns-in-Err-clause-value : goal.returns-in-Err-clause-value
returns-in-Err-clause-value g c =
    sym (no_place g.T.Row.id_of c.args.rows.now c.requires.rises c.args.id.now c.in-Err.field-0 c.in-Err.ensures.bound
    (c.in-Err.ensures.position (λ row. slice_cmp nat_cmp (g.T.Row.id_of row) c.args.id.now) (always_returns_same _ _ _ (λ a r f called. search rules))))
