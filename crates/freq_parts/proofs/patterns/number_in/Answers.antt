use Rattle.std.proofs.Common.{sym, ap, rules, unwrap_or}
use Rattle.std.specs.Cmp.Lexicographic.{slice_cmp}
use Rattle.std.specs.Ordering.{nat_cmp}
use Rattle.std.proofs.lemmas.Fn.{always_returns_same}
use Rattle.sched_load_defs.specs.Frequencies.{TimedTrip, id_of}
use Rattle.sched_types.proofs.Found.{found_place, no_place}
use Rattle.freq_parts.proofs.patterns.number_in.Goals as goal

pub returns-in-Ok : goal.returns-in-Ok
returns-in-Ok c =
    ap (λ found. unwrap_or found 0)
    (sym (found_place id_of c.args.timed.now c.requires.rises c.args.id.now c.in-Ok.number c.in-Ok.ensures.bound
    (c.in-Ok.ensures.position (λ (one : TimedTrip). slice_cmp nat_cmp (id_of one) c.args.id.now) (always_returns_same _ _ _ (λ a r f called. search rules)))))

pub returns-in-Err : goal.returns-in-Err
returns-in-Err c =
    ap (λ found. unwrap_or found 0)
    (sym (no_place id_of c.args.timed.now c.requires.rises c.args.id.now c.in-Err.field-0 c.in-Err.ensures.bound
    (c.in-Err.ensures.position (λ (one : TimedTrip). slice_cmp nat_cmp (id_of one) c.args.id.now) (always_returns_same _ _ _ (λ a r f called. search rules)))))
