use Rattle.std.proofs.Common.{◌++◌, ◌∙◌, sym, ap}
use Rattle.std.proofs.lemmas.List.{append-nil}
use Rattle.std.proofs.lemmas.Option.{slice_get_past}
use Rattle.sched_load_defs.specs.Frequencies.{trip_of_pattern}
use Rattle.freq_parts.proofs.derived.add_derived.Goals as goal

pub returns-in-None : goal.returns-in-None
returns-in-None c =
    let all = c.args.all.now.items in
    sym (append-nil all) ∙ ap (λ found. all ++ trip_of_pattern c.args.derived.now found) (sym (slice_get_past c.args.patterns.now c.args.derived.now.pattern c.in-None.ensures.lookup.3))
