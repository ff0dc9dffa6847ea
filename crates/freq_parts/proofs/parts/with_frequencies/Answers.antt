use Rattle.std.proofs.Common.{◌≡◌, length, Ok, sym, subst, ◌∙◌}
use Rattle.std.proofs.lemmas.Bool.{eqb-true}
use Rattle.std.proofs.lemmas.List.{nil_from_length}
use Rattle.sched_types.specs.Parts.{table_of}
use Rattle.sched_load_defs.specs.Frequencies.{with_frequencies}
use Rattle.freq_parts.proofs.Whole.{no_rows}
use Rattle.freq_parts.proofs.parts.with_frequencies.Goals as goal

pub returns-then-is_empty-clause-value : goal.returns-then-is_empty-clause-value
returns-then-is_empty-clause-value c =
    let rows = c.args.rows.now in
    let t = table_of c.args.parts in
    let none = nil_from_length rows (eqb-true (length rows) 0 (sym c.is_empty.ensures ∙ c.if-is_empty.true)) in
    subst (λ rs. with_frequencies rs t ≡ Ok t) (sym none) (no_rows t c.requires.plain)
