-- A sort and taking out repetitions leave the same runs.
use Rattle.std.proofs.Common.{Bool, ◌&&◌, nat_eq, length, ap, ◌∙◌, sym, arith}
use Rattle.std.specs.List.{list_any}
use Rattle.std.proofs.lemmas.List.Filters.{dedup_is}
use Rattle.std.proofs.lemmas.List.Sorted.{list_any-IsPermutation, length_permutation}
use Rattle.sched_types.specs.declared.rows.Run.{Run}
use Rattle.run_overlay.specs.Sought.{is_same_run}
use Rattle.run_overlay.proofs.Choosing.{run_same}
use Rattle.run_overlay.proofs.Steps.{any_dedup}
use Rattle.run_overlay.proofs.turns.touched_runs.Goals as goal

abbrev same : Run → Run → Bool
same a b = nat_eq a.trip b.trip && nat_eq a.day b.day

pub returns-clause-all : goal.returns-clause-all
returns-clause-all c = λ run.
    ap (list_any (is_same_run run)) (dedup_is same c.sort_unstable.new.self.items c.dedup.new.self.items c.dedup.ensures.filtered)
    ∙ any_dedup same (is_same_run run) run_same c.sort_unstable.new.self.items
    ∙ sym (list_any-IsPermutation (is_same_run run) c.in_ok-runs.runs.items c.sort_unstable.new.self.items c.sort_unstable.ensures.permutation)
    ∙ ap (list_any (is_same_run run)) c.in_ok-runs.ensures

pub returns-clause-few : goal.returns-clause-few
returns-clause-few c =
    omega (
      arith,
      c.dedup.ensures.bound,
      length_permutation c.in_ok-runs.runs.items c.sort_unstable.new.self.items c.sort_unstable.ensures.permutation,
      ap length c.in_ok-runs.ensures,
    )
