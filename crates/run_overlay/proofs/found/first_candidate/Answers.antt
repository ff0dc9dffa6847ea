-- The first from the run on is of the run, or none is.
use Rattle.std.proofs.Common.{◌≡◌, List, [], None, Some, cond, map, sym, ap, ◌∙◌}
use Rattle.std.specs.Prelude.{T}
use Rattle.std.specs.FinMap.{is_sorted}
use Rattle.std.specs.Option.{option_copied}
use Rattle.sched_types.specs.declared.rows.Run.{Run}
use Rattle.shared_list.specs.Order.{entries, entries_from}
use Rattle.run_overlay.specs.declared.candidate.Candidate.{Candidate}
use Rattle.run_overlay.specs.Keys.{CandidateKey, candidate_cmp, candidate_key}
use Rattle.run_overlay.specs.Turning.{first_of}
use Rattle.run_overlay.proofs.Choosing.{first_from, head_of}
use Rattle.keyed_lists.proofs.Entries.{keyed_each}
use Rattle.run_overlay.proofs.found.first_candidate.Goals as goal

-- the first from the run on, if it is of the run, is the first of the run
first_at : (run : Run) (es : List (CandidateKey × Candidate)) → T (is_sorted candidate_cmp es) → entries candidate_key (map (λ e. e.1) es) ≡ es
    → (xs : List Candidate) → xs ≡ map (λ e. e.1) (entries_from candidate_cmp (run, None) es) → head_of run xs ≡ first_of run es
first_at run es up keyed xs are = ap (head_of run) are ∙ first_from run es up (keyed_each candidate_key es keyed)

pub returns-in_err-first : goal.returns-in_err-first
returns-in_err-first c =
    let none : c.from-from.result ≡ [] = c.in_err-first.ensures.steps.0 in
    ap option_copied c.from_residual.ensures
    ∙ ap (head_of c.args.run) (sym none)
    ∙ first_at c.args.run c.args.candidates.now c.from-from.ensures.rising c.from-from.ensures.keyed c.from-from.result c.from-from.ensures.items

pub returns-then-eq : goal.returns-then-eq
returns-then-eq c =
    sym (ap (λ b. cond b (Some c.in_ok-first.first.now) None) (sym c.eq.ensures ∙ c.if-eq.true))
    ∙ ap (head_of c.args.run) (sym c.in_ok-first.ensures.steps)
    ∙ first_at c.args.run c.args.candidates.now c.from-from.ensures.rising c.from-from.ensures.keyed c.from-from.result c.from-from.ensures.items

pub returns-else-eq : goal.returns-else-eq
returns-else-eq c =
    sym (ap (λ b. cond b (Some c.in_ok-first.first.now) None) (sym c.eq.ensures ∙ c.if-eq.false))
    ∙ ap (head_of c.args.run) (sym c.in_ok-first.ensures.steps)
    ∙ first_at c.args.run c.args.candidates.now c.from-from.ensures.rising c.from-from.ensures.keyed c.from-from.result c.from-from.ensures.items
