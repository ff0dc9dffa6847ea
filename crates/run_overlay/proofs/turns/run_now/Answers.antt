-- The first candidate is the update that counts, and is held; where there is none, none counts.
use Rattle.std.proofs.Common.{◌≡◌, Some, None, sym, ap, ◌∙◌}
use Rattle.std.specs.FinMap.{find}
use Rattle.run_overlay.specs.Keys.{id_cmp}
use Rattle.run_overlay.specs.Kept.{IsTable}
use Rattle.run_overlay.proofs.RunNow.{made_of, none_at, some_at, trip_held}
use Rattle.run_overlay.proofs.turns.run_now.Goals as goal

pub returns-in_default-clause-run : goal.returns-in_default-clause-run
returns-in_default-clause-run g c =
    let table : IsTable c.args.table.now = record { rising = c.iter-all.ensures.rising; keyed = c.iter-all.ensures.keyed } in
    sym (none_at c.args.plan.now c.args.table.now c.args.run c.args.candidates.now table c.requires.candidates c.first_candidate.result c.first_candidate.ensures c.in_default.is)

pub returns-in_default-update_near-clause-run : goal.returns-in_default-update_near-clause-run
returns-in_default-update_near-clause-run g c =
    let table : IsTable c.args.table.now = record { rising = c.iter-all.ensures.rising; keyed = c.iter-all.ensures.keyed } in
    let now = some_at c.args.plan.now c.args.table.now c.args.run c.args.candidates.now table c.requires.candidates c.first_candidate.result c.in-Some.candidate c.first_candidate.ensures c.in-Some.is in
    let clash : None ≡ Some now.counts.update = c.in_default-update_near.ensures ∙ ap (λ id. trip_held (find id_cmp id c.args.table.now)) c.as_str.ensures ∙ now.there in
    absurd (cc)

pub rows_of_run-requires : goal.rows_of_run-requires
rows_of_run-requires g c =
    let table : IsTable c.args.table.now = record { rising = c.iter-all.ensures.rising; keyed = c.iter-all.ensures.keyed } in
    (some_at c.args.plan.now c.args.table.now c.args.run c.args.candidates.now table c.requires.candidates c.first_candidate.result c.in-Some.candidate c.first_candidate.ensures c.in-Some.is).runs

pub returns-clause-run : goal.returns-clause-run
returns-clause-run g c =
    let table : IsTable c.args.table.now = record { rising = c.iter-all.ensures.rising; keyed = c.iter-all.ensures.keyed } in
    let now = some_at c.args.plan.now c.args.table.now c.args.run c.args.candidates.now table c.requires.candidates c.first_candidate.result c.in-Some.candidate c.first_candidate.ensures c.in-Some.is in
    let held : Some c.in-Some-update_near.update.now ≡ Some now.counts.update = c.in-Some-update_near.ensures ∙ ap (λ id. trip_held (find id_cmp id c.args.table.now)) c.as_str.ensures ∙ now.there in
    let same : now.counts.update ≡ c.in-Some-update_near.update.now = cc in
    made_of c.args.plan.now c.args.run c.in-Some.candidate.now c.in-Some-update_near.update.now c.in_ok-copy.field-0 c.in_ok-new.field-0 c.in_ok-copy.ensures (c.in_ok-new.ensures ∙ c.new.ensures ∙ c.in_ok-rows.ensures.rows)
    ∙ sym (now.now c.in-Some-update_near.update.now same)
