use Rattle.std.proofs.Common.{rules, leb, ltb, drop, ◌≡◌, arith, sym, subst}
use Rattle.std.proofs.lemmas.Bool.{leb-true, leb-false, ltb-true, ltb-false}
use Rattle.std.specs.List.Sorted.{IsNonDecreasingBy}
use Rattle.std.proofs.lemmas.List.Sorted.{IsPartitionPoint-from_clause, IsPartitionedBy-leb, IsPartitionedBy-ltb, IsNonDecreasingBy-drop}
use Rattle.sched_load.specs.declared.visits.Visit.{Visit}
use Rattle.sched_load.proofs.Stretches.{stretch_kept}
use Rattle.sched_load.proofs.visits.visits_of.Goals as goal

pub returns : goal.returns
returns c =
    let xs = c.args.visits.now in
    let start = c.partition_point-start.result in
    let behind = c.split_at.result.1.now in
    let is : behind ≡ drop start xs = search rules in
    let up = subst (IsNonDecreasingBy (λ (v : Visit). v.trip)) (sym is) (IsNonDecreasingBy-drop (λ v. v.trip) start xs c.requires) in
    let first = IsPartitionPoint-from_clause (λ v. ltb v.trip c.args.trip) _ _ c.partition_point-start.ensures.partitioned (IsPartitionedBy-ltb (λ v. v.trip) _ c.args.trip c.requires) (λ a r q k. search rules) in
    let second = IsPartitionPoint-from_clause (λ v. leb v.trip c.args.trip) _ _ c.partition_point-count.ensures.partitioned (IsPartitionedBy-leb (λ v. v.trip) _ c.args.trip up) (λ a r q k. search rules) in
    let kept = stretch_kept (λ (v : Visit). v.trip) c.args.trip xs behind start c.partition_point-count.result (omega arith) is (record {
      lower = λ k d l m. ltb-true _ _ (first.0 k d (omega arith) l);
      after = λ k d l m. ltb-false _ _ (first.1 k d l m);
      own = λ k d l m. leb-true _ _ (second.0 k d (omega arith) l);
      higher = λ k d l m. leb-false _ _ (second.1 k d l m);
    }) in
    sym kept
