use Rattle.std.proofs.Common.{◌≡◌, ◌+◌, ◌++◌, ◌∷◌, [], ap, sym, ◌∙◌, arith}
use Rattle.std.proofs.lemmas.List.FromFn.{map-range_with_len_more}
use Rattle.delay_rule_defs.specs.Line.{line_place}
use Rattle.test_matching.proofs.delays.places.Goals as goal

pub loop-i-preserved : goal.loop-i-preserved
loop-i-preserved c =
    let more : 0 + c.loop-i.i ≡ c.loop-i.i = omega arith in
    c.in_ok-push.ensures.items ∙ ap (λ xs. xs ++ line_place c.loop-i.i ∷ []) c.loop-i.invariant ∙ sym (map-range_with_len_more line_place 0 c.loop-i.i c.loop-i.i more)
