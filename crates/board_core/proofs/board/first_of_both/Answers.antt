-- No more of the departures than are shown are taken; with added trips they are put in order by texts.
use Rattle.std.proofs.Common.{◌≡◌, [], ap, map, ◌++◌, ◌∙◌, arith}
use Rattle.std.proofs.lemmas.Grind.{common_steps}
use Rattle.board_core.specs.declared.line.Line.TheVariants.{Added}
use Rattle.board_core.proofs.FirstRows.{runs_first, both_answered}
use Rattle.board_core.proofs.board.first_of_both.Goals as goal

pub returns-then-is_empty : goal.returns-then-is_empty
returns-then-is_empty c =
    let none : c.args.added.now ≡ [] = grind (arith, common_steps) in
    λ rows in_order. runs_first c.args.plan.now c.sound.ensures c.args.runs c.args.limit c.requires.runs rows in_order c.in_ok-lines.lines.items c.args.added.now none c.in_ok-lines.ensures

pub returns : goal.returns
returns c =
    both_answered c.args.plan.now c.sound.ensures c.args.runs c.args.limit c.requires.runs c.args.added.now c.requires.added c.push_added.new.lines.items
    (c.in_ok-push_added.ensures ∙ ap (λ xs. xs ++ map Added c.args.added.now) c.in_ok-lines.ensures)
    c.first_lines.result (λ lines. lines.items) c.first_lines.ensures
