-- Each turn appends the rows of one board.
use Rattle.std.proofs.Common.{◌∙◌, ◌++◌, [], List, ap, arith, refl, subst, sym}
use Rattle.board_defs.specs.Views.{folds_of}
use Rattle.board_defs.specs.declared.row.Row.{Row}
use Rattle.hub_gen_defs.specs.Run.{board_rows, rows_at}
use Rattle.hub_gen.proofs.Ranges.{Appended, begins, ends, goes_on}
use Rattle.hub_gen.proofs.boards.board_rows.Goals as goal

pub loop-stop-init : goal.loop-stop-init
loop-stop-init c =
    let f = rows_at c.args.view.now.plans (folds_of c.args.view.now) in
    let P : List Row → Type 0 = λ all. Appended f [] all 0 in
    subst P (sym c.new-all.ensures.items) (begins f [])

pub loop-stop-preserved : goal.loop-stop-preserved
loop-stop-preserved c =
    goes_on _ _ _ _ c.loop-stop.stop c.loop-stop.invariant (c.in_ok-append.ensures.items ∙ ap (λ more. c.loop-stop.all.items ++ more) c.in_ok-more.ensures)

pub returns : goal.returns
unfolding board_rows
returns c = ends (rows_at c.args.view.now.plans (folds_of c.args.view.now)) [] _ _ c.loop-stop.stop 10 c.loop-stop.invariant refl (omega arith)
