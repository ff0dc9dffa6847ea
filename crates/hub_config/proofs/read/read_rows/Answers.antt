use Rattle.std.proofs.Common.{◌≡◌, ◌∙◌, ◌++◌, ◌∷◌, [], ap, sym, Ok, arith, length-append}
use Rattle.toml.specs.View.{table_view}
use Rattle.hub_config.proofs.Rows.{refused_whole, rows_end, rows_more, rows_skip, rows_stop, tells_passed}
use Rattle.hub_config.proofs.read.read_rows.Goals as goal
use Rattle.hub_config.proofs.read.read_rows.Goals.{in-Some+in_ok-said+in_ok-push, in_default}

pub returns-in_err-said-clause-rows : goal.returns-in_err-said-clause-rows
returns-in_err-said-clause-rows g c =
    tells_passed _ _ _ c.from_residual.ensures.1
    (refused_whole _ _ _
    (rows_stop (g.R.Row.row_of c.args.schedules.now) c.loop-value.row c.loop-value.rows.items c.args.values.now c.loop-value.value-index c.value-item.result (table_view c.in-Some.table.now) _ c.loop-value-test.true c.value-item.is (sym c.in-Some.ensures) c.loop-value.invariant.rest)
    (rw c.as_slice.ensures.value at c.in_err-said.ensures))

pub loop-value-preserved : goal.loop-value-preserved
loop-value-preserved g c =
    elim c.match-as_table.branch [
      | in-Some+in_ok-said+in_ok-push w ↦
          let items : c.match-as_table.rows.items ≡ c.loop-value.rows.items ++ w.in_ok-said.said ∷ [] = ap (λ v. v.items) w.rows-is ∙ w.in_ok-push.ensures.items in
          record {
            row = omega arith;
            few = rw items (simp length-append (omega arith));
            rest =
                rw items
                (sym (rows_more (g.R.Row.row_of c.args.schedules.now) c.loop-value.row c.loop-value.rows.items c.args.values.now c.loop-value.value-index c.value-item.result (table_view w.in-Some.table.now) w.in_ok-said.said c.loop-value-test.true c.value-item.is (sym w.in-Some.ensures) (rw w.as_slice.ensures.value at w.in_ok-said.ensures))
                ∙ c.loop-value.invariant.rest);
          }
      | in_default w ↦
          let items : c.match-as_table.rows.items ≡ c.loop-value.rows.items = ap (λ v. v.items) w.rows-is in
          record {
            row = omega arith;
            few = rw items (omega arith);
            rest =
                rw items
                (sym (rows_skip (g.R.Row.row_of c.args.schedules.now) c.loop-value.row c.loop-value.rows.items c.args.values.now c.loop-value.value-index c.value-item.result c.loop-value-test.true c.value-item.is (sym w.in_default.ensures))
                ∙ c.loop-value.invariant.rest);
          }
    ]

pub returns-clause-rows : goal.returns-clause-rows
returns-clause-rows g c =
    sym c.loop-value.invariant.rest
    ∙ rows_end (g.R.Row.row_of c.args.schedules.now) c.loop-value.row c.loop-value.rows.items c.args.values.now c.loop-value.value-index c.loop-value-test.false
    ∙ ap Ok (sym c.new.ensures)
