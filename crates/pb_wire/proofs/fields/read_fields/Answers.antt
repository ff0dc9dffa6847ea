use Rattle.std.proofs.Common.{arith}
use Rattle.pb_wire.proofs.Rows.{is_exact, is_found, is_within, is_row, is_none, is_only}
use Rattle.pb_wire.proofs.fields.read_fields.Goals as goal

pub returns-clause-found : goal.returns-clause-found
returns-clause-found c =
    is_found c.args.bytes.now (λ i. omega (arith, c.type_inv.bytes i)) c.placed_fields.result c.placed_fields.ensures

pub returns-clause-within : goal.returns-clause-within
returns-clause-within c =
    is_within c.args.bytes.now (λ i. omega (arith, c.type_inv.bytes i)) c.placed_fields.result c.placed_fields.ensures

pub returns-clause-row : goal.returns-clause-row
returns-clause-row c =
    is_row c.args.bytes.now (λ i. omega (arith, c.type_inv.bytes i)) c.placed_fields.result c.placed_fields.ensures

pub returns-clause-only : goal.returns-clause-only
returns-clause-only c = λ fields spelled.
    is_only c.args.bytes.now c.placed_fields.result fields spelled (is_exact c.args.bytes.now (λ i. omega (arith, c.type_inv.bytes i)) c.placed_fields.result c.placed_fields.ensures)

pub returns-clause-none : goal.returns-clause-none
returns-clause-none c = λ fault.
    is_none c.args.bytes.now c.placed_fields.result fault c.placed_fields.ensures

pub returns-clause-exact : goal.returns-clause-exact
returns-clause-exact c =
    is_exact c.args.bytes.now (λ i. omega (arith, c.type_inv.bytes i)) c.placed_fields.result c.placed_fields.ensures
