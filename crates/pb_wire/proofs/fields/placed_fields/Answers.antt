use Rattle.std.proofs.Common.{refl, sym, arith}
use Rattle.std.proofs.lemmas.Bool.{eqb-true}
use Rattle.pb_wire_defs.proofs.Bytes.{AreBytes}
use Rattle.pb_wire_defs.proofs.Shorter.{field_shorter}
use Rattle.pb_wire.specs.Parts.{part_seen}
use Rattle.pb_wire.proofs.Lists.{some_left}
use Rattle.pb_wire.proofs.Rows.{begins, ends_within, carries_within, goes_on, stops, ends}
use Rattle.pb_wire.proofs.fields.placed_fields.Goals as goal

pub fields-init : goal.fields-init
fields-init c = rw c.new-fields.ensures.items (begins c.args.bytes.now)

pub placed-field-requires-clause-fits : goal.placed-field-requires-clause-fits
placed-field-requires-clause-fits c =
    let fits : AreBytes c.args.bytes.now = λ i. omega (arith, c.type_inv.bytes i) in
    let h = ends_within c.fields.fields.items c.fields.at c.fields.rest.now c.args.bytes.now c.fields.invariant fits (part_seen c.in-Ok.part) c.in-Ok.after.now c.in-Ok.ensures in
    omega (arith, h)

pub placed-field-requires-clause-carried : goal.placed-field-requires-clause-carried
placed-field-requires-clause-carried c =
    let fits : AreBytes c.args.bytes.now = λ i. omega (arith, c.type_inv.bytes i) in
    carries_within c.fields.fields.items c.fields.at c.fields.rest.now c.args.bytes.now c.fields.invariant fits (part_seen c.in-Ok.part) c.in-Ok.after.now c.in-Ok.ensures

pub fields-smaller : goal.fields-smaller
fields-smaller c = field_shorter c.fields.rest.now _ c.in-Ok.ensures

pub fields-preserved : goal.fields-preserved
fields-preserved c =
    let fits : AreBytes c.args.bytes.now = λ i. omega (arith, c.type_inv.bytes i) in
    goes_on c.fields.fields.items c.fields.at c.fields.rest.now c.args.bytes.now c.fields.invariant fits c.push.new.self.items _ c.placed-field.result (part_seen c.in-Ok.part) c.in-Ok.after.now c.in-Ok.ensures c.placed-field.ensures refl c.in_ok-push-in-Ok.ensures.items

pub returns-in-Err : goal.returns-in-Err
returns-in-Err c =
    let fits : AreBytes c.args.bytes.now = λ i. omega (arith, c.type_inv.bytes i) in
    stops c.fields.fields.items c.fields.at c.fields.rest.now c.args.bytes.now c.fields.invariant fits _ (some_left _ c.fields-test.ensures) c.in-Err.ensures

pub returns : goal.returns
returns c =
    let fits : AreBytes c.args.bytes.now = λ i. omega (arith, c.type_inv.bytes i) in
    ends c.fields.fields.items c.fields.at c.fields.rest.now c.args.bytes.now c.fields.invariant fits (eqb-true _ 0 (sym c.fields-test.ensures))
