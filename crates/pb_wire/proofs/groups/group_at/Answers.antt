use Rattle.std.proofs.Common.{◌%◌, ◌<◌, refl, arith}
use Rattle.pb_wire_defs.specs.Field.{deepest_group}
use Rattle.pb_wire_defs.specs.Reading.{tag_at, payload_at, group_at}
use Rattle.pb_wire_defs.proofs.Shorter.{tag_shorter, payload_shorter, group_shorter}
use Rattle.pb_wire.proofs.Faults.{finds_passed}
use Rattle.pb_wire.proofs.Nested.{begins, ends, no_tag, too_deep, other_end, closes, opens, passes, fails}
use Rattle.pb_wire.proofs.groups.group_at.Goals as goal

pub fields-init : goal.fields-init
fields-init c = begins _ c.args.number c.args.bytes.now (omega arith) refl

pub returns-in_err-tag : goal.returns-in_err-tag
returns-in_err-tag c =
    let told = group_at deepest_group c.args.number c.args.bytes.now in
    finds_passed (λ x. x.now) c.from_residual.result _ (tag_at c.fields.rest.now) told c.from_residual.ensures.1 (λ fault e. no_tag c.fields.open c.fields.depth c.fields.rest.now told c.fields.invariant fault c.fields-test.true e) c.in_err-tag.ensures

pub returns-then-depth-eq64 : goal.returns-then-depth-eq64
returns-then-depth-eq64 c =
    too_deep c.fields.open c.fields.depth c.fields.rest.now _ c.fields.invariant c.in_ok-tag.tag c.in_ok-tag.after.now c.fields-test.true c.in_ok-tag.ensures c.in-3.is c.if-depth-eq64.true

pub fields-smaller-in-3 : goal.fields-smaller-in-3
fields-smaller-in-3 c = tag_shorter c.fields.rest.now _ c.in_ok-tag.ensures

pub fields-preserved-in-3 : goal.fields-preserved-in-3
fields-preserved-in-3 c =
    let room : c.fields.depth < deepest_group = omega (arith, c.fields.invariant.deep) in
    opens c.fields.open c.fields.depth c.fields.rest.now _ c.fields.invariant c.in_ok-tag.tag c.in_ok-tag.after.now c.fields-test.true c.in_ok-tag.ensures _ c.in-3.is room refl

pub returns-then-open-depth : goal.returns-then-open-depth
returns-then-open-depth c =
    other_end c.fields.open c.fields.depth c.fields.rest.now _ c.fields.invariant c.in_ok-tag.tag c.in_ok-tag.after.now c.fields-test.true c.in_ok-tag.ensures c.in-4.is c.if-open-depth.true

pub fields-smaller-in-4 : goal.fields-smaller-in-4
fields-smaller-in-4 c = tag_shorter c.fields.rest.now _ c.in_ok-tag.ensures

pub fields-preserved-in-4 : goal.fields-preserved-in-4
fields-preserved-in-4 c =
    closes c.fields.open c.fields.depth c.fields.rest.now _ c.fields.invariant c.in_ok-tag.tag c.in_ok-tag.after.now c.fields-test.true c.in_ok-tag.ensures _ c.in-4.is c.if-open-depth.false refl

pub returns-in_err-behind-in_default : goal.returns-in_err-behind-in_default
returns-in_err-behind-in_default c =
    let told = group_at deepest_group c.args.number c.args.bytes.now in
    finds_passed (λ x. x.now) c.from_residual-in_err-behind-in_default.result _ (payload_at (group_at 0) 0 (c.in_ok-tag.tag % 8) c.in_ok-tag.after.now) told c.from_residual-in_err-behind-in_default.ensures.1 (λ fault e. fails c.fields.open c.fields.depth c.fields.rest.now told c.fields.invariant c.in_ok-tag.tag c.in_ok-tag.after.now c.fields-test.true c.in_ok-tag.ensures fault (λ e. omega arith) (λ e. omega arith) e) c.in_err-behind-in_default.ensures

pub fields-smaller : goal.fields-smaller
fields-smaller c =
    let first = tag_shorter c.fields.rest.now _ c.in_ok-tag.ensures in
    let second = payload_shorter (group_at 0) (group_shorter 0) _ _ c.in_ok-tag.after.now _ c.in_ok-behind-in_default.ensures in
    omega (arith, first, second)

pub fields-preserved : goal.fields-preserved
fields-preserved c =
    passes c.fields.open c.fields.depth c.fields.rest.now _ c.fields.invariant c.in_ok-tag.tag c.in_ok-tag.after.now c.fields-test.true c.in_ok-tag.ensures _ (λ e. omega arith) (λ e. omega arith) c.in_ok-behind-in_default.ensures

pub returns : goal.returns
returns c =
    ends c.fields.open c.fields.depth c.fields.rest.now _ c.fields.invariant c.fields-test.false
