use Rattle.std.proofs.Common.{refl}
use Rattle.std.proofs.lemmas.Bool.{ne_eqb}
use Rattle.pb_wire_defs.specs.Field.{deepest_group}
use Rattle.pb_wire_defs.specs.Reading.{group_at}
use Rattle.pb_wire_defs.proofs.Groups.{payload_at-plain, payload_at-group}
use Rattle.pb_wire.proofs.Faults.{finds_same, finds_passed}
use Rattle.pb_wire.proofs.payloads.payload_at.Goals as goal

pub returns-in_err-rest : goal.returns-in_err-rest
returns-in_err-rest c =
    finds_passed _ c.from_residual.result _ (group_at deepest_group c.args.number c.args.bytes.now) _ c.from_residual.ensures.1 (λ fault e. rw (payload_at-group (group_at deepest_group) c.args.number c.args.wire_type c.args.bytes.now c.if-wire_type-eq3.true, e) refl) c.in_err-rest.ensures

pub returns-then-wire_type-eq3 : goal.returns-then-wire_type-eq3
returns-then-wire_type-eq3 c =
    rw (payload_at-group (group_at deepest_group) c.args.number c.args.wire_type c.args.bytes.now c.if-wire_type-eq3.true, c.in_ok-rest.ensures) refl

pub returns : goal.returns
returns c =
    finds_same _ c.plain_payload_at.result _ _ (payload_at-plain (group_at 0) (group_at deepest_group) 0 c.args.number c.args.wire_type c.args.bytes.now (ne_eqb _ 3 c.if-wire_type-eq3.false)) c.plain_payload_at.ensures
