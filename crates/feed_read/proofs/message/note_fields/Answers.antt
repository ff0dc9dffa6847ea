use Rattle.std.proofs.Common.{sym, arith}
use Rattle.std.proofs.lemmas.Bool.{eqb-true}
use Rattle.pb_wire_defs.proofs.Shorter.{field_shorter}
use Rattle.pb_wire.proofs.Lists.{some_left}
use Rattle.feed_read.proofs.Noting.{notes_begin, notes_known, notes_unknown, notes_stop, notes_end}
use Rattle.feed_read.proofs.message.note_fields.Goals as goal

pub fields-init : goal.fields-init
fields-init g c = notes_begin _ _ _ _ c.requires c.new-unknown.ensures.items

pub fields-smaller-in_ok-extend_from_slice-in-Ok : goal.fields-smaller-in_ok-extend_from_slice-in-Ok
fields-smaller-in_ok-extend_from_slice-in-Ok g c = field_shorter c.fields.rest.now _ c.in-Ok.ensures

pub fields-preserved-in_ok-extend_from_slice-in-Ok : goal.fields-preserved-in_ok-extend_from_slice-in-Ok
fields-preserved-in_ok-extend_from_slice-in-Ok g c =
    notes_unknown _ _ _ _ _ c.fields.invariant _ _ _ _ c.in-Ok.ensures c.note.ensures (sym c.if-not-knows.ensures) c.in_ok-extend_from_slice-in-Ok.ensures.items

pub fields-smaller : goal.fields-smaller
fields-smaller g c = field_shorter c.fields.rest.now _ c.in-Ok.ensures

pub fields-preserved : goal.fields-preserved
fields-preserved g c = notes_known _ _ _ _ _ c.fields.invariant _ _ _ c.in-Ok.ensures c.note.ensures (sym c.if-not-knows.ensures)

pub returns-in-Err : goal.returns-in-Err
returns-in-Err g c =
    rw c.kind.ensures at (c.malformed.ensures c.args.bytes.now (notes_stop _ _ _ _ _ c.fields.invariant _ (some_left _ c.fields-test.ensures) c.in-Err.ensures))

pub returns : goal.returns
returns g c =
    notes_end _ _ _ _ _ c.fields.invariant _ (λ i. omega (arith, c.type_inv.bytes i)) c.from_vec.ensures (eqb-true _ 0 (sym c.fields-test.ensures))
