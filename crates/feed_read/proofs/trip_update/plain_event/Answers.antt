use Rattle.std.proofs.Common.{sym, ap, ◌∙◌, arith}
use Rattle.std.specs.Option.{option_or}
use Rattle.std.proofs.lemmas.Bool.{eqb-true}
use Rattle.pb_wire_defs.proofs.Shorter.{field_shorter}
use Rattle.feed_read.proofs.Events.{takes_first, takes_more, takes_end}
use Rattle.feed_read.proofs.trip_update.plain_event.Goals as goal

pub fields-init : goal.fields-init
fields-init c = takes_first _

pub fields-smaller : goal.fields-smaller
fields-smaller c = field_shorter c.fields.rest.now _ c.in-Ok.ensures

pub fields-preserved : goal.fields-preserved
fields-preserved c =
    takes_more _ _ _ _ _ c.fields.invariant _ _ _ _ _ c.in-Ok.ensures (sym c.if-not-knows.ensures)
    (c.or-delay.ensures ∙ ap (λ o. option_or o c.fields.delay) c.said_at.ensures)
    (c.or-time.ensures ∙ ap (λ o. option_or o c.fields.time) c.said_at-in-fields.ensures)
    (c.or-uncertainty.ensures ∙ ap (λ o. option_or o c.fields.uncertainty) c.said_at-in-fields-2.ensures)

pub returns : goal.returns
returns c = takes_end _ _ _ _ _ c.fields.invariant _ (λ i. omega (arith, c.type_inv.bytes i)) (eqb-true _ 0 (sym c.fields-test.ensures)) (c.from_vec.ensures ∙ c.new.ensures.items)
