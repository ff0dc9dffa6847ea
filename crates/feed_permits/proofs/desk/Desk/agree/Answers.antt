-- The desk's counts go into a note, from there into the key, and the key looks.
use Rattle.std.proofs.Common.{◌≡◌, true, refl, sym, ap, ◌∙◌, arith}
use Rattle.atomic_table.specs.Table.Act.{keeps}
use Rattle.feed_permits.proofs.Moves.{tells, hears, tests, tested}
use Rattle.feed_permits.proofs.desk.Desk.agree.Goals as goal

pub split_seat-note-requires : goal.split_seat-note-requires
split_seat-note-requires c = (c.self.invariant.own, omega (arith, c.self.invariant.words), λ s k at. tells s.words s.views _ _ k at)

pub join_seat-requires : goal.join_seat-requires
join_seat-requires c = (
  ap (λ k. k.table) c.key.view_is ∙ c.requires ∙ sym (ap (λ d. d.table) c.self.view_is),
  c.split_seat-note.ensures.3 ∙ c.self.invariant.own,
  ap (λ m. m.1) c.split_seat-note.ensures.4,
  omega (arith, c.self.invariant.words),
  λ s k at apart there. hears s.words s.views _ _ _ _ k at apart there,
)

pub load-requires : goal.load-requires
load-requires c =
    let grants : c.join_seat.new.seat.me.0.grants ≡ true = ap (λ m. m.0.grants) c.join_seat.ensures.2 ∙ c.key.invariant.grants in (
      c.join_seat.ensures.0 ∙ ap (λ k. k.table) c.key.view_is ∙ c.requires ∙ sym (ap (λ d. d.table) c.self.view_is),
      omega (arith, c.self.invariant.words),
      λ s k size at room. (c.join_seat.new.seat.me.0, keeps, tt, tests s.words s.views _ 0 _ k at, (refl, tested s.words s.views _ _ grants k at)),
    )
