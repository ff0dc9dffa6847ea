-- The value comes home.
use Rattle.std.proofs.Common.{rules, subst, sym}
use Rattle.atomic_table.specs.Table.{Allows}
use Rattle.keyed_lock.specs.Guarded.{Guarded}
use Rattle.keyed_lock.proofs.Turns.{releases}
use Rattle.keyed_lock.proofs.lock.KeyedLock.put_back.Goals as goal

pub store-requires : goal.store-requires
store-requires g c = let fits = g.T.Keyed.fits c.args.self.now.table.shared.key in
    let seat = c.exchange.new.seat in (
      search rules,
      search rules,
      subst (λ n. Allows (Guarded fits) n seat.id seat.me 0 (λ _. 0) (λ _ _. Unit {0}))
          (sym c.args.self.now.one_place)
          (releases fits _ _ _ _ _ c.exchange.ensures.3 c.requires.fits),
    )
