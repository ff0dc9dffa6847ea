-- Ports at the places of their feeds.
use Rattle.std.proofs.Common.{◌≡◌, ℕ, zero, suc, ◌<◌, ◌≤◌, List, [], ◌∷◌, ◌++◌, length, get_or, true, sym, subst, arith}
use Rattle.std.specs.Prelude.{◌&&◌, nat_le}
use Rattle.std.specs.List.{list_all}
use Rattle.std.proofs.lemmas.Bool.{and_parts}
use Rattle.std.proofs.lemmas.Bool.Decides.{nat_tests}
use Rattle.hub_config_defs.specs.Right.{has_numbers}
use Rattle.hub_config_defs.specs.declared.conf.FeedConf.{FeedConf}
use Rattle.hub_ports.specs.declared.opening.SystemPort.{SystemPort}
use Rattle.hub_ports.specs.declared.told.ToldPort.{ToldPort}
use Rattle.hub_ports.specs.News.{port_in}
use Rattle.hub_ports.specs.Opened.{IsPortOf}
use Rattle.hub_ports.specs.SystemPorts.{ArePortsOf}

module _ {R E : Type 0} (feed : FeedConf) (port : ToldPort R (SystemPort R E) E) (is : IsPortOf feed (port_in port)) where
  -- one more feed, and its port
  pub ports_more : (feeds : List FeedConf) (ports : List (ToldPort R (SystemPort R E) E)) → ArePortsOf feeds ports
      → ArePortsOf (feeds ++ feed ∷ []) (ports ++ port ∷ [])
  ports_more [] [] are = (is, tt)
  ports_more [] (p ∷ ports) are = absurd are
  ports_more (f ∷ feeds) [] are = absurd are
  ports_more (f ∷ feeds) (p ∷ ports) are = (are.0, ports_more feeds ports are.1)

may_be_tried : (feed : FeedConf) → has_numbers feed ≡ true → 1 ≤ feed.tries
may_be_tried feed has = grind (arith, nat_tests, has)

-- of feeds with numbers in their ranges each may be tried
pub tried : (feeds : List FeedConf) (i : ℕ) (feed other : FeedConf) → list_all has_numbers feeds ≡ true
    → i < length feeds → feed ≡ get_or feeds i other → 1 ≤ feed.tries
tried [] i feed other all within is = absurd (omega (arith, within))
tried (f ∷ feeds) zero feed other all within is =
    subst (λ (x : FeedConf). 1 ≤ x.tries) (sym is) (may_be_tried f (and_parts (has_numbers f) (list_all has_numbers feeds) all).0)
tried (f ∷ feeds) (suc i) feed other all within is =
    tried feeds i feed other (and_parts (has_numbers f) (list_all has_numbers feeds) all).1 (omega (arith, within)) is
