-- The search is over rising keys.
use Rattle.std.proofs.Common.{rules}
use Rattle.std.proofs.lemmas.Fn.{always_returns_same}
use Rattle.shared_list.proofs.Places.{searched}
use Rattle.shared_list.proofs.leaf.place.Goals as goal

pub returns : goal.returns
returns g c =
    searched g.met.T.Keyed.total g.T.Keyed.key_of c.args.items.now c.requires (g.K.KeyFor.sought c.args.key) _ c.binary_search_by.ensures.bound
    (c.binary_search_by.ensures.position (λ item. g.T.Keyed.key_cmp (g.T.Keyed.key_of item) (g.K.KeyFor.sought c.args.key)) (always_returns_same _ _ _ (λ a r f called. search rules)))
