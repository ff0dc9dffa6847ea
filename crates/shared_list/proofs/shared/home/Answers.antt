-- The search is over the first keys of the parts, which rise.
use Rattle.std.proofs.Common.{rules}
use Rattle.std.proofs.lemmas.Fn.{always_returns_same}
use Rattle.shared_list.proofs.PartLemmas.{home_found, home_missed}
use Rattle.shared_list.proofs.shared.home.Goals as goal

pub returns-in-Ok : goal.returns-in-Ok
returns-in-Ok g c =
    home_found g.met.P.Item.Keyed.total g.P.Item.Keyed.key_of g.P.Part.items g.P.Part.sound g.P.Part.lead_cmp g.met.P.Part.leads (g.K.KeyFor.sought c.args.key) c.args.parts.now c.requires.sound c.requires.rising c.in-Ok.at c.in-Ok.ensures.bound
    (c.in-Ok.ensures.position (λ part. g.P.Part.lead_cmp part.value (g.K.KeyFor.sought c.args.key)) (always_returns_same _ _ _ (λ a r f called. search rules)))

pub returns-in-Err : goal.returns-in-Err
returns-in-Err g c =
    home_missed g.met.P.Item.Keyed.total g.P.Item.Keyed.key_of g.P.Part.items g.P.Part.sound g.P.Part.lead_cmp g.met.P.Part.leads (g.K.KeyFor.sought c.args.key) c.args.parts.now c.requires.sound c.requires.rising c.in-Err.at _ c.saturating_sub.ensures c.requires.some c.in-Err.ensures.bound
    (c.in-Err.ensures.position (λ part. g.P.Part.lead_cmp part.value (g.K.KeyFor.sought c.args.key)) (always_returns_same _ _ _ (λ a r f called. search rules)))
