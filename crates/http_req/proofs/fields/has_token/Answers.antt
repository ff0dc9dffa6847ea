use Rattle.std.proofs.Common.{rules}
use Rattle.std.proofs.lemmas.Iterator.Search.{any_from_yields_List}
use Rattle.std.proofs.lemmas.Iterator.Splits.{YieldsList-from_slice_split}
use Rattle.http_defs.specs.Heads.{is_named, has_token}
use Rattle.http_req.proofs.fields.has_token.Goals as goal

pub returns : goal.returns
unfolding has_token
returns c =
    any_from_yields_List (λ piece. is_named piece c.args.token.now) _ _ _ c.any.ensures.ran
    (YieldsList-from_slice_split _ _ c.args.value.now c.split.ensures.rest c.split.ensures.done c.split.ensures.closure (λ x r q k. search rules))
    (λ x b q k. search rules)
