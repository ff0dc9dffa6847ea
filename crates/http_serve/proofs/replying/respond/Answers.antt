-- The view is kept before the response is made.
use Rattle.std.proofs.Common.{inl}
use Rattle.http_serve.proofs.OneReply.{keeps_look}
use Rattle.http_serve.proofs.KeptViews.{put_one}
use Rattle.http_serve.proofs.replying.respond.Goals as goal

pub respond-requires-clause-one_history : goal.respond-requires-clause-one_history
respond-requires-clause-one_history c = put_one c.args.view.now c.args.kept.now c.put.new.self c.in-Ok.ensures.with c.requires.one_history

pub returns-in_default-clause-keeps : goal.returns-in_default-clause-keeps
returns-in_default-clause-keeps c = inl c.in_default.ensures.kept

pub returns-clause-keeps : goal.returns-clause-keeps
returns-clause-keeps c = keeps_look c.respond.result _ _ _ c.in-Ok.ensures.with
