-- A feed since a view that is kept, or the whole answer.
use Rattle.std.proofs.Common.{List, Option, refl, sym, subst}
use Rattle.std.specs.Option.{IsSome}
use Rattle.board_defs.specs.Fold.{FeedFold}
use Rattle.board_defs.specs.Views.{folds_of}
use Rattle.http_serve.proofs.Bodies.{by_since, by_none}
use Rattle.http_serve.proofs.responses.answer_query.Goals as goal

pub answer_since-requires-clause-kept : goal.answer_since-requires-clause-kept
answer_since-requires-clause-kept c = subst (λ (o : Option (List FeedFold)). IsSome o) (sym c.in-Some.ensures.1) refl

pub returns-in-Some-clause-answered : goal.returns-in-Some-clause-answered
returns-in-Some-clause-answered c =
    by_since c.answer_since.result c.args.bytes.now.items c.answer_since.new.bytes.items c.args.view.now.plans (folds_of c.args.view.now)
    c.args.kept.now c.args.query.now c.args.moment _ c.in-Some.ensures.2 (c.answer_since.ensures.answered c.in-Some.ensures.0 c.in-Some.ensures.1)

pub returns-in-None-clause-answered : goal.returns-in-None-clause-answered
returns-in-None-clause-answered c =
    by_none c.answer_whole.result c.args.bytes.now.items c.answer_whole.new.bytes.items c.args.view.now.plans (folds_of c.args.view.now)
    c.args.kept.now c.args.query.now c.args.moment c.in-None.ensures c.answer_whole.ensures.answered
