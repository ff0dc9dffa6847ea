use Rattle.std.proofs.Common.{◌∙◌, drop}
use Rattle.delay_rule.proofs.Search.{stop_named, no_stop_named, nothing_named}
use Rattle.delay_rule.proofs.places.with_stop_id.Goals as goal

pub returns-in-Some-stop_of-clause-value : goal.returns-in-Some-stop_of-clause-value
returns-in-Some-stop_of-clause-value c =
    c.at_stop.ensures.value ∙ stop_named c.args.plan.now c.args.from (drop c.args.from c.args.places.now) c.args.id.now _ _ c.in-Some-stop_of.stop c.in-Some.is c.as_str.ensures c.in-Some-stop_of.ensures.value

pub returns-in-None-stop_of-clause-value : goal.returns-in-None-stop_of-clause-value
returns-in-None-stop_of-clause-value c =
    no_stop_named c.args.plan.now c.args.from (drop c.args.from c.args.places.now) c.args.id.now _ _ c.in-Some.is c.as_str.ensures c.in-None-stop_of.ensures.value

pub returns-in-None-clause-value : goal.returns-in-None-clause-value
returns-in-None-clause-value c =
    nothing_named c.args.plan.now c.args.from (drop c.args.from c.args.places.now) c.args.id.now c.in-None.is
