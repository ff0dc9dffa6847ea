use Rattle.http_routes.proofs.TextLemmas.{by_route, no_route}
use Rattle.http_routes.proofs.asking.query_at.Goals as goal

pub returns-in-Ok : goal.returns-in-Ok
returns-in-Ok c =
    by_route c.query_by.result c.args.router.now c.kind_of.result c.in-Ok.path.now c.args.path.now c.args.form.now c.requires
    c.in-Ok.ensures.cases.0 c.in-Ok.ensures.cases.1 c.kind_of.ensures c.query_by.ensures

pub returns-in-Err : goal.returns-in-Err
returns-in-Err c = no_route c.args.path.now c.args.form.now c.in-Err.ensures.cases.0
