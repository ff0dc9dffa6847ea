use Rattle.std.proofs.Common.{refl}
use Rattle.http_defs.specs.Routes.{routes}
use Rattle.http_routes.proofs.router.all_routes.Goals as goal

pub returns : goal.returns
unfolding routes
returns c =
    rw (c.in_ok-add-5.ensures, c.in_ok-add-4.ensures, c.in_ok-add-3.ensures, c.in_ok-add-2.ensures, c.in_ok-add.ensures, c.new-router.ensures) refl
