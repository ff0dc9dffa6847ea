-- Where no port went ill, a door that failed decides.
use Rattle.std.proofs.Common.{◌∙◌, sym, ap, Bool}
use Rattle.std.specs.Prelude.{◌||◌, map}
use Rattle.std.specs.List.{list_any}
use Rattle.http_door.specs.declared.report.DoorReport.{DoorReport}
use Rattle.hub_serve.specs.declared.readers.Post.{Post}
use Rattle.hub_serve.specs.Runs.{has_failed}
use Rattle.hub_serve.proofs.Opened.{list_any_map}
use Rattle.hub_serve.proofs.telling.went_ill.Goals as goal

pub returns-else-one_ill : goal.returns-else-one_ill
returns-else-one_ill g c =
    c.one_failed.ensures
    ∙ sym (list_any_map (λ (door : DoorReport). has_failed door.end) (λ (post : Post g.row.C.Denot). post.report) c.args.posts.now)
    ∙ ap (λ (b : Bool). b || list_any (λ (door : DoorReport). has_failed door.end) (map (λ (post : Post g.row.C.Denot). post.report) c.args.posts.now)) (sym (sym c.one_ill.ensures ∙ c.if-one_ill.false))
