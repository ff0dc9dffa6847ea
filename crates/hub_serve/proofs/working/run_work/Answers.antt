-- Each step's work is at the places of the run.
use Rattle.std.proofs.Common.{◌≡◌, [], ◌∙◌, arith}
use Rattle.std.proofs.lemmas.List.Elements.{recursion_from_All}
use Rattle.http_door.specs.Visits.{ends}
use Rattle.hub_serve.specs.declared.readers.Post.{Post}
use Rattle.hub_serve.specs.Feeds.{ingests_at}
use Rattle.hub_serve.specs.Words.{port_words, door_words}
use Rattle.hub_serve.proofs.Placed.{places_with, seats_placed, seats_counted, lengths_kept}
use Rattle.hub_serve.proofs.Ran.{ties_kept, ran}
use Rattle.hub_serve.proofs.working.run_work.Goals as goal

pub work_all-requires-clause-ports : goal.work_all-requires-clause-ports
work_all-requires-clause-ports g c = λ lifetimes outlive. seats_placed c.args.hub c.args.plans.now c.args.ports.now c.args.seats.now c.args.reports.now c.requires.plans c.requires.seats c.requires.ports c.requires.reports

pub work_all-requires-clause-few_ports : goal.work_all-requires-clause-few_ports
work_all-requires-clause-few_ports g c = omega (arith, c.requires.ports, c.sound.ensures.few_feeds)

pub work_all-requires-clause-doors : goal.work_all-requires-clause-doors
work_all-requires-clause-doors g c = λ lifetimes outlive.
    places_with (λ (post : Post g.row.C.Denot). post.kept ≡ []) 0 c.args.doors.now c.args.passes.now c.args.posts.now c.requires.doors c.requires.posts
    (recursion_from_All (λ (post : Post g.row.C.Denot). post.kept ≡ []) c.args.posts.now c.requires.kept)

pub end-requires-clause-ties : goal.end-requires-clause-ties
end-requires-clause-ties g c =
    ties_kept (port_words g.P.FeedPort.ahead g.P.FeedPort.faults) c.args.hub c.args.ports.now c.args.seats.now c.args.reports.now c.work_all.new.ports c.work_all.new.seats c.work_all.new.reports c.work_all.ensures.ports c.requires.seats

pub end-requires-clause-seats : goal.end-requires-clause-seats
end-requires-clause-seats g c =
    (lengths_kept (ingests_at (port_words g.P.FeedPort.ahead g.P.FeedPort.faults)) 0 c.args.ports.now c.args.seats.now c.args.reports.now c.work_all.new.ports c.work_all.new.seats c.work_all.new.reports c.work_all.ensures.ports).0
    ∙ seats_counted c.args.hub c.args.plans.now c.args.seats.now c.requires.plans c.requires.seats

pub end-requires-clause-reports : goal.end-requires-clause-reports
end-requires-clause-reports g c =
    (lengths_kept (ingests_at (port_words g.P.FeedPort.ahead g.P.FeedPort.faults)) 0 c.args.ports.now c.args.seats.now c.args.reports.now c.work_all.new.ports c.work_all.new.seats c.work_all.new.reports c.work_all.ensures.ports).1
    ∙ c.requires.reports

pub returns : goal.returns
returns g c =
    ran (port_words g.P.FeedPort.ahead g.P.FeedPort.faults) (door_words g.D.Door.links g.D.Door.faults) (ends g.D.In.Source.left g.D.In.Source.faults g.D.Out.Sink.written g.D.Out.Sink.faults) g.C.Clock.ahead c.args.hub c.args.plans.now c.requires.plans
    c.args.ports.now c.work_all.new.ports c.args.seats.now c.work_all.new.seats c.args.reports.now c.work_all.new.reports c.args.doors.now c.work_all.new.doors c.args.passes.now c.work_all.new.passes c.args.posts.now c.work_all.new.posts
    c.requires.ports c.requires.seats c.requires.passes c.requires.kept c.work_all.ensures.ports c.work_all.ensures.doors
    (g.K.Sink.written c.args.out.now) (g.K.Sink.written c.end.new.out) (g.K.Sink.faults c.args.out.now) (g.K.Sink.faults c.end.new.out) c.end.result c.end.ensures
