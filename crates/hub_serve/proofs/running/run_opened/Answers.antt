-- The clocks of the posts are those that were given.
use Rattle.std.proofs.Common.{◌≡◌, ◌∙◌, List, ℕ, Option, map, ap, subst, inr}
use Rattle.http_door.specs.Visits.{ends}
use Rattle.hub_serve.specs.declared.readers.Post.{Post}
use Rattle.hub_serve.specs.Runs.{Ran}
use Rattle.hub_serve.specs.Words.{port_words, door_words}
use Rattle.hub_serve.proofs.Ran.{ahead_of}
use Rattle.hub_serve.proofs.running.run_opened.Goals as goal

pub returns : goal.returns
returns g c =
    let clocked : map (λ (post : Post g.row.C.Denot). post.clock) c.as_mut_slice-4.result.now ≡ c.args.clocks.items =
    ap (λ (posts : List (Post g.row.C.Denot)). map (λ (post : Post g.row.C.Denot). post.clock) posts) c.as_mut_slice-4.ensures.value ∙ c.in-Ok.ensures.posts in
    inr (subst (λ (aheads : List (Option (List ℕ))). Ran (port_words g.P.FeedPort.ahead g.P.FeedPort.faults) (door_words g.D.Door.links g.D.Door.faults) (ends g.D.In.Source.left g.D.In.Source.faults g.D.Out.Sink.written g.D.Out.Sink.faults)
    c.args.plans.now c.args.ports.now c.run_work.new.ports c.args.doors.now c.run_work.new.doors aheads (g.K.Sink.written c.args.out.now) (g.K.Sink.written c.run_work.new.out) (g.K.Sink.faults c.args.out.now) (g.K.Sink.faults c.run_work.new.out) c.run_work.result)
    (ahead_of g.C.Clock.ahead c.as_mut_slice-4.result.now c.args.clocks.items clocked) c.run_work.ensures)
