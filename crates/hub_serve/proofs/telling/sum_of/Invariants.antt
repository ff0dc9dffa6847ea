-- The sums of the posts so far, which stop at the last number of 64 bits.
use Rattle.std.proofs.Common.{◌≡◌, length, map, take}
use Rattle.std.specs.List.{sum_by}
use Rattle.http_door.specs.declared.report.DoorReport.{DoorReport}
use Rattle.http_door.specs.Doors.{capped}
use Rattle.hub_serve.specs.declared.readers.Post.{Post}
use Rattle.hub_serve.proofs.telling.sum_of.Given as goal

abbrev pub invariant-loop-post : goal.invariant-loop-post
invariant-loop-post g l = record {
  readers : l.sum.readers ≡ length l.posts;
  connections : l.sum.connections ≡ capped (sum_by (λ (r : DoorReport). r.connections) (map (λ (post : Post g.row.C.Denot). post.report) (take l.post-index l.posts)));
  responses : l.sum.responses ≡ capped (sum_by (λ (r : DoorReport). r.responses) (map (λ (post : Post g.row.C.Denot). post.report) (take l.post-index l.posts)));
  starved : l.sum.starved ≡ capped (sum_by (λ (r : DoorReport). r.starved) (map (λ (post : Post g.row.C.Denot). post.report) (take l.post-index l.posts)));
}
