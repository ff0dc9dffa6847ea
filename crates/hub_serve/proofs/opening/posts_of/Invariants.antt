-- The clocks of the posts so far, and those that are left, are all; and no post has kept a view.
use Rattle.std.proofs.Common.{◌≡◌, ◌++◌, [], map}
use Rattle.std.specs.List.{All}
use Rattle.hub_serve.specs.declared.readers.Post.{Post}
use Rattle.hub_serve.proofs.opening.posts_of.Given as goal

abbrev pub invariant-loop-clock : goal.invariant-loop-clock
invariant-loop-clock g l = record {
  all : map (λ (post : Post g.row.C.Denot). post.clock) l.posts.items ++ l.clock-iterator.rest.items ≡ l.fn.clocks.items;
  kept : All (λ (post : Post g.row.C.Denot). post.kept ≡ []) l.posts.items;
}
