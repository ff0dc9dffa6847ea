-- One post more.
use Rattle.std.proofs.Common.{◌≡◌, ◌++◌, ◌∷◌, [], List, map, sym, ap, ◌∙◌, subst, append_assoc, append-nil, arith}
use Rattle.std.specs.List.{All}
use Rattle.std.proofs.lemmas.Grind.{common_steps}
use Rattle.std.proofs.lemmas.List.{map-append}
use Rattle.std.proofs.lemmas.List.Elements.{All-append, All-cons, All-nil}
use Rattle.hub_serve.specs.declared.readers.Post.{Post}
use Rattle.hub_serve.proofs.opening.posts_of.Goals as goal

pub loop-clock-preserved : goal.loop-clock-preserved
loop-clock-preserved g c =
    let step : c.loop-clock.clock-iterator.rest.items ≡ c.in-Some.clock ∷ c.next.new.self.rest.items = c.in-Some.ensures.steps.0 in
    let clocks : List g.row.C.Denot = map (λ (post : Post g.row.C.Denot). post.clock) c.loop-clock.posts.items in
    record {
      all = ap (λ (posts : List (Post g.row.C.Denot)). map (λ (post : Post g.row.C.Denot). post.clock) posts ++ c.next.new.self.rest.items) c.in_ok-push.ensures.items
          ∙ ap (λ (xs : List g.row.C.Denot). xs ++ c.next.new.self.rest.items)
          (map-append (λ (post : Post g.row.C.Denot). post.clock) c.loop-clock.posts.items (c.in_ok-post.post ∷ []))
          ∙ append_assoc clocks (c.in_ok-post.post.clock ∷ []) c.next.new.self.rest.items
          ∙ ap (λ (x : g.row.C.Denot). clocks ++ (x ∷ c.next.new.self.rest.items)) c.in_ok-post.ensures.clock
          ∙ ap (λ (xs : List g.row.C.Denot). clocks ++ xs) (sym step)
          ∙ c.loop-clock.invariant.all;
      kept = subst (λ (posts : List (Post g.row.C.Denot)). All (λ (post : Post g.row.C.Denot). post.kept ≡ []) posts) (sym c.in_ok-push.ensures.items)
          (All-append (λ (post : Post g.row.C.Denot). post.kept ≡ []) c.loop-clock.posts.items (c.in_ok-post.post ∷ []) c.loop-clock.invariant.kept
          (All-cons (λ (post : Post g.row.C.Denot). post.kept ≡ []) c.in_ok-post.post [] c.in_ok-post.ensures.kept (All-nil (λ (post : Post g.row.C.Denot). post.kept ≡ []))));
    }

pub returns-clause-clocks : goal.returns-clause-clocks
returns-clause-clocks g c =
    let none : c.loop-clock.clock-iterator.rest.items ≡ [] = grind (arith, common_steps) in
    let clocks : List g.row.C.Denot = map (λ (post : Post g.row.C.Denot). post.clock) c.loop-clock.posts.items in
    sym (append-nil clocks) ∙ ap (λ (xs : List g.row.C.Denot). clocks ++ xs) (sym none) ∙ c.loop-clock.invariant.all
