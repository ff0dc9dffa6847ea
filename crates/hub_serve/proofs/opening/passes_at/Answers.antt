-- One pass more.
use Rattle.std.proofs.Common.{◌≡◌, ◌++◌, ◌∷◌, [], List, sym, ap, ◌∙◌, append_assoc, append-nil, arith}
use Rattle.std.proofs.lemmas.Grind.{common_steps}
use Rattle.std.proofs.lemmas.List.Elements.{All-rest}
use Rattle.snapshot_cell.specs.Seen.{PassSeen}
use Rattle.hub_shared.specs.Calls.{IsFresh}
use Rattle.hub_serve.proofs.opening.passes_at.Goals as goal

pub loop-pass-preserved : goal.loop-pass-preserved
loop-pass-preserved g c =
    let step : c.loop-pass.pass-iterator.rest.items ≡ c.in-Some.pass ∷ c.next.new.self.rest.items = c.in-Some.ensures.steps.0 in
    record {
      all = ap (λ (zs : List PassSeen). zs ++ c.next.new.self.rest.items) c.in_ok-push.ensures.items
          ∙ append_assoc c.loop-pass.same.items (c.new.result ∷ []) c.next.new.self.rest.items
          ∙ ap (λ (p : PassSeen). c.loop-pass.same.items ++ (p ∷ c.next.new.self.rest.items)) c.new.ensures
          ∙ ap (λ (zs : List PassSeen). c.loop-pass.same.items ++ zs) (sym step)
          ∙ c.loop-pass.invariant.all;
      fresh = All-rest (λ (pass : PassSeen). IsFresh g.H.OfHub.ties pass) c.in-Some.pass c.next.new.self.rest.items c.loop-pass.pass-iterator.rest.items step c.loop-pass.invariant.fresh;
    }

pub returns : goal.returns
returns g c =
    let none : c.loop-pass.pass-iterator.rest.items ≡ [] = grind (arith, common_steps) in
    sym (append-nil c.loop-pass.same.items) ∙ ap (λ (zs : List PassSeen). c.loop-pass.same.items ++ zs) (sym none) ∙ c.loop-pass.invariant.all
