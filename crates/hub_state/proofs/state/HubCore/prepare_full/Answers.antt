-- The next view stands for the history with the message at its end.
use Rattle.std.proofs.Common.{◌≡◌, ◌∙◌, sym, ap, subst, [], ◌∷◌, ◌++◌}
use Rattle.std.specs.Arc.{arc_value}
use Rattle.board_defs.specs.Views.{StandsFor, hub_after}
use Rattle.board_defs.proofs.ViewLaws.{stands_more}
use Rattle.hub_state.proofs.state.HubCore.prepare_full.Goals as goal

pub returns-clause-stands : goal.returns-clause-stands
returns-clause-stands g c =
    λ h stands.
    let is : arc_value c.in_ok-new.field-0 ≡ hub_after c.args.feed c.args.message c.args.self.now =
    c.in_ok-new.ensures.ok ∙ c.in_ok-next.ensures ∙ ap (hub_after c.args.feed c.args.message) (c.deref.ensures ∙ c.self.view_is) in
    subst (StandsFor (h ++ record { feed = c.args.feed; message = c.args.message } ∷ [])) (sym is)
    (stands_more h c.args.self.now c.args.feed c.args.message stands c.requires.feed)
