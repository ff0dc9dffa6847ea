-- What the feed holds, entity by entity.
use Rattle.std.proofs.Common.{◌≡◌, ℕ, Bool, List, map, ap, sym, ◌∙◌}
use Rattle.feed_defs.specs.declared.history.Stored.{Stored}
use Rattle.sched_types.specs.declared.plans.NamedFeed.{NamedFeed}
use Rattle.board_defs.specs.Feeds.{HubFeed}
use Rattle.board_defs.specs.Fold.{FeedFold}
use Rattle.board_parts.specs.Walks.{held_of, walked, walked_by}
use Rattle.board_parts.proofs.Lists.{map_twice}
use Rattle.board_parts.proofs.entities.FeedEntities.over.Goals as goal

all_held : (one : HubFeed) (alerts : Bool) (number : ℕ) (feed : NamedFeed) (fold : FeedFold) (left : List Stored) → number ≡ one.number → feed ≡ one.feed → fold ≡ one.fold
    → left ≡ map (λ change. change.1) (walked alerts fold.entities) → map (held_of number feed) left ≡ walked_by alerts one
all_held one alerts number feed fold left numbered named folded is =
    ap (λ n. map (held_of n feed) left) numbered
    ∙ ap (λ f. map (held_of one.number f) left) named
    ∙ ap (map (held_of one.number one.feed)) (is ∙ ap (λ f. map (λ change. change.1) (walked alerts f.entities)) folded)
    ∙ sym (map_twice (λ change. change.1) (held_of one.number one.feed) (walked alerts one.fold.entities))

pub returns : goal.returns
returns c =
    all_held c.args.feed c.args.alerts c.number.result c.feed.result.now c.view.result.now.fold c.stored_in.result
    c.number.ensures c.feed.ensures c.view.ensures c.stored_in.ensures
