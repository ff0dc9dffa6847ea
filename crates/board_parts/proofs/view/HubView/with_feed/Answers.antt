-- The next view is the hub with one message more.
use Rattle.std.proofs.Common.{◌≡◌, ◌≤◌, map, ap, sym, ◌∙◌, arith}
use Rattle.std.specs.Arc.{arc_value}
use Rattle.text_defs.specs.Moments.{last_moment}
use Rattle.board_defs.proofs.ViewLaws.{entries_fit}
use Rattle.feed_view.specs.Kept.{kept_of}
use Rattle.board_parts.specs.Whole.{indexes_of}
use Rattle.board_parts.proofs.NextView.{next_is, next_hub}
use Rattle.board_parts.proofs.Overs.{kept_shared, next_over}
use Rattle.board_parts.proofs.view.HubView.with_feed.Goals as goal

pub overflow_add-result : goal.overflow_add-result
overflow_add-result c = omega (arith, entries_fit _ c.self.invariant.hub (rw c.deref.ensures at c.sound.ensures.few_feeds))

pub invariant_of-result : goal.invariant_of-result
invariant_of-result c =
    let shared : map arc_value c.in_ok-feeds.feeds.items ≡ map arc_value c.self.inside.feeds.items = rw c.as_slice.ensures.value at c.in_ok-feeds.ensures in
    record {
      hub = next_hub (λ feed. kept_of feed.value) c.in_ok-feeds.feeds.items c.self.inside.feeds.items c.in_ok-feeds-2.field-0 (kept_of c.args.view) c.self.inside.plans.value c.in_ok-try_clone.field-0.value c.args.feed c.self.inside.entries
          (kept_shared arc_value c.in_ok-feeds.feeds.items c.self.inside.feeds.items shared) (ap kept_of c.in_ok-feeds-2.ensures.ok) c.in_ok-try_clone.ensures c.self.invariant.hub
          (rw (← c.self.view_is) at c.requires.feed) (rw (← c.self.view_is) at c.requires.more) (let few : c.args.view.fold.count ≤ last_moment = omega arith in few);
      indexed = c.in_ok-try_clone-2.ensures ∙ c.self.invariant.indexed ∙ ap indexes_of (sym c.in_ok-try_clone.ensures);
      over = next_over arc_value c.in_ok-feeds.feeds.items c.self.inside.feeds.items c.in_ok-feeds-2.field-0 c.args.view c.self.inside.plans.value c.in_ok-try_clone.field-0.value c.args.feed
          shared c.in_ok-feeds-2.ensures.ok c.in_ok-try_clone.ensures c.self.invariant.over (rw (← c.self.view_is) at c.requires.feed) (rw (← c.self.view_is) at c.requires.over);
    }

pub returns : goal.returns
returns c =
    let shared : map arc_value c.in_ok-feeds.feeds.items ≡ map arc_value c.self.inside.feeds.items = rw c.as_slice.ensures.value at c.in_ok-feeds.ensures in
    rw (← c.self.view_is)
    (next_is (λ feed. kept_of feed.value) c.in_ok-feeds.feeds.items c.self.inside.feeds.items c.in_ok-feeds-2.field-0 (kept_of c.args.view) c.self.inside.plans.value c.in_ok-try_clone.field-0.value c.args.feed c.self.inside.entries
    (kept_shared arc_value c.in_ok-feeds.feeds.items c.self.inside.feeds.items shared) (ap kept_of c.in_ok-feeds-2.ensures.ok) c.in_ok-try_clone.ensures)
