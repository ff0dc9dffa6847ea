-- The message stands at the end of what was published.
use Rattle.std.proofs.Common.{rules, ◌≡◌, ◌<◌, ◌≤◌, ◌+◌, ◌++◌, ◌∷◌, [], ℕ, List, Some, length, refl, sym, ap, ◌∙◌, subst}
use Rattle.std.specs.Prelude.{slice_set}
use Rattle.std.specs.Arc.{arc_value}
use Rattle.feed_defs.specs.declared.history.Entry.{Entry}
use Rattle.feed_defs.specs.History.{stamp_of, last_stamp}
use Rattle.feed_defs.proofs.Legal.{grown}
use Rattle.board_defs.specs.Views.{HubKept, StandsFor, feed_at}
use Rattle.feed_permits.specs.Seen.{DeskSeen}
use Rattle.hub_history.specs.Told.{Told, history_of}
use Rattle.snapshot_cell.specs.Seen.{Publishing}
use Rattle.hub_shared.specs.Seats.{Ties, SeatSeen, count_of, last_feed}
use Rattle.hub_shared.proofs.Fronts.{last_feed_more}
use Rattle.hub_shared.proofs.Taking.{newer_at, legal_at, room, more, last_more, locked_more, takes, legal_moved, stands_moved, grown_moved}
use Rattle.hub_shared.proofs.locked.Locked.take_in.Goals as goal

pub next_view-requires-clause-newer : goal.next_view-requires-clause-newer
next_view-requires-clause-newer g c κs within =
    let l = c.self.inside in let seat = c.args.seat.now in
    let feed_is : c.feed-feed.result ≡ seat.feed = c.feed-feed.ensures ∙ ap (λ (s : SeatSeen). s.feed) c.level.ensures.seat in
    let one : seat.feed < length l.core.plans.feeds = subst (λ (n : ℕ). seat.feed < n) (ap (λ (t : Ties). length t.plans.feeds) (c.requires.tie ∙ sym c.self.view_is)) c.level.ensures.one in
    subst (λ (n : ℕ). (feed_at l.core n).fold.stamp < stamp_of c.args.message) (sym feed_is)
    (newer_at l.core l.publisher l.desk c.self.invariant seat.feed seat.accepted seat.last one c.level.ensures.counted c.level.ensures.last c.args.message c.requires.sound c.requires.newer)

pub publish-requires : goal.publish-requires
publish-requires g c κs within =
    let l = c.self.inside in let seat = c.args.seat.now in
    let feed_is : c.feed-feed.result ≡ seat.feed = c.feed-feed.ensures ∙ ap (λ (s : SeatSeen). s.feed) c.level.ensures.seat in
    let one : seat.feed < length l.core.plans.feeds = subst (λ (n : ℕ). seat.feed < n) (ap (λ (t : Ties). length t.plans.feeds) (c.requires.tie ∙ sym c.self.view_is)) c.level.ensures.one in
    let seen : arc_value c.in_ok-shown.shown ≡ arc_value c.in_ok-next.next = search rules in
    let kept : (arc_value c.in_ok-next.next).plans ≡ l.core.plans = ap (λ (k : HubKept). k.plans) c.in_ok-next.ensures.after in (
      search rules,
      (
        refl,
        (
          legal_moved l.publisher c.level.new.publisher seat.feed c.feed-feed.result c.args.message c.of-noted.result.value c.level.ensures.publisher feed_is c.of-noted.ensures
              (legal_at l.core l.publisher l.desk c.self.invariant seat.feed seat.accepted seat.last one c.level.ensures.counted c.level.ensures.last c.args.message c.requires.sound c.requires.newer),
          (
            stands_moved l.publisher c.level.new.publisher c.feed-feed.result c.args.message c.of-noted.result.value (arc_value c.in_ok-next.next) (arc_value c.in_ok-shown.shown) c.level.ensures.publisher c.of-noted.ensures seen
                (c.in_ok-next.ensures.stands (history_of l.publisher.line) c.self.invariant.stands),
            ap (λ (k : HubKept). k.plans) seen ∙ kept ∙ sym c.self.invariant.plans ∙ sym (ap (λ (p : Publishing). p.plans) c.level.ensures.publisher),
          ),
        ),
      ),
    )

pub count-requires-clause-room : goal.count-requires-clause-room
count-requires-clause-room g c =
    let l = c.self.inside in let seat = c.args.seat.now in
    let feed_is : c.feed-feed.result ≡ seat.feed = c.feed-feed.ensures ∙ ap (λ (s : SeatSeen). s.feed) c.level.ensures.seat in
    let one : seat.feed < length l.core.plans.feeds = subst (λ (n : ℕ). seat.feed < n) (ap (λ (t : Ties). length t.plans.feeds) (c.requires.tie ∙ sym c.self.view_is)) c.level.ensures.one in
    let few : (feed_at l.core seat.feed).fold.count ≤ (feed_at l.core seat.feed).fold.stamp =
    subst (λ (n : ℕ). (feed_at l.core n).fold.count ≤ (feed_at l.core n).fold.stamp) feed_is
    (subst (λ (k : HubKept). (feed_at k c.feed-feed.result).fold.count ≤ (feed_at k c.feed-feed.result).fold.stamp) (c.deref.ensures ∙ c.view.ensures) c.counts_few.ensures) in
    subst (λ (s : SeatSeen). s.accepted < 253402300799) (sym c.level.ensures.seat)
    (room l.core l.publisher l.desk c.self.invariant seat.feed seat.accepted seat.last one c.level.ensures.counted c.level.ensures.last c.args.message c.requires.sound c.requires.newer few)

pub count-requires-clause-more : goal.count-requires-clause-more
count-requires-clause-more g c =
    let l = c.self.inside in let seat = c.args.seat.now in
    let feed_is : c.feed-feed.result ≡ seat.feed = c.feed-feed.ensures ∙ ap (λ (s : SeatSeen). s.feed) c.level.ensures.seat in
    let one : seat.feed < length l.core.plans.feeds = subst (λ (n : ℕ). seat.feed < n) (ap (λ (t : Ties). length t.plans.feeds) (c.requires.tie ∙ sym c.self.view_is)) c.level.ensures.one in
    let history : history_of c.publish.new.publisher.line ≡ grown (history_of l.publisher.line) seat.feed c.args.message =
    ap (λ (t : Told). history_of t) c.in_ok-receipt.ensures.published ∙ c.in_ok-receipt.ensures.history
    ∙ grown_moved l.publisher c.level.new.publisher seat.feed c.feed-feed.result c.args.message c.of-noted.result.value c.level.ensures.publisher feed_is c.of-noted.ensures in
    ap (λ (s : SeatSeen). count_of s.feed (history_of c.publish.new.publisher.line)) c.level.ensures.seat
    ∙ ap (λ (h : List Entry). count_of seat.feed h) history
    ∙ more l.core l.publisher l.desk c.self.invariant seat.feed seat.accepted seat.last one c.level.ensures.counted c.level.ensures.last c.args.message c.requires.sound c.requires.newer
    ∙ sym (ap (λ (s : SeatSeen). s.accepted + 1) c.level.ensures.seat)

pub count-requires-clause-last : goal.count-requires-clause-last
count-requires-clause-last g c =
    let l = c.self.inside in let seat = c.args.seat.now in
    let feed_is : c.feed-feed.result ≡ seat.feed = c.feed-feed.ensures ∙ ap (λ (s : SeatSeen). s.feed) c.level.ensures.seat in
    let one : seat.feed < length l.core.plans.feeds = subst (λ (n : ℕ). seat.feed < n) (ap (λ (t : Ties). length t.plans.feeds) (c.requires.tie ∙ sym c.self.view_is)) c.level.ensures.one in
    let history : history_of c.publish.new.publisher.line ≡ grown (history_of l.publisher.line) seat.feed c.args.message =
    ap (λ (t : Told). history_of t) c.in_ok-receipt.ensures.published ∙ c.in_ok-receipt.ensures.history
    ∙ grown_moved l.publisher c.level.new.publisher seat.feed c.feed-feed.result c.args.message c.of-noted.result.value c.level.ensures.publisher feed_is c.of-noted.ensures in
    let stamp : stamp_of c.args.message ≡ c.unwrap_or-stamp.result = search rules in
    ap (λ (s : SeatSeen). last_stamp s.feed (history_of c.publish.new.publisher.line)) c.level.ensures.seat
    ∙ ap (λ (h : List Entry). last_stamp seat.feed h) history
    ∙ last_more l.core l.publisher l.desk c.self.invariant seat.feed seat.accepted seat.last one c.level.ensures.counted c.level.ensures.last c.args.message c.requires.sound c.requires.newer
    ∙ stamp

pub count-requires-clause-ends : goal.count-requires-clause-ends
count-requires-clause-ends g c =
    let l = c.self.inside in let seat = c.args.seat.now in
    let feed_is : c.feed-feed.result ≡ seat.feed = c.feed-feed.ensures ∙ ap (λ (s : SeatSeen). s.feed) c.level.ensures.seat in
    let history : history_of c.publish.new.publisher.line ≡ grown (history_of l.publisher.line) seat.feed c.args.message =
    ap (λ (t : Told). history_of t) c.in_ok-receipt.ensures.published ∙ c.in_ok-receipt.ensures.history
    ∙ grown_moved l.publisher c.level.new.publisher seat.feed c.feed-feed.result c.args.message c.of-noted.result.value c.level.ensures.publisher feed_is c.of-noted.ensures in
    ap (λ (h : List Entry). last_feed h) history
    ∙ last_feed_more (history_of l.publisher.line) (record { feed = seat.feed; message = c.args.message })
    ∙ sym (ap (λ (s : SeatSeen). Some s.feed) c.level.ensures.seat)

pub invariant_of-self-2 : goal.invariant_of-self-2
invariant_of-self-2 g c =
    let l = c.self.inside in let seat = c.args.seat.now in
    let feed_is : c.feed-feed.result ≡ seat.feed = c.feed-feed.ensures ∙ ap (λ (s : SeatSeen). s.feed) c.level.ensures.seat in
    let one : seat.feed < length l.core.plans.feeds = subst (λ (n : ℕ). seat.feed < n) (ap (λ (t : Ties). length t.plans.feeds) (c.requires.tie ∙ sym c.self.view_is)) c.level.ensures.one in
    let history : history_of c.publish.new.publisher.line ≡ grown (history_of l.publisher.line) seat.feed c.args.message =
    ap (λ (t : Told). history_of t) c.in_ok-receipt.ensures.published ∙ c.in_ok-receipt.ensures.history
    ∙ grown_moved l.publisher c.level.new.publisher seat.feed c.feed-feed.result c.args.message c.of-noted.result.value c.level.ensures.publisher feed_is c.of-noted.ensures in
    let published : c.count.new.publisher ≡ c.publish.new.publisher = c.count.ensures.publisher in
    let feeds : c.publish.new.publisher.line.feeds ≡ l.publisher.line.feeds =
    ap (λ (t : Told). t.feeds) c.in_ok-receipt.ensures.published ∙ c.in_ok-receipt.ensures.hub.feeds ∙ ap (λ (p : Publishing). p.line.feeds) c.level.ensures.publisher in
    let stands = subst (λ (n : ℕ). StandsFor (grown (history_of l.publisher.line) n c.args.message) (arc_value c.in_ok-next.next)) feed_is (c.in_ok-next.ensures.stands (history_of l.publisher.line) c.self.invariant.stands) in
    locked_more l.core l.publisher l.desk c.self.invariant seat.feed seat.accepted seat.last one c.level.ensures.counted c.level.ensures.last c.args.message c.requires.sound c.requires.newer
    c.level.ensures.few c.commit.new.self c.count.new.publisher c.count.new.desk
    (subst (λ (k : HubKept). StandsFor (grown (history_of l.publisher.line) seat.feed c.args.message) k) (sym c.commit.ensures) stands)
    (ap (λ (k : HubKept). k.plans) (c.commit.ensures ∙ c.in_ok-next.ensures.after))
    (ap (λ (p : Publishing). history_of p.line) published ∙ history)
    (ap (λ (p : Publishing). p.line.feeds) published ∙ feeds)
    (ap (λ (p : Publishing). p.plans) published ∙ c.in_ok-receipt.ensures.plans ∙ ap (λ (p : Publishing). p.plans) c.level.ensures.publisher)
    (ap (λ (d : DeskSeen). d.counts) c.count.ensures.desk ∙ (λ i. slice_set (c.level.ensures.desk i).counts (c.level.ensures.seat i).feed ((c.level.ensures.seat i).accepted + 1)))

pub returns-clause-taken : goal.returns-clause-taken
returns-clause-taken g c =
    let l = c.self.inside in let seat = c.args.seat.now in
    let feed_is : c.feed-feed.result ≡ seat.feed = c.feed-feed.ensures ∙ ap (λ (s : SeatSeen). s.feed) c.level.ensures.seat in
    let one : seat.feed < length l.core.plans.feeds = subst (λ (n : ℕ). seat.feed < n) (ap (λ (t : Ties). length t.plans.feeds) (c.requires.tie ∙ sym c.self.view_is)) c.level.ensures.one in
    let history : history_of c.in_ok-receipt.receipt ≡ grown (history_of l.publisher.line) seat.feed c.args.message =
    c.in_ok-receipt.ensures.history
    ∙ grown_moved l.publisher c.level.new.publisher seat.feed c.feed-feed.result c.args.message c.of-noted.result.value c.level.ensures.publisher feed_is c.of-noted.ensures in
    let stamp : c.unwrap_or-stamp.result ≡ stamp_of c.args.message = search rules in
    takes l.core l.publisher l.desk c.self.invariant seat.feed seat.accepted seat.last one c.level.ensures.counted c.level.ensures.last c.args.message c.requires.sound c.requires.newer
    c.args.self.now seat c.count.new.self c.in_ok-receipt.receipt c.requires.tie refl
    (record { book = ap (λ (t : Ties). t.book) c.self.view_is; feeds = c.self.invariant.feeds ∙ ap (λ (t : Ties). length t.plans.feeds) c.self.view_is })
    (record {
      book = c.in_ok-receipt.ensures.hub.book ∙ ap (λ (p : Publishing). p.line.book) c.level.ensures.publisher;
      feeds = c.in_ok-receipt.ensures.hub.feeds ∙ ap (λ (p : Publishing). p.line.feeds) c.level.ensures.publisher;
    })
    c.level.ensures.begins c.level.ensures.own history
    (c.count.ensures.seat ∙ (λ i. record (c.level.ensures.seat i) {
      accepted = (c.level.ensures.seat i).accepted + 1;
      last = stamp i;
      receipt = Some (c.in_ok-receipt.ensures.published i);
    }))
