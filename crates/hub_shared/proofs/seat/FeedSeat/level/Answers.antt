-- What was published begins with what the seat's pass knew, and has no more messages of the feed.
use Rattle.std.proofs.Common.{◌≡◌, ◌≤◌, ◌<◌, List, length, sym, ap, arith}
use Rattle.rt_types.specs.declared.message.FeedMessage.{FeedMessage}
use Rattle.feed_defs.specs.History.{messages_of, last_stamp}
use Rattle.hub_history.specs.Told.{Told, history_of, AreOne}
use Rattle.hub_shared.specs.Seats.{SeatSeen, history_at, count_of, Begins}
use Rattle.hub_shared.proofs.Sitting.{shown, levelled, agreed, one_hub}
use Rattle.hub_shared.proofs.seat.FeedSeat.level.Goals as goal

few : (c : goal.After-agree) → count_of c.self.inside.feed (history_of c.args.publisher.now.line) ≤ c.self.inside.accepted
few c = let seat = c.self.inside in
    agreed seat.key seat.pass seat.feed seat.accepted seat.last seat.receipt c.self.invariant c.args.desk.now c.agree.new.self c.agree.new.key _
    c.agree.ensures.agreed c.agree.ensures.desk c.agree.ensures.key
    (c.requires.counts seat.feed (omega (arith, c.self.invariant.one, c.self.invariant.few)))

one : (c : goal.After-agree) → AreOne c.self.inside.pass.line c.args.publisher.now.line
one c = let seat = c.self.inside in
    one_hub seat.key seat.pass seat.feed seat.accepted seat.last seat.receipt c.self.invariant c.args.self.now.ties c.args.publisher.now.line
    (sym (ap (λ (s : SeatSeen). s.ties.book) c.self.view_is))
    (sym (ap (λ (s : SeatSeen). s.ties.plans) c.self.view_is))
    c.requires.hub

facts : (c : goal.After-agree) → let seat = c.self.inside in let h = history_of c.args.publisher.now.line in
    Begins (history_at seat.receipt) h × (messages_of seat.feed h ≡ messages_of seat.feed (history_at seat.receipt))
    × (count_of seat.feed h ≡ seat.accepted) × (last_stamp seat.feed h ≡ seat.last)
facts c = let seat = c.self.inside in
    levelled seat.key seat.pass seat.feed seat.accepted seat.last seat.receipt c.self.invariant c.args.publisher.now.line c.show.ensures.begins (few c)

pub invariant_of-self : goal.invariant_of-self
invariant_of-self c = let seat = c.self.inside in
    shown seat.key seat.pass seat.feed seat.accepted seat.last seat.receipt c.self.invariant c.agree.new.key c.show.new.pass c.args.publisher.now.line
    c.agree.ensures.key c.show.ensures.whole c.show.ensures.shown (one c) c.show.ensures.begins (few c)

pub returns-clause-begins : goal.returns-clause-begins
returns-clause-begins c = rw (← c.self.view_is) (facts c).0

pub returns-clause-own : goal.returns-clause-own
returns-clause-own c = rw (← c.self.view_is) (facts c).1

pub returns-clause-counted : goal.returns-clause-counted
returns-clause-counted c = rw (← c.self.view_is) (facts c).2

pub returns-clause-last : goal.returns-clause-last
returns-clause-last c = rw (← c.self.view_is) (facts c).3
