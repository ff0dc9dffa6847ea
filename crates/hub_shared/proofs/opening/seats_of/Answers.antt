-- One seat more.
use Rattle.std.proofs.Common.{rules, arith, ◌≡◌, ◌++◌, ◌+◌, ◌∷◌, [], ℕ, List, Option, length, map, sym, ap, ◌∙◌, subst}
use Rattle.std.specs.Prelude.{IfSome}
use Rattle.std.specs.List.{range_with_len}
use Rattle.std.proofs.lemmas.List.FromFn.{map-range_with_len_more}
use Rattle.std.proofs.lemmas.List.Elements.{All-pop}
use Rattle.feed_permits.specs.Seen.{KeySeen, fresh_key}
use Rattle.snapshot_cell.specs.Seen.{PassSeen}
use Rattle.hub_shared.specs.Seats.{Ties, SeatSeen, fresh_seat}
use Rattle.hub_shared.specs.Calls.{IsFresh}
use Rattle.hub_shared.proofs.Dealt.{first_key, ties_are}
use Rattle.hub_shared.proofs.opening.seats_of.Goals as goal

pub loop-key-preserved : goal.loop-key-preserved
loop-key-preserved c =
    let hub : Ties = c.args.hub.now in
    let n = c.loop-key.feed in
    let step : c.loop-key.key-iterator.rest.items ≡ c.in-Some.key ∷ c.next.new.self.rest.items = c.in-Some.ensures.steps.0 in
    let keys = first_key hub.table n c.in-Some.key c.next.new.self.rest.items
    (sym step ∙ c.loop-key.invariant.keys ∙ ap (λ (xs : List KeySeen). map (fresh_key hub.table) (range_with_len n (length xs))) step) in
    let popped = All-pop (λ (pass : PassSeen). IsFresh hub pass) c.loop-key.left.items c.pop.new.self.items c.pop.result c.pop.ensures.items c.loop-key.invariant.passes in
    let fresh : IsFresh hub c.in-Some-pop.pass = subst (λ (o : Option PassSeen). IfSome o (λ pass. IsFresh hub pass)) c.in-Some-pop.is popped.1 in
    let seat : c.new.result ≡ fresh_seat hub n =
    c.new.ensures ∙ ap (λ (t : Ties). fresh_seat t n) (ties_are hub c.in-Some-pop.pass c.in-Some.key fresh (ap (λ (k : KeySeen). k.table) keys.0)) in
    record {
      can = tt;
      finite = tt;
      keys = keys.1;
      all = omega (arith, c.loop-key.invariant.all, ap length step);
      seats = c.in_ok-push.ensures.items
          ∙ ap (λ (ss : List SeatSeen). ss ++ c.new.result ∷ []) c.loop-key.invariant.seats
          ∙ ap (λ (s : SeatSeen). map (fresh_seat hub) (range_with_len 0 n) ++ s ∷ []) seat
          ∙ sym (map-range_with_len_more (fresh_seat hub) 0 n n (omega arith));
      passes = popped.0;
      count = omega (arith, c.loop-key.invariant.count, c.in-Some-pop.ensures.len);
      few = omega (arith, c.if-feed-feeds.false);
    }
