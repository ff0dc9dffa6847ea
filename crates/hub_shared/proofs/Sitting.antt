-- What is true of seats.
use Rattle.std.proofs.Common.{◌≡◌, ℕ, ◌<◌, ◌≤◌, List, [], length, map, Option, Some, None, refl, sym, ap, ◌∙◌, subst, arith}
use Rattle.std.specs.Prelude.{unwrap_or, slice_index}
use Rattle.std.specs.List.{last_or}
use mathlib.Core.List.{IsPrefix}
use Rattle.rt_types.specs.declared.message.FeedMessage.{FeedMessage}
use Rattle.feed_defs.specs.declared.history.Entry.{Entry}
use Rattle.feed_defs.specs.History.{IsLegal, messages_of, last_stamp, stamp_of}
use Rattle.feed_permits.specs.Seen.{DeskSeen, KeySeen, fresh_key}
use Rattle.hub_history.specs.Told.{Told, history_of, AreOne}
use Rattle.snapshot_cell.specs.Seen.{PassSeen}
use Rattle.hub_shared.specs.Seats.{Ties, IsOf, history_at, count_of, Begins}
use Rattle.hub_shared.specs.Kept.{IsSeat, Newest}
use Rattle.hub_shared.specs.Calls.{IsSound, HasReceipt}
use Rattle.hub_shared.proofs.Fronts.{begins_trans, prefix_begins, level, none_left}

-- no message of any feed
pub nothing_of : (feed : ℕ) → messages_of feed [] ≡ []
unfolding messages_of
nothing_of feed = refl

-- the same messages of a feed have the same last stamp
pub stamp_same : (feed : ℕ) (a b : List Entry) → messages_of feed a ≡ messages_of feed b → last_stamp feed a ≡ last_stamp feed b
stamp_same feed a b e = ap (λ (ms : List FeedMessage). unwrap_or (last_or None (map stamp_of ms)) 0) e

-- what the receipt knows begins what the seat's pass knows, and has the same messages of the feed
pub newest_begins : (line : Told) (feed accepted : ℕ) (receipt : Option Told) → Newest line feed accepted receipt → Begins (history_at receipt) (history_of line)
newest_begins line feed accepted receipt newest = grind arith

pub newest_own : (line : Told) (feed accepted : ℕ) (receipt : Option Told) → Newest line feed accepted receipt → count_of feed (history_of line) ≡ accepted → messages_of feed (history_of line) ≡ messages_of feed (history_at receipt)
newest_own line feed accepted None newest counted = none_left (messages_of feed (history_of line)) (counted ∙ newest) ∙ sym (nothing_of feed)
newest_own line feed accepted (Some told) newest counted = level feed (history_of told) (history_of line) newest.begins (omega (arith, counted, newest.counted))

module _ (key : KeySeen) (pass : PassSeen) (feed accepted last : ℕ) (receipt : Option Told) (seat : IsSeat key pass feed accepted last receipt) where
  -- what was published has no message of the feed that the seat's pass doesn't know
  pub known : (new : Told) → IsPrefix pass.line.log new.log → count_of feed (history_of new) ≤ accepted → messages_of feed (history_of new) ≡ messages_of feed (history_of pass.line)
  known new pre few = level feed (history_of pass.line) (history_of new) (prefix_begins pass.line.log new.log pre) (omega (arith, seat.counted, few))

  -- what is said of the seat, once it was shown what was published
  pub levelled : (new : Told) → IsPrefix pass.line.log new.log → count_of feed (history_of new) ≤ accepted
      → Begins (history_at receipt) (history_of new) × (messages_of feed (history_of new) ≡ messages_of feed (history_at receipt))
      × (count_of feed (history_of new) ≡ accepted) × (last_stamp feed (history_of new) ≡ last)
  levelled new pre few =
      grind (arith, known, begins_trans, newest_begins, prefix_begins, newest_own, stamp_same)

  -- what the desk agrees with the key
  pub agreed : (desk desk' : DeskSeen) (key' : KeySeen) (count : ℕ) → slice_index desk'.counts key'.number ≤ key'.granted → desk' ≡ desk → key' ≡ key → slice_index desk.counts feed ≡ count → count ≤ accepted
  agreed desk desk' key' count low same_desk same_key counts = grind arith

  -- the seat is of the hub that published it
  pub one_hub : (hub : Ties) (new : Told) → hub.book ≡ pass.line.book → hub.plans ≡ pass.shown.plans → IsOf new hub → AreOne pass.line new
  one_hub hub new book plans of = grind arith

  -- a seat that was shown what was published
  pub shown : (key' : KeySeen) (pass' : PassSeen) (new : Told) → key' ≡ key → pass'.line ≡ new → pass'.shown ≡ pass.shown → AreOne pass.line new
      → IsPrefix pass.line.log new.log → count_of feed (history_of new) ≤ accepted → IsSeat key' pass' feed accepted last receipt
  shown key' pass' new same_key line view hub pre few =
      let own = known new pre few in
      record {
        number = ap (λ (k : KeySeen). k.number) same_key ∙ seat.number;
        granted = ap (λ (k : KeySeen). k.granted) same_key ∙ seat.granted;
        feeds = ap (λ (t : Told). t.feeds) line ∙ sym hub.feeds ∙ seat.feeds ∙ sym (λ i. length (view i).plans.feeds);
        one = subst (λ (n : ℕ). feed < n) (hub.feeds ∙ sym (ap (λ (t : Told). t.feeds) line)) seat.one;
        few = subst (λ (n : ℕ). n ≤ 64) (hub.feeds ∙ sym (ap (λ (t : Told). t.feeds) line)) seat.few;
        counted = ap (λ (t : Told). count_of feed (history_of t)) line ∙ ap (λ (ms : List FeedMessage). length ms) own ∙ seat.counted;
        last_is = ap (λ (t : Told). last_stamp feed (history_of t)) line ∙ stamp_same feed (history_of new) (history_of pass.line) own ∙ seat.last_is;
        newest = subst (λ (t : Told). Newest t feed accepted receipt) (sym line) (newer receipt seat.newest);
      }
    where
      newer : (r : Option Told) → Newest pass.line feed accepted r → Newest new feed accepted r
      newer None newest = newest
      newer (Some told) newest = record {
        hub = record { book = newest.hub.book ∙ hub.book; feeds = newest.hub.feeds ∙ hub.feeds };
        some = newest.some;
        begins = begins_trans (history_of told) (history_of pass.line) (history_of new) newest.begins (prefix_begins pass.line.log new.log pre);
        counted = newest.counted;
        ends = newest.ends;
        legal = newest.legal;
      }

  -- what every seat tells
  pub sounds : (hub : Ties) → hub.book ≡ pass.line.book → hub.plans ≡ pass.shown.plans → IsSound (record { ties = hub; feed = feed; accepted = accepted; last = last; receipt = receipt })
  sounds hub book plans =
      let feeds : pass.line.feeds ≡ length hub.plans.feeds = seat.feeds ∙ sym (λ i. length (plans i).feeds) in
      let own = newest_own pass.line feed accepted receipt seat.newest seat.counted in
      record {
        one = subst (λ (n : ℕ). feed < n) feeds seat.one;
        receipt = told receipt seat.newest;
        counted = ap (λ (ms : List FeedMessage). length ms) (sym own) ∙ seat.counted;
        last = stamp_same feed (history_at receipt) (history_of pass.line) (sym own) ∙ seat.last_is;
      }
    where
      told : (r : Option Told) → Newest pass.line feed accepted r → HasReceipt (record { ties = hub; feed = feed; accepted = accepted; last = last; receipt = receipt }) r
      told None newest = newest
      told (Some t) newest =
          let feeds : t.feeds ≡ length hub.plans.feeds = newest.hub.feeds ∙ seat.feeds ∙ sym (λ i. length (plans i).feeds) in
          record {
            hub = record { book = newest.hub.book ∙ sym book; feeds = feeds };
            some = newest.some;
            ends = newest.ends;
            legal = subst (λ (n : ℕ). IsLegal n (history_of t)) feeds newest.legal;
          }

-- the seat of a feed that sent nothing
pub begins_seat : (key : KeySeen) (pass : PassSeen) (feed : ℕ) → key ≡ fresh_key key.table feed → pass.line.log ≡ [] → pass.line.feeds ≡ length pass.shown.plans.feeds → feed < pass.line.feeds → pass.line.feeds ≤ 64 → IsSeat key pass feed 0 0 None
begins_seat key pass feed fresh empty feeds one few = grind (arith, nothing_of)
