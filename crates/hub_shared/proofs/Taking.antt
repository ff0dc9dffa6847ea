-- A message that is taken in keeps what is true under the lock.
use Rattle.std.proofs.Common.{◌≡◌, zero, suc, replicate, ◌⊎◌, ⊎_elim, ℕ, ◌+◌, ◌<◌, ◌≤◌, List, [], ◌∷◌, length, true, Some, IsTrue, refl, sym, ap, ◌∙◌, subst, arith, length-set, length-append, get_or-set_same, get_or-set_other}
use Rattle.std.specs.Prelude.{slice_index, slice_set}
use Rattle.std.proofs.lemmas.Bool.{and_parts}
use Rattle.std.proofs.lemmas.Bool.Decides.{nat_tests}
use Rattle.text_defs.specs.Moments.{last_moment, is_stamp}
use Rattle.rt_types.specs.declared.message.FeedMessage.{FeedMessage}
use Rattle.feed_defs.specs.declared.history.Entry.{Entry}
use Rattle.feed_defs.specs.History.{IsLegal, messages_of, last_stamp, stamp_of, is_sound, has_version, has_moment}
use Rattle.feed_defs.proofs.Legal.{empty_legal, grown, messages_of-own, messages_of-other, last_stamp-own, legal_more, same_or_not}
use Rattle.board_defs.specs.Views.{HubKept, StandsFor, feed_at}
use Rattle.board_defs.proofs.ViewLaws.{fold_at}
use Rattle.feed_permits.specs.Seen.{DeskSeen}
use Rattle.hub_history.specs.Log.{entries_of}
use Rattle.hub_history.specs.Told.{Told, history_of, AreOne}
use Rattle.snapshot_cell.specs.Seen.{Publishing}
use Rattle.hub_shared.specs.Seats.{Ties, IsOf, SeatSeen, history_at, count_of, Begins}
use Rattle.hub_shared.specs.Kept.{IsLocked}
use Rattle.hub_shared.specs.Calls.{Takes}
use Rattle.hub_shared.proofs.Sitting.{nothing_of}

-- a sound message has a moment
pub moment_of : (m : FeedMessage) → is_sound m ≡ true → IsTrue (is_stamp (stamp_of m))
moment_of m sound = (and_parts (has_version m) (has_moment m) sound).1

below_last : (n : ℕ) → IsTrue (is_stamp n) → n ≤ last_moment
below_last n is = grind (arith, nat_tests)

module _ (core : HubKept) (publisher : Publishing) (desk : DeskSeen) (locked : IsLocked core publisher desk) (feed accepted last : ℕ) (one : feed < length core.plans.feeds)
    (counted : count_of feed (history_of publisher.line) ≡ accepted) (last_is : last_stamp feed (history_of publisher.line) ≡ last) where
  -- the view has the seat's stamp and count
  pub stamp_at : (feed_at core feed).fold.stamp ≡ last
  stamp_at = ap (λ fold. fold.stamp) (fold_at (history_of publisher.line) core feed locked.stands one) ∙ last_is

  pub count_at : (feed_at core feed).fold.count ≡ accepted
  count_at = ap (λ fold. fold.count) (fold_at (history_of publisher.line) core feed locked.stands one) ∙ counted

  module _ (m : FeedMessage) (sound : is_sound m ≡ true) (newer : last < stamp_of m) where
    pub newer_at : (feed_at core feed).fold.stamp < stamp_of m
    newer_at = subst (λ n. n < stamp_of m) (sym stamp_at) newer

    pub legal_at : IsLegal publisher.line.feeds (grown (history_of publisher.line) feed m)
    legal_at = legal_more publisher.line.feeds (history_of publisher.line) feed m locked.legal (subst (λ n. feed < n) (sym locked.feeds) one) sound (subst (λ n. n < stamp_of m) (sym last_is) newer)

    pub room : (feed_at core feed).fold.count ≤ (feed_at core feed).fold.stamp → accepted < 253402300799
    room few = grind (arith, below_last, moment_of, stamp_at, count_at)

    pub more : count_of feed (grown (history_of publisher.line) feed m) ≡ accepted + 1
    more = ap length (messages_of-own feed (history_of publisher.line) m) ∙ length-append (messages_of feed (history_of publisher.line)) (m ∷ []) ∙ ap (λ n. n + 1) counted

    pub last_more : last_stamp feed (grown (history_of publisher.line) feed m) ≡ stamp_of m
    last_more = last_stamp-own feed (history_of publisher.line) m

    -- what is true with the message taken in
    pub locked_more : feed < 64 → (core' : HubKept) (publisher' : Publishing) (desk' : DeskSeen)
        → StandsFor (grown (history_of publisher.line) feed m) core' → core'.plans ≡ core.plans
        → history_of publisher'.line ≡ grown (history_of publisher.line) feed m → publisher'.line.feeds ≡ publisher.line.feeds → publisher'.plans ≡ publisher.plans
        → desk'.counts ≡ slice_set desk.counts feed (accepted + 1) → IsLocked core' publisher' desk'
    locked_more small core' publisher' desk' stands core_plans history feeds plans counts = record {
      stands = subst (λ (h : List Entry). StandsFor h core') (sym history) stands;
      plans = plans ∙ locked.plans ∙ sym core_plans;
      feeds = feeds ∙ locked.feeds ∙ sym (λ i. length (core_plans i).feeds);
      legal = subst (λ (n : ℕ). IsLegal n (history_of publisher'.line)) (sym feeds) (subst (λ (h : List Entry). IsLegal publisher.line.feeds h) (sym history) legal_at);
      wide = ap length counts ∙ length-set desk.counts feed (accepted + 1) ∙ locked.wide;
      counts = λ k within. ap (λ (xs : List ℕ). slice_index xs k) counts ∙ each k within ∙ sym (ap (λ (h : List Entry). count_of k h) history);
    }
      where
        each : (k : ℕ) → k < 64 → slice_index (slice_set desk.counts feed (accepted + 1)) k ≡ count_of k (grown (history_of publisher.line) feed m)
        each k within = ⊎_elim
            (λ same. ap (λ (j : ℕ). slice_index (slice_set desk.counts feed (accepted + 1)) j) same
            ∙ get_or-set_same desk.counts feed (accepted + 1) 0 (omega (arith, locked.wide, small))
            ∙ sym more ∙ ap (λ (j : ℕ). count_of j (grown (history_of publisher.line) feed m)) (sym same))
            (λ other. get_or-set_other desk.counts feed k (accepted + 1) 0 other
            ∙ locked.counts k within
            ∙ sym (ap length (messages_of-other k feed (history_of publisher.line) m other)))
            (same_or_not k feed)

    -- what the seat is told
    pub takes : (hub : Ties) (old new : SeatSeen) (receipt : Told)
        → old.ties ≡ hub → old.feed ≡ feed → IsOf publisher.line hub → AreOne receipt publisher.line
        → Begins (history_at old.receipt) (history_of publisher.line)
        → messages_of feed (history_of publisher.line) ≡ messages_of feed (history_at old.receipt)
        → history_of receipt ≡ grown (history_of publisher.line) feed m
        → new ≡ record old { accepted = old.accepted + 1; last = stamp_of m; receipt = Some receipt }
        → Takes old m new receipt
    takes hub old new receipt ties feed_is of are begins own history seat =
        grind (arith, grown, messages_of-own)

-- the same of names for the same things
pub legal_moved : (p p' : Publishing) (f f' : ℕ) (m m' : FeedMessage) → p' ≡ p → f' ≡ f → m' ≡ m → IsLegal p.line.feeds (grown (history_of p.line) f m) → IsLegal p'.line.feeds (grown (history_of p'.line) f' m')
legal_moved p p' f f' m m' e g h legal = grind (arith, grown)

pub stands_moved : (p p' : Publishing) (f : ℕ) (m m' : FeedMessage) (kept kept' : HubKept) → p' ≡ p → m' ≡ m → kept' ≡ kept → StandsFor (grown (history_of p.line) f m) kept → StandsFor (grown (history_of p'.line) f m') kept'
stands_moved p p' f m m' kept kept' e h same stands = grind (arith, grown)

pub grown_moved : (p p' : Publishing) (f f' : ℕ) (m m' : FeedMessage) → p' ≡ p → f' ≡ f → m' ≡ m → grown (history_of p'.line) f' m' ≡ grown (history_of p.line) f m
grown_moved p p' f f' m m' e g h = grind (arith, grown)

-- what is kept of a hub that accepted nothing
pub locked_first : (core view : HubKept) (publisher : Publishing) (desk : DeskSeen) → StandsFor [] core → view ≡ core → publisher.line.log ≡ [] → publisher.line.feeds ≡ length view.plans.feeds → publisher.plans ≡ view.plans
    → desk.counts ≡ replicate 64 0 → IsLocked core publisher desk
locked_first core view publisher desk stands same log feeds plans counts =
    let none : history_of publisher.line ≡ [] = ap entries_of log in
    record {
      stands = subst (λ (h : List Entry). StandsFor h core) (sym none) stands;
      plans = plans ∙ ap (λ (k : HubKept). k.plans) same;
      feeds = feeds ∙ ap (λ (k : HubKept). length k.plans.feeds) same;
      legal = subst (λ (h : List Entry). IsLegal publisher.line.feeds h) (sym none) (empty_legal publisher.line.feeds);
      wide = ap length counts;
      counts = λ k within. ap (λ (xs : List ℕ). slice_index xs k) counts ∙ zeros 64 k ∙ sym (ap length (nothing_of k)) ∙ sym (ap (λ (h : List Entry). count_of k h) none);
    }
  where
    zeros : (n k : ℕ) → slice_index (replicate n 0) k ≡ 0
    zeros zero k = refl
    zeros (suc n) zero = refl
    zeros (suc n) (suc k) = zeros n k
