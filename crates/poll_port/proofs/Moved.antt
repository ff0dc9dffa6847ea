-- What the polls of a call do to the messages ahead and to the count of faults.
use Rattle.std.proofs.Common.{◌≡◌, ℕ, zero, suc, ◌+◌, ◌-◌, ◌≤◌, ◌<◌, List, [], ◌∷◌, length, Option, None, Some, true, false, inl, inr, refl, sym, ap, ◌∙◌, subst, arith}
use Rattle.std.specs.Prelude.{◌⊎◌, IfSome, min, nat_lt, replicate, if◌then◌else◌}
use Rattle.std.specs.Option.{option_map, option_and_then}
use Rattle.std.proofs.lemmas.Bool.{cases_lt}
use Rattle.std.proofs.lemmas.Bool.Decides.{nat_tests}
use Rattle.std.proofs.lemmas.List.{length-replicate}
use Rattle.feed_defs.specs.History.{longest_message}
use Rattle.feed_port.specs.Ports.{Ahead, Gives, IsDone, Answers, GoesOnToTell, HasPortCause}
use Rattle.feed_port.specs.declared.port.PortAnswer.{PortAnswer}
use Rattle.feed_port.specs.declared.port.PortAnswer.TheVariants as answer
use Rattle.hub_outside.proofs.Rising.{rose_later, rose_before}
use Rattle.hub_outside.specs.Doors.{HandsOut}
use Rattle.hub_outside.specs.declared.doors.DoorAnswer.TheVariants.{End as DoorEnd}
use Rattle.hub_outside.specs.Count.{Rose, one_more, last_count}
use Rattle.poll_port.specs.declared.extent.Extent.TheVariants.{ToEnd, Bytes}
use Rattle.poll_port.specs.declared.messages.Reply.{Reply}
use Rattle.poll_port.specs.declared.messages.Reply.TheVariants.{Message, TooLong, Unfit}
use Rattle.poll_port.specs.Heads.{reply_in}
use Rattle.poll_port.specs.Polling.{has_polls}
use Rattle.poll_port.specs.Polls.{Ends, PortState, PollsLink, FailsPoll, EndsPolls, FailPolls, CallAnswers, PollAnswers}
use Rattle.poll_port.specs.Ports.{ahead_at, poll_ahead, poll_faults}
use Rattle.poll_port.specs.Reading.{IsUnfit}
use Rattle.poll_port.specs.Replies.{message_in, IsReply, IsLongReply}
use Rattle.poll_port.proofs.Aheads.{Loses, link_taken, over_none, ended_none}
use Rattle.poll_port.proofs.ReplyLaws.{good_reply, reply_is_found, no_reply_found}

-- ---- counts

-- a sum up to the last value rose with its second part, or with its first
second_rose : (a a' b : ℕ) → a ≤ a' → Rose (min (a + b) last_count) (min (a' + one_more b) last_count)
second_rose a a' b later = (omega (arith, later), λ same. omega (arith, later, same))

first_rose : (a a' b : ℕ) → Rose a a' → Rose (min (a + b) last_count) (min (a' + b) last_count)
first_rose a a' b rose =
    let least = rose.0 in (
      omega (arith, least),
      λ same. by (cases_lt a a') same,
    )
  where
    by : (a < a') ⊎ (a' ≤ a) → min (a + b) last_count ≡ min (a' + b) last_count → min (a + b) last_count ≡ last_count
    by (inl above) same = omega (arith, above, same)
    by (inr not_above) same =
        let least = rose.0 in
        let equal : a ≡ a' = omega (arith, least, not_above) in
        let last = rose.1 equal in
        omega (arith, last)

-- ---- moves

-- from one moment to another these messages were handed in, a port went on to tell what is ahead, and
-- its count did not fall
pub record Moves (items : List (List ℕ)) (before after : Ahead) (faults faults' : ℕ) : Type 0 where
  pub gives : Gives before after items
  pub told : GoesOnToTell before after faults faults'
  pub later : faults ≤ faults'

moves_then : (items : List (List ℕ)) (a b c : Ahead) (f g h : ℕ) → Moves [] a b f g → Moves items b c g h → Moves items a c f h
moves_then items a b c f g h first second = record {
  gives = given a b c first.gives second.gives second.told;
  told = goes_on a b c first.told second.told first.later second.later;
  later = let one = first.later in let two = second.later in omega (arith, one, two);
}
  where
    given : (a b c : Ahead) → Gives a b [] → Gives b c items → GoesOnToTell b c g h → Gives a c items
    given None b c gone gave told = tt
    given (Some xs) None c gone gave told = subst (λ d. Gives (Some xs) d items) (sym told) tt
    given (Some xs) (Some ys) None gone gave told = tt
    given (Some xs) (Some ys) (Some zs) gone gave told = gone ∙ gave

    goes_on : (a b c : Ahead) → GoesOnToTell a b f g → GoesOnToTell b c g h → f ≤ g → g ≤ h → GoesOnToTell a c f h
    goes_on None None c gone told less more = told
    goes_on None (Some ys) c gone told less more = absurd cc
    goes_on (Some xs) None None rose told less more = rose_before f g h rose more
    goes_on (Some xs) None (Some zs) rose told less more = tt
    goes_on (Some xs) (Some ys) None gone rose less more = rose_later f g h less rose
    goes_on (Some xs) (Some ys) (Some zs) gone told less more = tt

stays : (a : Ahead) (f g : ℕ) → f ≤ g → Moves [] a a f g
stays None f g later = record { gives = tt; told = refl; later = later }
stays (Some xs) f g later = record { gives = refl; told = tt; later = later }

-- a message in front was lost
loses_one : (item : List ℕ) (a b : Ahead) (f g : ℕ) → Loses (Some item) a b → f ≤ g → Moves (item ∷ []) a b f g
loses_one item None b f g lost later = record { gives = tt; told = lost; later = later }
loses_one item (Some xs) None f g lost later = absurd lost
loses_one item (Some xs) (Some ys) f g lost later = record { gives = lost; told = tt; later = later }

loses_none : (a b : Ahead) (f g : ℕ) → Loses None a b → f ≤ g → Moves [] a b f g
loses_none None b f g lost later = record { gives = tt; told = lost; later = later }
loses_none (Some xs) None f g lost later = absurd lost
loses_none (Some xs) (Some ys) f g lost later = record { gives = lost; told = tt; later = later }

-- what is told no more
tells_none : (a b : Ahead) (f g : ℕ) → b ≡ None → Rose f g → Moves [] a b f g
tells_none a b f g gone rose = subst (λ c. Moves [] a c f g) (sym gone) (by a)
  where
    by : (a : Ahead) → Moves [] a None f g
    by None = record { gives = tt; told = refl; later = rose.0 }
    by (Some xs) = record { gives = tt; told = rose; later = rose.0 }

-- ---- long replies

-- what a message that is too long stands for
pub long_item : (bytes : List ℕ) (n : ℕ) → IsLongReply bytes n
    → (item : List ℕ) × (longest_message < length item) × (reply_in bytes ≡ Some item)
unfolding message_in
long_item bytes n (ToEnd, rest, good, (long, is)) = (rest, long, good_reply bytes ToEnd rest good)
long_item bytes n (Bytes size, rest, good, (long, is)) =
    let above : nat_lt longest_message size ≡ true = grind (arith, nat_tests) in (
      replicate size 0,
      omega (arith, long, length-replicate {A = ℕ} size 0),
      good_reply bytes (Bytes size) rest good ∙ rw above refl,
    )

if_some : {A : Type 0} (o : Option A) (P Q : A → Type 0) → ((x : A) → P x → Q x) → IfSome o P → IfSome o Q
if_some None P Q step holds = tt
if_some (Some x) P Q step holds = step x holds

long_found : (left : Option (List ℕ)) (n : ℕ) → longest_message < n → IfSome left (λ bytes. IsLongReply bytes n)
    → (item : List ℕ) × (longest_message < length item) × IfSome left (λ bytes. reply_in bytes ≡ Some item)
long_found None n above long = (replicate n 0, omega (arith, above, length-replicate {A = ℕ} n 0), tt)
long_found (Some bytes) n above long = long_item bytes n long

module _ {I O : Type 0} (seen : Ends I O) where
  abbrev Moved : List (List ℕ) → PortState I O → PortState I O → Type 0
  Moved items a b = Moves items (poll_ahead seen a) (poll_ahead seen b) (poll_faults a) (poll_faults b)

  -- ---- one poll

  -- a link of which no end failed
  loses : (item : Option (List ℕ)) (reply : Reply) (held : List ℕ) (a b : PortState I O) (p : PollsLink seen a b reply held)
      → b.polling.lost ≡ a.polling.lost → IfSome (seen.left p.link.input) (λ bytes. reply_in bytes ≡ item)
      → Loses item (poll_ahead seen a) (poll_ahead seen b)
  loses item reply held a b p same found =
      let polls : b.polling.polls ≡ option_map (λ n. n - 1) a.polling.polls = ap (λ q. q.polls) p.polling in
      subst (λ t. Loses item (poll_ahead seen a) (if t then None else option_and_then (ahead_at seen b.polling.polls) b.links)) (sym same)
      (subst (λ ps. Loses item (poll_ahead seen a) (if a.polling.lost then None else option_and_then (ahead_at seen ps) b.links)) (sym polls)
      (link_taken seen p.link.input p.link.output p.link.input_left p.link.output_left item a.polling.lost a.polling.polls a.links p.mid b.links
      p.allowed p.handed p.given p.exchanged.told found))

  -- the count after a link that was no fault
  no_fault : (reply : Reply) (held : List ℕ) (a b : PortState I O) → PollsLink seen a b reply held → b.polling.faults ≡ a.polling.faults
      → poll_faults a ≤ poll_faults b
  no_fault reply held a b p same = let later = p.faults in omega (arith, same, later)

  message_moves : (a b : PortState I O) (held : List ℕ) → PollsLink seen a b Message held → Moved (held ∷ []) a b
  message_moves a b held p =
      loses_one held (poll_ahead seen a) (poll_ahead seen b) (poll_faults a) (poll_faults b)
      (loses (Some held) Message held a b p (ap (λ q. q.lost) p.polling)
      (if_some (seen.left p.link.input) (λ bytes. IsReply bytes held) (λ bytes. reply_in bytes ≡ Some held) (λ bytes is. reply_is_found bytes held is) p.exchanged.reads.1))
      (no_fault Message held a b p (ap (λ q. q.faults) p.polling))

  long_moves : (a b : PortState I O) (n : ℕ) (held : List ℕ) → PollsLink seen a b (TooLong n) held
      → (item : List ℕ) × (longest_message < length item) × Moved (item ∷ []) a b
  long_moves a b n held p =
      let found = long_found (seen.left p.link.input) n p.exchanged.reads.0 p.exchanged.reads.1 in (
        found.0,
        found.1,
        loses_one found.0 (poll_ahead seen a) (poll_ahead seen b) (poll_faults a) (poll_faults b)
            (loses (Some found.0) (TooLong n) held a b p (ap (λ q. q.lost) p.polling) found.2)
            (no_fault (TooLong n) held a b p (ap (λ q. q.faults) p.polling)),
      )

  -- a fault of the port's own
  own_fault : (a b : PortState I O) → a.faults ≤ b.faults → b.polling.faults ≡ one_more a.polling.faults → Rose (poll_faults a) (poll_faults b)
  own_fault a b later is =
      subst (λ n. Rose (poll_faults a) (min (b.faults + n) last_count)) (sym is) (second_rose a.faults b.faults a.polling.faults later)

  -- the messages ahead stay where links and polls do
  same_ahead : (a b : PortState I O) → b.links ≡ a.links → b.polling ≡ a.polling → poll_ahead seen b ≡ poll_ahead seen a
  same_ahead a b links polling =
      ap (λ q. if q.lost then None else option_and_then (ahead_at seen q.polls) b.links) polling
      ∙ ap (λ ls. if a.polling.lost then None else option_and_then (ahead_at seen a.polling.polls) ls) links

  same_moves : (a b : PortState I O) → b.links ≡ a.links → b.polling ≡ a.polling → poll_faults a ≤ poll_faults b → Moved [] a b
  same_moves a b links polling later =
      subst (λ c. Moves [] (poll_ahead seen a) c (poll_faults a) (poll_faults b)) (sym (same_ahead a b links polling))
      (stays (poll_ahead seen a) (poll_faults a) (poll_faults b) later)

  fail_moves : (a b : PortState I O) → FailsPoll seen a b → Moved [] a b × Rose (poll_faults a) (poll_faults b)
  fail_moves a b (inl d) =
      let own : b.polling.faults ≡ a.polling.faults = ap (λ q. q.faults) d.polling in
      let rose : Rose (poll_faults a) (poll_faults b) =
      subst (λ n. Rose (poll_faults a) (min (b.faults + n) last_count)) (sym own) (first_rose a.faults b.faults a.polling.faults d.faults) in
      (same_moves a b d.links d.polling rose.0, rose)
  fail_moves a b (inr (inl (why, p))) =
      let rose = own_fault a b p.faults (ap (λ q. q.faults) p.polling) in (
        loses_none (poll_ahead seen a) (poll_ahead seen b) (poll_faults a) (poll_faults b)
            (loses None (Unfit why) [] a b p (ap (λ q. q.lost) p.polling)
            (if_some (seen.left p.link.input) (IsUnfit why) (λ bytes. reply_in bytes ≡ None) (λ bytes unfit. no_reply_found bytes unfit.0) p.exchanged.reads)) rose.0,
        rose,
      )
  fail_moves a b (inr (inr p)) =
      let rose = own_fault a b p.faults (ap (λ q. q.faults) p.polling) in
      let lost : b.polling.lost ≡ true = ap (λ q. q.lost) p.polling in (
        tells_none (poll_ahead seen a) (poll_ahead seen b) (poll_faults a) (poll_faults b)
            (ap (λ t. if t then None else option_and_then (ahead_at seen b.polling.polls) b.links) lost) rose,
        rose,
      )

  ends_move : (a b : PortState I O) → EndsPolls a b → Moved [] a b × IsDone (poll_ahead seen b)
  ends_move a b e =
      let links : b.links ≡ a.links = same e.over in
      let own : b.polling.faults ≡ a.polling.faults = ap (λ q. q.faults) e.polling in (
        same_moves a b links e.polling (let later = e.faults in omega (arith, own, later)),
        subst (λ (c : Ahead). IsDone c) (sym (same_ahead a b links e.polling)) (none e.over),
      )
    where
      same : ((has_polls a.polling.polls ≡ false) × (b.links ≡ a.links)) ⊎ HandsOut DoorEnd a.links b.links → b.links ≡ a.links
      same (inl closed) = closed.1
      same (inr ended) = ended.1

      none : ((has_polls a.polling.polls ≡ false) × (b.links ≡ a.links)) ⊎ HandsOut DoorEnd a.links b.links → IsDone (poll_ahead seen a)
      none (inl closed) = over_none seen a.polling.lost a.polling.polls a.links closed.0
      none (inr ended) = ended_none seen a.polling.lost a.polling.polls a.links b.links ended

  -- ---- polls, one after another

  fails_move : (n : ℕ) (a b : PortState I O) → FailPolls n seen a b → Moved [] a b
  unfolding FailPolls
  fails_move zero a b same =
      subst (λ c. Moved [] a c) (sym same) (stays (poll_ahead seen a) (poll_faults a) (poll_faults a) (omega arith))
  fails_move (suc n) a b (mid, earlier, last) =
      moves_then [] (poll_ahead seen a) (poll_ahead seen mid) (poll_ahead seen b) (poll_faults a) (poll_faults mid) (poll_faults b)
      (fails_move n a mid earlier) (fail_moves mid b last).0

  fails_rose : (n : ℕ) (a b : PortState I O) → 1 ≤ n → FailPolls n seen a b → Rose (poll_faults a) (poll_faults b)
  unfolding FailPolls
  fails_rose zero a b some same = absurd (omega (arith, some))
  fails_rose (suc n) a b some (mid, earlier, last) =
      rose_later (poll_faults a) (poll_faults mid) (poll_faults b) (fails_move n a mid earlier).later (fail_moves mid b last).1

  -- what a call answers of the messages ahead and of the count
  pub answers : (given : PortAnswer) (a b : PortState I O) (held : List ℕ) → 1 ≤ a.polling.tries → CallAnswers given seen a b held
      → Answers given (poll_ahead seen a) (poll_ahead seen b) held
      × GoesOnToTell (poll_ahead seen a) (poll_ahead seen b) (poll_faults a) (poll_faults b) × HasPortCause given (poll_faults a) (poll_faults b)
  answers answer.Message a b held some (n, few, mid, fails, p) =
      let moves =
      moves_then (held ∷ []) (poll_ahead seen a) (poll_ahead seen mid) (poll_ahead seen b) (poll_faults a) (poll_faults mid) (poll_faults b)
      (fails_move n a mid fails) (message_moves mid b held p) in
      ((p.exchanged.reads.0, moves.gives), moves.told, moves.later)
  answers (answer.TooLong k) a b held some (n, few, mid, fails, p) =
      let long = long_moves mid b k held p in
      let moves =
      moves_then (long.0 ∷ []) (poll_ahead seen a) (poll_ahead seen mid) (poll_ahead seen b) (poll_faults a) (poll_faults mid) (poll_faults b)
      (fails_move n a mid fails) long.2 in
      ((p.exchanged.reads.0, long.0, long.1, moves.gives), moves.told, moves.later)
  answers answer.End a b held some (n, few, mid, fails, e) =
      let ends = ends_move mid b e in
      let moves =
      moves_then [] (poll_ahead seen a) (poll_ahead seen mid) (poll_ahead seen b) (poll_faults a) (poll_faults mid) (poll_faults b)
      (fails_move n a mid fails) ends.0 in
      ((moves.gives, ends.1), moves.told, moves.later)
  answers answer.Failed a b held some fails =
      let moves = fails_move a.polling.tries a b fails in
      let rose = fails_rose a.polling.tries a b some fails in
      (tt, moves.told, (moves.later, rose))

  -- ---- the way of a call

  pub none_failed : (a : PortState I O) → FailPolls 0 seen a a
  unfolding FailPolls
  none_failed a = refl

  pub one_failed : (n : ℕ) (a mid b : PortState I O) → FailPolls n seen a mid → FailsPoll seen mid b → FailPolls (n + 1) seen a b
  unfolding FailPolls
  one_failed n a mid b earlier last =
      let more : suc n ≡ n + 1 = omega arith in subst (λ k. FailPolls k seen a b) more (mid, earlier, last)

  -- behind fewer polls that failed than there are tries
  pub comes_of : (given : PortAnswer) (n : ℕ) (a mid b : PortState I O) (held : List ℕ) → n < a.polling.tries → FailPolls n seen a mid
      → PollAnswers given seen mid b held → ¬ (given ≡ answer.Failed) → CallAnswers given seen a b held
  comes_of answer.Message n a mid b held few fails polls other = (n, few, mid, fails, polls)
  comes_of (answer.TooLong k) n a mid b held few fails polls other = (n, few, mid, fails, polls)
  comes_of answer.End n a mid b held few fails polls other = (n, few, mid, fails, polls)
  comes_of answer.Failed n a mid b held few fails polls other = absurd (other refl)
