-- A port that is asked for one message after another.
use Rattle.std.proofs.Common.{◌≡◌, ℕ, ◌+◌, ◌<◌, ◌≤◌, List, [], ◌++◌, length, Some, None, refl, sym, ◌∙◌, subst, arith, append-nil, append_assoc}
use Rattle.std.proofs.lemmas.List.{map-append, length-map}
use Rattle.std.proofs.lemmas.List.Elements.{All-nil}
use Rattle.feed_defs.specs.declared.history.Entry.{Entry}
use Rattle.hub_outside.specs.Count.{Rose}
use Rattle.feed_port.specs.Ports.{Ahead, Gives, GoesOnToTell, IsDone}
use Rattle.hub_shared.specs.declared.report.PortEnd.{PortEnd}
use Rattle.hub_shared.specs.declared.report.PortEnd.TheVariants.{Spent, NoMemory}
use Rattle.hub_shared.specs.declared.report.Tally.{Tally}
use Rattle.hub_shared.specs.Seats.{SeatSeen, Begins}
use Rattle.hub_shared.specs.Feeding.{Given, Sorts, StopsAs, AreFirst, AreAll, EndsAs, Ingests, Asks, newer_of, last_after, bytes_of, most_answers, tally_of, total}
use Rattle.hub_shared.proofs.Fronts.{begins_append}

-- what was handed in first, and then
pub gives_on : (a b c : Ahead) (vs ws : List (List ℕ)) (faults faults' : ℕ) → Gives a b vs → GoesOnToTell b c faults faults' → Gives b c ws → Gives a c (vs ++ ws)
gives_on a b c vs ws faults faults' g t h = grind (arith, append_assoc)

pub gives_none : (a : Ahead) → Gives a a []
gives_none a = grind arith

-- what was handed in was first, whatever an ask that failed left
pub are_first : (a b c : Ahead) (items : List (List ℕ)) (faults faults' : ℕ) → Gives a b items → GoesOnToTell b c faults faults' → AreFirst a c items
are_first a b c items faults faults' g t = grind arith

first_of : (a b : Ahead) (items : List (List ℕ)) → Gives a b items → AreFirst a b items
first_of a b items g = grind arith

-- where none is left, these were all
pub are_all : (a b c : Ahead) (items : List (List ℕ)) (faults faults' : ℕ) → Gives a b items → GoesOnToTell b c faults faults' → Gives b c [] → IsDone c → AreAll a c items
are_all a b c items faults faults' g t h d = grind (arith, append-nil)

pub begins_itself : (h : List Entry) → Begins h h
begins_itself h = subst (λ xs. Begins h xs) (append-nil h) (begins_append h [])

pub rose_since : (a b c : ℕ) → a ≤ b → Rose b c → Rose a c
rose_since a b c low rose = (omega (arith, low, rose.0), λ same. (omega (arith, same, low, rose.0)) ∙ rose.1 (omega (arith, same, low, rose.0)))

-- nothing was handed in yet
pub sorts_none : (seat : SeatSeen) → Sorts seat seat [] (tally_of 0 0 0 0)
unfolding newer_of last_after
sorts_none seat = grind (arith, append-nil, begins_itself, All-nil)

-- what was handed in so far
pub record OnWay (first now : SeatSeen) (before ahead : Ahead) (faults faults' : ℕ) (tally : Tally) : Type 0 where
  pub given : List Given
  pub front : Gives before ahead (bytes_of given)
  pub sorts : Sorts first now given tally
  pub fallen : faults ≤ faults'

pub starts : (seat : SeatSeen) (ahead : Ahead) (faults : ℕ) → OnWay seat seat ahead ahead faults faults (tally_of 0 0 0 0)
starts seat ahead faults = record { given = []; front = gives_none ahead; sorts = sorts_none seat; fallen = omega arith }

pub unasked : (seat : SeatSeen) (ahead : Ahead) (faults : ℕ) → Ingests seat seat ahead ahead faults faults (tally_of 0 0 0 0) NoMemory
unasked seat ahead faults = record { given = []; front = first_of ahead ahead [] (gives_none ahead); sorts = sorts_none seat; ends = refl; fallen = omega arith }

-- as many were handed in as there are in the tally
pub many_are : (first now : SeatSeen) (given : List Given) (tally : Tally) → Sorts first now given tally → length (bytes_of given) ≡ total tally
many_are first now given tally sorts = length-map given (λ one. one.bytes) ∙ sym sorts.all

module _ (first now new : SeatSeen) (before ahead after : Ahead) (faults faults' faults'' : ℕ) (tally tally' : Tally) (way : OnWay first now before ahead faults faults' tally) where
  -- one more
  pub goes : Asks now new ahead after faults' faults'' tally tally' None → OnWay first new before after faults faults'' tally'
  goes asks = grind (arith, map-append, gives_on)

  few_items : total tally < most_answers → length (bytes_of way.given) < most_answers
  few_items few = subst (λ (n : ℕ). n < most_answers) (sym (many_are first now way.given tally way.sorts)) few

  ends_as : (end : PortEnd) → total tally < most_answers → GoesOnToTell ahead after faults' faults'' → StopsAs end ahead after faults' faults'' → EndsAs end (bytes_of way.given) before after faults faults''
  ends_as end few told is = grind (arith, few_items, are_all, rose_since)

  -- no more
  pub stops : (end : PortEnd) → total tally < most_answers → Asks now new ahead after faults' faults'' tally tally' (Some end) → Ingests first new before after faults faults'' tally' end
  stops end few asks = grind (arith, are_first, ends_as)

-- as many as one call asks for
pub spent : (first now : SeatSeen) (before ahead : Ahead) (faults faults' : ℕ) (tally : Tally) → OnWay first now before ahead faults faults' tally → total tally ≡ most_answers → Ingests first now before ahead faults faults' tally Spent
spent first now before ahead faults faults' tally way all = record {
  given = way.given;
  front = first_of before ahead (bytes_of way.given) way.front;
  sorts = way.sorts;
  ends = many_are first now way.given tally way.sorts ∙ all;
  fallen = way.fallen;
}

-- the same of a tally and an end that are these
pub ingests_as : (old new : SeatSeen) (before after : Ahead) (faults faults' : ℕ) (tally t : Tally) (end e : PortEnd) → t ≡ tally → e ≡ end → Ingests old new before after faults faults' tally end → Ingests old new before after faults faults' t e
ingests_as old new before after faults faults' tally t end e same is ingests = grind arith
