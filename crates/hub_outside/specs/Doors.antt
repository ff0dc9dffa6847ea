-- What the calls of a door answer and do.
use Rattle.std.specs.Prelude.{◌≡◌, ℕ, ◌+◌, ◌-◌, ◌≤◌, List, [], ◌∷◌, ◌++◌, drop, slice_get, Option, Some, IfSome}
use Rattle.std.specs.Option.{option_map}
use Rattle.hub_outside.specs.declared.doors.DoorAnswer.{DoorAnswer}
use Rattle.hub_outside.specs.declared.doors.DoorAnswer.TheVariants.{Link, End, Failed}
use Rattle.hub_outside.specs.Count.{Rose}

-- The links of a door, each the pair of its source and its sink: those that it has still to hand
-- out, those that were given back to it, and how many were handed out and not given back.
pub record Links (I O : Type 0) : Type 0 where
  pub ahead : List (I × O)
  pub done : List (I × O)
  pub out : ℕ

-- the links once the first of those ahead was handed out
abbrev pub handed_out : {I O : Type 0} → Links I O → Links I O
handed_out links = record {
  ahead = drop 1 links.ahead;
  done = links.done;
  out = links.out + 1;
}

-- the links once this one was given back, behind those that were before
abbrev pub given_back : {I O : Type 0} → Links I O → I → O → Links I O
given_back links input output = record {
  ahead = links.ahead;
  done = links.done ++ (input, output) ∷ [];
  out = links.out - 1;
}

-- What a door answered and did to its links: the link that it handed out was the first of those
-- ahead; at the end none was ahead; the end and a fault leave the links.
abbrev pub HandsOut : {I O : Type 0} → DoorAnswer I O → Option (Links I O) → Option (Links I O)
    → Type 0
HandsOut (Link input output) before after =
    IfSome before (λ links. slice_get links.ahead 0 ≡ Some (input, output))
    × (after ≡ option_map handed_out before)
HandsOut End before after = IfSome before (λ links. links.ahead ≡ []) × (after ≡ before)
HandsOut Failed before after = after ≡ before

-- a link may be given back where one was handed out that was not given back yet
abbrev pub MayGiveBack : {I O : Type 0} → Option (Links I O) → Type 0
MayGiveBack before = IfSome before (λ links. 1 ≤ links.out)

-- a link was given back
abbrev pub GivesBack : {I O : Type 0} → I → O → Option (Links I O) → Option (Links I O) → Type 0
GivesBack input output before after =
    after ≡ option_map (λ links. given_back links input output) before

-- the count of faults did not fall, and a door that failed raised it
abbrev pub HasDoorCause : {I O : Type 0} → DoorAnswer I O → ℕ → ℕ → Type 0
HasDoorCause (Link input output) before after = before ≤ after
HasDoorCause End before after = before ≤ after
HasDoorCause Failed before after = Rose before after
