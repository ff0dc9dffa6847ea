-- What serving a door does and answers.
use Rattle.std.specs.Prelude.{◌≡◌, ℕ, ◌≤◌, min, List, [], ◌++◌, length, map, Option, Some, None, IfSome}
use Rattle.std.specs.List.{sum_by}
use Rattle.hub_outside.specs.Count.{Rose, last_count}
use Rattle.hub_outside.specs.Doors.{Links}
use Rattle.http_serve.specs.declared.session.End.{End}
use Rattle.http_serve.specs.declared.session.End.TheVariants.{NoMemory}
use Rattle.http_door.specs.declared.report.DoorEnd.{DoorEnd}
use Rattle.http_door.specs.declared.report.DoorEnd.TheVariants.{Ended, Failed}
use Rattle.http_door.specs.declared.report.DoorReport.{DoorReport}
use Rattle.http_door.specs.Visits.{Ends, Hub, Visit, AreServed}

-- the links that were served, as they were handed out and as they were given back
abbrev pub taken : {I O : Type 0} → List (Visit I O) → List (I × O)
taken visits = map (λ v. (v.input, v.output)) visits

abbrev pub returned : {I O : Type 0} → List (Visit I O) → List (I × O)
returned visits = map (λ v. (v.input_left, v.output_left)) visits

-- the links that were served were the first ahead, in order, and stand behind those that were given
-- back before; as many are out as before
pub record LinksMoved {I O : Type 0} (old new : Links I O)
    (visits : List (Visit I O)) : Type 0 where
  pub ahead : old.ahead ≡ taken visits ++ new.ahead
  pub done : new.done ≡ old.done ++ returned visits
  pub out : new.out ≡ old.out

-- the same of a door that tells its links; one that tells none goes on to tell none
abbrev pub Moved : {I O : Type 0} → Option (Links I O) → Option (Links I O) → List (Visit I O)
    → Type 0
Moved None after visits = after ≡ None
Moved (Some old) None visits = ⊥
Moved (Some old) (Some new) visits = LinksMoved old new visits

-- a number that stops at the last value of 64 bits
abbrev pub capped : ℕ → ℕ
capped n = min n last_count

-- a session that ended for want of memory counts as one
abbrev pub starved_once : End → ℕ
starved_once NoMemory = 1
starved_once _ = 0

-- how many responses were written whole, and how many sessions ended for want of memory
abbrev pub responses_in : {I O : Type 0} → List (Visit I O) → ℕ
responses_in visits = sum_by (λ v. length v.numbers) visits

abbrev pub starved_in : {I O : Type 0} → List (Visit I O) → ℕ
starved_in visits = sum_by (λ v. starved_once v.end) visits

-- the numbers of a report are those of the links that were served
pub record Counts {I O : Type 0} (report : DoorReport) (visits : List (Visit I O)) : Type 0 where
  pub connections : report.connections ≡ capped (length visits)
  pub responses : report.responses ≡ capped (responses_in visits)
  pub starved : report.starved ≡ capped (starved_in visits)

-- a door that ended has no link ahead; one that failed raised its count of faults in this call
abbrev pub EndsSo : {I O : Type 0} → DoorEnd → Option (Links I O) → ℕ → ℕ → Type 0
EndsSo Ended links faults faults' = IfSome links (λ l. l.ahead ≡ []) × (faults ≤ faults')
EndsSo Failed links faults faults' = Rose faults faults'

-- Serving a door, from its links and a hub to those at the end: each link that it handed out was
-- served, one after another, and given back; the report counts them, and tells how the door ended.
pub record ServesDoor
    {I O : Type 0} (seen : Ends I O) (links links' : Option (Links I O)) (faults faults' : ℕ)
    (old new : Hub) (report : DoorReport) : Type 0 where
  pub visits : List (Visit I O)
  pub moved : Moved links links' visits
  pub served : AreServed seen old new visits
  pub counts : Counts report visits
  pub ends_so : EndsSo report.end links' faults faults'
