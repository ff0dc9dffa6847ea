-- One update more, and the places behind the last one.
use Rattle.std.proofs.Common.{◌≡◌, ℕ, ◌+◌, ◌-◌, ◌≤◌, IfSome, Option, Some, None, List, [], ◌∷◌, ◌++◌, unwrap_or, pos, length, drop, replicate, slice_get, ℤ, sym, ap, ◌∙◌, append_assoc}
use Rattle.std.specs.List.{position_from}
use Rattle.rt_types.specs.declared.trip_update.StopUpdate.{StopUpdate}
use Rattle.sched_types.specs.declared.rows.Place.{Place}
use Rattle.rt_types.specs.declared.trip_update.TripUpdate.{TripUpdate}
use Rattle.sched_types.specs.declared.rows.Run.{Run}
use Rattle.sched_types.specs.Timetable.{Timetable, places_of}
use Rattle.delay_rule_defs.specs.declared.state.StopState.{StopState}
use Rattle.delay_rule_defs.specs.Delays.{fits, assigned_stop, relation_of, plain, state_by, states}
use Rattle.delay_rule.specs.Near.{IsNear, AddsNear}
use Rattle.delay_rule.specs.Pass.{told_by, state_here, turned, walked, StartsWith}
use Rattle.delay_rule.proofs.NearLaw.{adds_on}
use Rattle.delay_rule.proofs.PassLaw.{walked_states}

pub goes_nowhere : (t : Timetable) (places : List Place) (base : ℤ) (update : StopUpdate) (from : ℕ) (carry : Option ℤ) (old : List StopState) → None ≡ position_from (fits t update) from (drop from places)
    → (more : List StopUpdate) → old ++ walked t places base more from carry ≡ old ++ walked t places base (update ∷ more) from carry
unfolding walked
goes_nowhere t places base update from carry old found more =
    ap (λ o. old ++ turned t places base update (λ next delay. walked t places base more next delay) from carry o) found

pub goes_further : (t : Timetable) (places : List Place) (base : ℤ) (update : StopUpdate) (from : ℕ) (carry : Option ℤ) (old mid new : List StopState) (i : ℕ) (place : Place) (state : StopState) → Some i ≡ position_from (fits t update) from (drop from places)
    → slice_get places i ≡ Some place → mid ≡ old ++ replicate (i - from) (plain carry) → state ≡ state_by (relation_of update) (told_by base place update) (assigned_stop t update) carry → new ≡ mid ++ state ∷ []
    → (more : List StopUpdate) → new ++ walked t places base more (i + 1) state.departure ≡ old ++ walked t places base (update ∷ more) from carry
unfolding walked
goes_further t places base update from carry old mid new i place state found at passed told pushed more =
    let same : state ≡ state_here t base update carry (slice_get places i) = told ∙ sym (ap (state_here t base update carry) at) in
    ap (λ xs. xs ++ walked t places base more (i + 1) state.departure) pushed
    ∙ append_assoc mid (state ∷ []) (walked t places base more (i + 1) state.departure)
    ∙ ap (λ xs. xs ++ (state ∷ walked t places base more (i + 1) state.departure)) passed
    ∙ append_assoc old (replicate (i - from) (plain carry)) (state ∷ walked t places base more (i + 1) state.departure)
    ∙ ap (λ s. old ++ (replicate (i - from) (plain carry) ++ (s ∷ walked t places base more (i + 1) s.departure))) same
    ∙ ap (λ o. old ++ turned t places base update (λ next delay. walked t places base more next delay) from carry o) found

-- ---- how far the pass has come

pub record GoesOn (t : Timetable) (places : List Place) (base : ℤ) (updates : List StopUpdate) (delay : Option ℤ) (old new : List StopState) (left : List StopUpdate) (from : ℕ) (carry : Option ℤ) : Type 0 where
  pub within : from ≤ length places
  pub goes_on : new ++ walked t places base left from carry ≡ old ++ walked t places base updates 0 delay
  pub begins : StartsWith old new
  pub near : AddsNear old new
  pub carried : IfSome carry IsNear

pub ends : (t : Timetable) (run : Run) (update : TripUpdate) (places : List Place) (base : ℤ) (old new : List StopState) (left : List StopUpdate) (from : ℕ) (carry : Option ℤ) (all : List StopState)
    → GoesOn t places base update.stop_time_update update.delay old new left from carry → places ≡ places_of t run.trip → slice_get t.bases run.day ≡ Some base
    → left ≡ [] → all ≡ new ++ replicate (length places - from) (plain carry) → all ≡ old ++ states t run update
unfolding walked
ends t run update places base old new left from carry all g lists bases none added =
    added ∙ ap (λ us. new ++ walked t places base us from carry) (sym none) ∙ g.goes_on
    ∙ ap (λ xs. old ++ walked t xs base update.stop_time_update 0 update.delay) lists
    ∙ ap (λ b. old ++ walked t (places_of t run.trip) b update.stop_time_update 0 update.delay) (sym (ap (λ o. unwrap_or o (pos 0)) bases))
    ∙ ap (λ xs. old ++ xs) (walked_states t run update)

pub begins_on : (old mid new : List StopState) → StartsWith old mid → StartsWith mid new → StartsWith old new
begins_on old mid new a b = record { more = a.more ++ b.more; whole = b.whole ∙ ap (λ xs. xs ++ b.more) a.whole ∙ append_assoc old a.more b.more }

-- one update on
pub goes_by : (t : Timetable) (places : List Place) (base : ℤ) (updates : List StopUpdate) (delay : Option ℤ) (old mid new : List StopState) (left more : List StopUpdate) (update : StopUpdate) (from next : ℕ) (carry carried : Option ℤ)
    → GoesOn t places base updates delay old mid left from carry → left ≡ update ∷ more → next ≤ length places
    → new ++ walked t places base more next carried ≡ mid ++ walked t places base (update ∷ more) from carry
    → StartsWith mid new → AddsNear mid new → IfSome carried IsNear → GoesOn t places base updates delay old new more next carried
goes_by t places base updates delay old mid new left more update from next carry carried g e within goes begins near small = record {
  within = within;
  goes_on = goes ∙ ap (λ us. mid ++ walked t places base us from carry) (sym e) ∙ g.goes_on;
  begins = begins_on old mid new g.begins begins;
  near = adds_on old mid new g.near near;
  carried = small;
}
