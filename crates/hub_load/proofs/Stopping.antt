-- Where loading stops at a file that could not be read, from one step to the next.
use Rattle.std.proofs.Common.{◌≡◌, ℕ, inl, inr, refl, sym, subst, List, ◌∷◌, Option, Some, None, Result, Ok, Err, IsErrAnd}
use Rattle.std.specs.Option.{IfSome}
use Rattle.answer_defs.specs.Steps.{◌>>=◌}
use Rattle.hub_outside.specs.Files.{file_at}
use Rattle.sched_types.specs.Timetable.{Timetable}
use Rattle.sched_load_defs.specs.Stops.{StopsAt}
use Rattle.sched_load_defs.specs.declared.fault.LoadFault.{LoadFault}
use Rattle.hub_config_defs.specs.declared.conf.HubConf.{HubConf}
use Rattle.hub_config_defs.specs.declared.conf.ScheduleConf.{ScheduleConf}
use Rattle.hub_main_defs.specs.Checks.{conf_in, plan_conf, timetable_or_line}
use Rattle.hub_load.specs.Stops.{AtFileFault, IsThere, LoadingStopped, PlanStopped, PlansStopped, SchedulesStop, StopsWith}
use Rattle.hub_load.specs.Told.{Stored}
use Rattle.hub_load.specs.declared.fault.HubFault.{HubFault}
use Rattle.hub_load.specs.declared.fault.HubFault.TheVariants.{Refused, FileFault, NoMemory}

-- ---- what passes on

-- what `?` passes on
pub stops_passed : {B : Type 0} (r : Result B HubFault) (e : HubFault) (P : Type 0) → IsErrAnd r (λ x. x ≡ e) → AtFileFault e P → StopsWith r P
stops_passed (Ok x) e P h k = absurd h
stops_passed (Err y) e P h k = subst (λ f. AtFileFault f P) (sym h) k

-- what holds at a file that could not be read, by another thing that holds there
pub fault_by : (e : HubFault) (P Q : Type 0) → (P → Q) → AtFileFault e P → AtFileFault e Q
fault_by (Refused line) P Q f k = tt
fault_by FileFault P Q f k = f k
fault_by NoMemory P Q f k = tt

pub stops_by : {B : Type 0} (r : Result B HubFault) (P Q : Type 0) → (P → Q) → StopsWith r P → StopsWith r Q
stops_by (Ok x) P Q f k = tt
stops_by (Err e) P Q f k = fault_by e P Q f k

-- want of memory is no such fault
pub no_fault : (e : HubFault) (P : Type 0) → e ≡ NoMemory → AtFileFault e P
no_fault e P h = subst (λ f. AtFileFault f P) (sym h) tt

-- ---- one timetable after another

no_value : {B : Type 0} (line : List ℕ) (x : B) → ◌≡◌ {A = Result B (List ℕ)} (Err line) (Ok x) → ⊥
no_value line x e = cc

-- what is made of a timetable is there, so the timetable is
pub is_there : {B : Type 0} (name : List ℕ) (told : Result Timetable LoadFault) (make : Timetable → B) (x : B) → (timetable_or_line name told >>= λ t. Ok (make t)) ≡ Ok x → (t : Timetable) × (told ≡ Ok t)
is_there name (Ok t) make x e = (t, refl)
is_there name (Err fault) make x e = absurd (no_value _ x e)

-- where loading stops in those schedules that are left, it stops in all
pub record LeftStops (files : Stored) (all left : List ScheduleConf) : Type 0 where
  pub goes : (path : List ℕ) → SchedulesStop files left path → SchedulesStop files all path

pub left_there : (files : Stored) (all left more : List ScheduleConf) (s : ScheduleConf) → left ≡ s ∷ more → LeftStops files all left → IsThere files s → LeftStops files all more
unfolding SchedulesStop
left_there files all left more s first stops there = record {
  goes = λ path h. stops.goes path (subst (λ ss. SchedulesStop files ss path) (sym first) (inr (there, h)));
}

left_here : (files : Stored) (all left more : List ScheduleConf) (s : ScheduleConf) (path : List ℕ) → left ≡ s ∷ more → LeftStops files all left → StopsAt files s.folder (plan_conf s) path → SchedulesStop files all path
unfolding SchedulesStop
left_here files all left more s path first stops here = stops.goes path (subst (λ ss. SchedulesStop files ss path) (sym first) (inl here))

-- the first of those that are left stops
pub plans_stop : (contents behind : Option Stored) (place : Option (List ℕ)) (all left more : List ScheduleConf) (s : ScheduleConf) → behind ≡ contents → left ≡ s ∷ more
    → IfSome contents (λ fs. LeftStops fs all left) → PlanStopped behind place s → PlansStopped contents place all
plans_stop contents behind place all left more s same first stops here = each contents place stops (subst (λ o. PlanStopped o place s) same here)
  where
    each : (o : Option Stored) (p : Option (List ℕ)) → IfSome o (λ fs. LeftStops fs all left) → PlanStopped o p s → PlansStopped o p all
    each None p h k = tt
    each (Some fs) None h k = tt
    each (Some fs) (Some path) h k = left_here fs all left more s path first h k

-- ---- the configuration and its schedules

pub conf_stops : (contents : Option Stored) (place : Option (List ℕ)) (path : List ℕ) → IfSome place (λ p. p ≡ path) → LoadingStopped contents place path
conf_stops None place path h = tt
conf_stops (Some fs) None path h = tt
conf_stops (Some fs) (Some p) path h = inl h

pub behind_conf : (contents behind : Option Stored) (place : Option (List ℕ)) (path : List ℕ) (conf : HubConf) → behind ≡ contents
    → IfSome contents (λ fs. conf_in (file_at fs path) ≡ Ok conf) → PlansStopped behind place conf.schedules → LoadingStopped contents place path
behind_conf contents behind place path conf same is stops = each contents place is (subst (λ o. PlansStopped o place conf.schedules) same stops)
  where
    each : (o : Option Stored) (p : Option (List ℕ)) → IfSome o (λ fs. conf_in (file_at fs path) ≡ Ok conf) → PlansStopped o p conf.schedules → LoadingStopped o p path
    each None p h k = tt
    each (Some fs) None h k = tt
    each (Some fs) (Some q) h k = inr (conf, h, k)
