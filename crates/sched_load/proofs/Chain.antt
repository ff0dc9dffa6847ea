-- Steps that may fail, one after another.
use Rattle.std.proofs.Common.{◌≡◌, ℕ, ◌≤◌, List, refl, ap, arith}
use Rattle.std.specs.Prelude.{Option, IfSome, Result, Ok, Err, IsErrAnd}
use Rattle.answer_defs.specs.Steps.{◌>>=◌}
use Rattle.gtfs_rows.specs.declared.fault.RowFault.TheVariants as rows
use Rattle.hub_outside.specs.Count.{Rose}
use Rattle.sched_load_defs.specs.declared.fault.LoadFault.{LoadFault}
use Rattle.sched_load_defs.specs.declared.fault.LoadFault.TheVariants as fault
use Rattle.sched_load_defs.specs.declared.conf.PlanConf.{PlanConf}
use Rattle.sched_load_defs.specs.Loading.{dataset_in, timetable, timetable_where, with_times, zone_of}
use Rattle.sched_load_defs.specs.Numbers.{Dataset}
use Rattle.service_day.specs.Zone.{TzText}
use Rattle.sched_types.specs.Timetable.{Timetable}
use Rattle.sched_load.specs.Built.{IsBuilt, plan_told}
use Rattle.sched_load.specs.declared.tables.DayTables.{DayTables}
use Rattle.sched_load.specs.declared.tables.Tables.{Tables}
use Rattle.sched_load.specs.Stages.{DayRows, day_rows_in}
use Rattle.std.specs.Prelude.{Vec}
use Rattle.std.specs.declared.alloc.Global.{Global}
use Rattle.gtfs_rows.specs.declared.rows.StopRow.{StopRow}
use Rattle.gtfs_rows.specs.declared.rows.TripRow.{TripRow}
use Rattle.gtfs_rows.specs.declared.rows.StopTimeRow.{StopTimeRow}
use Rattle.sched_load.specs.declared.visits.Visit.{Visit}
use Rattle.sched_load.specs.Arranged.{ReadsArranged}
use Rattle.sched_load.specs.Tables.{ReadsTables}
use Rattle.sched_load.specs.Answer.{AnswersFromFiles, items_in, Refuses, HasFaultCause, IsPlain}
use Rattle.row_tables.specs.Alone.{RefusesAlone}

-- what is at fault in a step is at fault in the whole
refuses_whole : {A B : Type 0} (one : Result A LoadFault) (whole : Result B LoadFault) (e : LoadFault) → ((f : LoadFault) → one ≡ Err f → whole ≡ Err f) → Refuses one e → Refuses whole e
refuses_whole one whole e same x = grind arith

-- a fault that is told is one
refuses_told : {A : Type 0} (told : Result A LoadFault) (e : LoadFault) → RefusesAlone told e → Refuses told e
refuses_told told e x = grind arith

plain_told : {A : Type 0} (told : Result A LoadFault) (e : LoadFault) → RefusesAlone told e → IsPlain e
plain_told told e x = grind arith

cause_told : {A : Type 0} (told : Result A LoadFault) (e : LoadFault) (before after : ℕ) → RefusesAlone told e → HasFaultCause e before after
cause_told told e before after x = grind arith

rose : (before mid after : ℕ) → before ≤ mid → Rose mid after → Rose before after
rose before mid after h x = omega (arith, h, x)

-- a cause that came later is one from the start
cause_later : (e : LoadFault) (before mid after : ℕ) → before ≤ mid → HasFaultCause e mid after → HasFaultCause e before after
cause_later e before mid after h x = grind (arith, rose)

bind_fails : {A B : Type 0} (told : Result A LoadFault) (next : A → Result B LoadFault) (f : LoadFault) → told ≡ Err f → (told >>= next) ≡ Err f
bind_fails told next f e = ap (λ r. r >>= next) e

module _ {A B : Type 0} (contents : Option (List (List ℕ × List ℕ))) (told : List (List ℕ × List ℕ) → Result A LoadFault) (next : List (List ℕ × List ℕ) → A → Result B LoadFault) where
  -- a step that fails
  pub step_fails : (before after : ℕ) (e : LoadFault) → AnswersFromFiles contents told before after (Err e) → AnswersFromFiles contents (λ fs. told fs >>= next fs) before after (Err e)
  step_fails before after e r = grind (arith, bind_fails, refuses_whole)

  -- a step that is done, and what follows
  pub step_done : (behind : Option (List (List ℕ × List ℕ))) (before mid after : ℕ) (x : A) (answer : Result B LoadFault) → behind ≡ contents → AnswersFromFiles contents told before mid (Ok x) → AnswersFromFiles behind (λ fs. next fs x) mid after answer → AnswersFromFiles contents (λ fs. told fs >>= next fs) before after answer
  step_done behind before mid after x answer same first second = grind (arith, cause_later)

if_some : {X : Type 0} (o : Option X) (P : Type 0) → P → IfSome o (λ _. P)
if_some o P p = grind arith

-- a step that reads no file
pub step_alone : {A : Type 0} (contents : Option (List (List ℕ × List ℕ))) (told : Result A LoadFault) (count : ℕ) (e : LoadFault) → RefusesAlone told e → AnswersFromFiles contents (λ _. told) count count (Err e)
step_alone contents told count e h = record { loads = if_some contents _ (refuses_told told e h); cause = (omega arith, cause_told told e count count h); plain = plain_told told e h }

pub step_value : {A : Type 0} (contents : Option (List (List ℕ × List ℕ))) (told : Result A LoadFault) (count : ℕ) (x : A) → told ≡ Ok x → AnswersFromFiles contents (λ _. told) count count (Ok x)
step_value contents told count x h = record { loads = if_some contents _ h; cause = omega arith; plain = tt }

-- the same told in other words
pub told_same : {A : Type 0} (contents : Option (List (List ℕ × List ℕ))) (told other : List (List ℕ × List ℕ) → Result A LoadFault) (before after : ℕ) (answer : Result A LoadFault) → ((fs : List (List ℕ × List ℕ)) → told fs ≡ other fs) → AnswersFromFiles contents told before after answer → AnswersFromFiles contents other before after answer
told_same contents told other before after answer same r = grind arith

-- want of memory
pub no_memory : {A : Type 0} (contents : Option (List (List ℕ × List ℕ))) (told : List (List ℕ × List ℕ) → Result A LoadFault) (count : ℕ) → AnswersFromFiles contents told count count (Err fault.NoMemory)
no_memory contents told count = grind arith

-- the fault that a `?` passes on
pub passed : {A : Type 0} (contents : Option (List (List ℕ × List ℕ))) (told : List (List ℕ × List ℕ) → Result A LoadFault) (before after : ℕ) (r : Result A LoadFault) (e : LoadFault) → IsErrAnd r (λ x. x ≡ e) → AnswersFromFiles contents told before after (Err e) → AnswersFromFiles contents told before after r
passed contents told before after r e p h = grind arith

-- the same of rows that are read
pub rows_passed : {R : Type 0} (contents : Option (List (List ℕ × List ℕ))) (told : List (List ℕ × List ℕ) → Result (List R) LoadFault) (before after : ℕ) (r : Result (Vec R Global) LoadFault) (e : LoadFault) → IsErrAnd r (λ x. x ≡ e) → AnswersFromFiles contents told before after (Err e) → AnswersFromFiles contents told before after (items_in r)
rows_passed contents told before after r e p h = grind arith

-- the same of the tables that are read
pub tables_passed : (contents : Option (List (List ℕ × List ℕ))) (told : List (List ℕ × List ℕ) → Result Dataset LoadFault) (before after : ℕ) (r : Result Tables LoadFault) (e : LoadFault) → IsErrAnd r (λ x. x ≡ e) → AnswersFromFiles contents told before after (Err e) → ReadsTables contents told before after r
tables_passed contents told before after r e p h = grind arith

-- the same of the rows of days
pub days_passed : (contents : Option (List (List ℕ × List ℕ))) (told : List (List ℕ × List ℕ) → Result DayRows LoadFault) (before after : ℕ) (r : Result DayTables LoadFault) (e : LoadFault) → IsErrAnd r (λ x. x ≡ e) → AnswersFromFiles contents told before after (Err e) → AnswersFromFiles contents told before after (day_rows_in r)
days_passed contents told before after r e p h = grind arith

-- the same of visits that are arranged
pub visits_passed : (trips : List TripRow) (stops : List StopRow) (contents : Option (List (List ℕ × List ℕ))) (told : List (List ℕ × List ℕ) → Result (List StopTimeRow) LoadFault) (before after : ℕ) (r : Result (Vec Visit Global) LoadFault) (e : LoadFault) → IsErrAnd r (λ x. x ≡ e) → AnswersFromFiles contents told before after (Err e) → ReadsArranged trips stops contents told before after r
visits_passed trips stops contents told before after r e p h = grind arith

-- a plan that was built, the fault that is told, or out of memory
pub built : (contents : Option (List (List ℕ × List ℕ))) (told : Result Timetable LoadFault) (count : ℕ) (r : Result Timetable LoadFault) → IsBuilt told r → AnswersFromFiles contents (λ _. told) count count r
built contents told count r h = grind (arith, no_memory, step_alone, step_value)

-- the timetable, step by step
pub timetable_is : (folder : List ℕ) (conf : PlanConf) (fs : List (List ℕ × List ℕ)) → (zone_of conf.zone >>= (λ rule. dataset_in fs folder >>= (λ rows. with_times rows >>= plan_told rule conf.first conf.days))) ≡ timetable fs folder conf
unfolding timetable timetable_where dataset_in
timetable_is folder conf fs = refl

-- the timetable is loaded where each step is done
pub loaded : (folder : List ℕ) (conf : PlanConf) (contents behind : Option (List (List ℕ × List ℕ)))
    (before after : ℕ) (rule : TzText) (d : Dataset) (r : Result Timetable LoadFault)
    → behind ≡ contents → zone_of conf.zone ≡ Ok rule
    → AnswersFromFiles contents (λ fs. dataset_in fs folder) before after (Ok d)
    → with_times d ≡ Ok d → IsBuilt (plan_told rule conf.first conf.days d) r
    → AnswersFromFiles contents (λ fs. timetable fs folder conf) before after r
loaded folder conf contents behind before after rule d r same zone reads times is =
    told_same _ _ _ _ _ _ (timetable_is folder conf)
    (step_done _ _ _ _ _ _ _ _ _ refl (step_value _ _ before _ zone)
    (step_done _ _ _ _ _ _ _ _ _ same reads
    (step_done _ _ _ behind _ _ _ _ _ refl (step_value _ _ after _ times)
    (built _ _ _ r is))))
