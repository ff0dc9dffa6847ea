-- What is told of a check, as the lines of its timetables are put together.
use Rattle.std.proofs.Common.{◌≡◌, ◌∙◌, ℕ, ◌+◌, ◌≤◌, ◌<◌, refl, sym, ap, subst, List, [], ◌∷◌, ◌++◌, length, drop, Some, Result, Ok, Err, Vec}
use Rattle.std.specs.declared.alloc.Global.{Global}
use Rattle.std.specs.List.{slice_index_or}
use Rattle.std.proofs.lemmas.List.{append-nil, at_drop_more, drop_all}
use Rattle.std.proofs.lemmas.Option.{none-some, same_Some}
use Rattle.answer_defs.specs.Steps.{◌>>=◌}
use Rattle.text_defs.specs.Cleaned.{line_feed}
use Rattle.hub_replay_defs.specs.Output.{Output}
use Rattle.hub_outside.specs.Files.{file_at}
use Rattle.sched_types.specs.Timetable.{Timetable}
use Rattle.sched_load_defs.specs.declared.fault.LoadFault.{LoadFault}
use Rattle.hub_config_defs.specs.declared.conf.HubConf.{HubConf}
use Rattle.hub_config_defs.specs.declared.conf.ScheduleConf.{ScheduleConf}
use Rattle.hub_main_defs.specs.Checks.{check_output, check_lines, conf_in, counts_line, counts_lines, output_of_check, timetable_or_line, timetables}
use Rattle.hub_load.specs.Told.{IsAsTold, Stored, TellsFault, plan_told, refusal_line, with_front}
use Rattle.hub_load.specs.declared.fault.HubFault.{HubFault}
use Rattle.hub_load.specs.declared.fault.HubFault.TheVariants.{Refused, FileFault, NoMemory}
use Rattle.hub_load.proofs.Telling.{front_twice, told_behind, told_first}
use Rattle.hub_check.specs.Told.{Checks, line_for, lines_for}

-- ---- all lines

front_step : (old new : List ℕ) (told : Result (List ℕ) (List ℕ)) (more : Result (List ℕ) (List ℕ)) → with_front old told ≡ Ok new
    → with_front old (told >>= λ line. with_front line more) ≡ with_front new more
front_step old new (Ok line) more h = front_twice old line more ∙ ap (λ lines. with_front lines more) (same_ok (old ++ line) new h)
  where
    same_ok : (x y : List ℕ) → ◌≡◌ {A = Result (List ℕ) (List ℕ)} (Ok x) (Ok y) → x ≡ y
    same_ok x y e = cc
front_step old new (Err l) more h = absurd (err_ok l new h)
  where
    err_ok : (x y : List ℕ) → ◌≡◌ {A = Result (List ℕ) (List ℕ)} (Err x) (Ok y) → ⊥
    err_ok x y e = cc

-- a schedule, and those behind it
pub item_left : (all : List ScheduleConf) (k : ℕ) (s : ScheduleConf) → k < length all → s ≡ slice_index_or all k s → drop k all ≡ s ∷ drop (k + 1) all
item_left all k s lt is = at_drop_more (λ xs. xs) all k s lt ∙ ap (λ x. x ∷ drop (k + 1) all) (sym is)

-- what is told of all schedules is what is told of those that are left, behind the lines so far
abbrev pub Counts : Stored → List ScheduleConf → ℕ → List ℕ → Type 0
Counts files all k lines = lines_for files all ≡ with_front lines (lines_for files (drop k all))

pub counts_more : (files : Stored) (all : List ScheduleConf) (k : ℕ) (s : ScheduleConf) (lines new : List ℕ) → k < length all → s ≡ slice_index_or all k s → Counts files all k lines
    → with_front lines (line_for files s) ≡ Ok new → Counts files all (k + 1) new
unfolding lines_for
counts_more files all k s lines new lt is counts told =
    counts ∙ ap (λ ss. with_front lines (lines_for files ss)) (item_left all k s lt is) ∙ front_step lines new (line_for files s) (lines_for files (drop (k + 1) all)) told

pub counts_stop : (files : Stored) (all : List ScheduleConf) (k : ℕ) (s : ScheduleConf) (lines : List ℕ) (fault : HubFault) → k < length all → s ≡ slice_index_or all k s
    → Counts files all k lines → TellsFault (line_for files s) fault → TellsFault (lines_for files all) fault
unfolding lines_for
counts_stop files all k s lines fault lt is counts told =
    subst (λ r. TellsFault r fault) (sym (counts ∙ ap (λ ss. with_front lines (lines_for files ss)) (item_left all k s lt is)))
    (told_behind lines (lines_for files (s ∷ drop (k + 1) all)) fault (told_first (line_for files s) (λ one. with_front one (lines_for files (drop (k + 1) all))) fault told))

pub counts_end : (files : Stored) (all : List ScheduleConf) (k : ℕ) (lines : List ℕ) → length all ≤ k → Counts files all k lines → lines_for files all ≡ Ok lines
unfolding lines_for
counts_end files all k lines past counts = counts ∙ ap (λ ss. with_front lines (lines_for files ss)) (drop_all k all past) ∙ ap Ok (append-nil lines)

-- the lines of the timetables are those of the definition
bind_lines : (s : ScheduleConf) (more : List ScheduleConf) (first : Result Timetable (List ℕ)) (rest : Result (List Timetable) (List ℕ))
    → ((first >>= λ t. Ok (counts_line s.name t)) >>= λ line. with_front line (rest >>= λ ts. Ok (counts_lines more ts)))
    ≡ ((first >>= λ t. rest >>= λ ts. Ok (t ∷ ts)) >>= λ ts. Ok (counts_lines (s ∷ more) ts))
bind_lines s more (Ok t) (Ok ts) = refl
bind_lines s more (Ok t) (Err l) = refl
bind_lines s more (Err l) rest = refl

pub lines_are : (files : Stored) (ss : List ScheduleConf) → lines_for files ss ≡ (timetables files ss >>= λ ts. Ok (counts_lines ss ts))
unfolding lines_for timetables
lines_are files [] = refl
lines_are files (s ∷ more) =
    ap (λ r. line_for files s >>= λ line. with_front line r) (lines_are files more)
    ∙ bind_lines s more (plan_told files s) (timetables files more)

-- a line that was put behind others is that of a timetable that is there
pub line_there : (name : List ℕ) (told : Result Timetable LoadFault) (make : Timetable → List ℕ) (old new : List ℕ) → with_front old (timetable_or_line name told >>= λ t. Ok (make t)) ≡ Ok new
    → (t : Timetable) × (told ≡ Ok t)
line_there name (Ok t) make old new e = (t, refl)
line_there name (Err fault) make old new e = absurd (none _ new e)
  where
    none : (x y : List ℕ) → ◌≡◌ {A = Result (List ℕ) (List ℕ)} (Err x) (Ok y) → ⊥
    none x y e = cc

-- ---- the whole check

abbrev outcome_of : List ℕ → Output
outcome_of text = record { written = text; status = 3 }

-- a fault of the configuration is the check's
conf_stops : (told : Result HubConf (List ℕ)) (f : HubConf → Result (List ℕ) (List ℕ)) (line : List ℕ) → refusal_line told ≡ Some line
    → output_of_check (told >>= f) ≡ outcome_of line
conf_stops (Ok x) f line h = absurd (none-some line h)
conf_stops (Err l) f line h = ap outcome_of (same_Some (l ++ line_feed) line h)

lines_stop : (told : Result (List ℕ) (List ℕ)) (line : List ℕ) → refusal_line told ≡ Some line → output_of_check told ≡ outcome_of line
lines_stop (Ok x) line h = absurd (none-some line h)
lines_stop (Err l) line h = ap outcome_of (same_Some (l ++ line_feed) line h)

pub check_refused : (files : Stored) (path : List ℕ) (fault : HubFault) → TellsFault (conf_in (file_at files path)) fault → Checks (check_output files path) (Err fault)
unfolding check_output
check_refused files path (Refused line) h = conf_stops (conf_in (file_at files path)) (λ conf. timetables files conf.schedules >>= λ ts. Ok (counts_lines conf.schedules ts)) line.items h
check_refused files path FileFault h = tt
check_refused files path NoMemory h = tt

pub check_told : (files : Stored) (path : List ℕ) (conf : HubConf) (schedules : List ScheduleConf) (result : Result (Vec ℕ Global) HubFault) → conf_in (file_at files path) ≡ Ok conf → schedules ≡ conf.schedules
    → IsAsTold (λ lines. lines.items) (lines_for files schedules) result → Checks (check_output files path) result
unfolding check_output
check_told files path conf schedules result is same told =
    let whole : check_lines files path ≡ lines_for files schedules =
    ap (λ r. r >>= λ conf. timetables files conf.schedules >>= λ ts. Ok (counts_lines conf.schedules ts)) is ∙ sym (lines_are files conf.schedules) ∙ ap (lines_for files) (sym same) in
    subst (λ r. Checks (output_of_check r) result) (sym whole) (outcome (lines_for files schedules) result told)
  where
    outcome : (r : Result (List ℕ) (List ℕ)) (answer : Result (Vec ℕ Global) HubFault) → IsAsTold (λ lines. lines.items) r answer → Checks (output_of_check r) answer
    outcome r (Ok lines) h = ap output_of_check h
    outcome r (Err (Refused line)) h = lines_stop r line.items h
    outcome r (Err FileFault) h = tt
    outcome r (Err NoMemory) h = tt
