-- The timetables that are loaded one after another are those of the definition.
use Rattle.std.proofs.Common.{◌≡◌, ◌∙◌, ℕ, true, refl, sym, ap, subst, List, [], ◌∷◌, ◌++◌, map, Result, Ok, Err}
use Rattle.std.specs.List.{list_all}
use Rattle.std.proofs.lemmas.Bool.{and_parts}
use Rattle.std.proofs.lemmas.List.{append-nil, append_assoc, map-append}
use Rattle.answer_defs.specs.Steps.{◌>>=◌}
use Rattle.hub_outside.specs.Files.{file_at}
use Rattle.sched_types.specs.declared.plans.NamedFeed.{NamedFeed}
use Rattle.sched_types.specs.declared.plans.NamedPlan.{NamedPlan}
use Rattle.sched_types.specs.Schedules.{Schedules}
use Rattle.sched_types.specs.Timetable.{Timetable}
use Rattle.hub_config_defs.specs.Right.{has_window}
use Rattle.hub_config_defs.specs.declared.conf.HubConf.{HubConf}
use Rattle.hub_config_defs.specs.declared.conf.ScheduleConf.{ScheduleConf}
use Rattle.hub_main_defs.specs.Checks.{conf_in, timetables}
use Rattle.hub_main_defs.specs.Hubs.{configured_at, named_feed, named_plans, schedules_at, schedules_of}
use Rattle.hub_load.specs.Told.{Stored, TellsFault, named_plan_told, named_plans_told, plan_told, schedules_told, with_front}
use Rattle.hub_load.proofs.Telling.{front_twice, told_behind, told_first}
use Rattle.hub_load.specs.declared.fault.HubFault.{HubFault}

-- ---- one timetable after another

-- What is told of all schedules is what is told of those that are left, behind the plans so far.
abbrev pub LoadsLeft : Stored → List ScheduleConf → List ScheduleConf → List NamedPlan → Type 0
LoadsLeft files all left plans = named_plans_told files all ≡ with_front plans (named_plans_told files left)

-- The schedules that are left have windows, and their names behind those of the plans so far are those of all.
pub record IsLeft (all left : List ScheduleConf) (plans : List NamedPlan) : Type 0 where
  pub windows : list_all has_window left ≡ true
  pub names : map (λ plan. plan.name) plans ++ map (λ s. s.name) left ≡ map (λ s. s.name) all

pub loads_more : (files : Stored) (all left more : List ScheduleConf) (s : ScheduleConf) (plans : List NamedPlan) (plan : NamedPlan) → left ≡ s ∷ more → LoadsLeft files all left plans
    → named_plan_told files s ≡ Ok plan → LoadsLeft files all more (plans ++ plan ∷ [])
unfolding named_plans_told
loads_more files all left more s plans plan first so_far told =
    so_far
    ∙ ap (λ ss. with_front plans (named_plans_told files ss)) first
    ∙ ap (λ r. with_front plans (r >>= λ p. with_front (p ∷ []) (named_plans_told files more))) told
    ∙ front_twice plans (plan ∷ []) (named_plans_told files more)

pub loads_stop : (files : Stored) (all left more : List ScheduleConf) (s : ScheduleConf) (plans : List NamedPlan) (fault : HubFault) → left ≡ s ∷ more → LoadsLeft files all left plans
    → TellsFault (named_plan_told files s) fault → TellsFault (named_plans_told files all) fault
unfolding named_plans_told
loads_stop files all left more s plans fault first so_far told =
    subst (λ r. TellsFault r fault) (sym (so_far ∙ ap (λ ss. with_front plans (named_plans_told files ss)) first))
    (told_behind plans (named_plans_told files (s ∷ more)) fault (told_first (named_plan_told files s) (λ p. with_front (p ∷ []) (named_plans_told files more)) fault told))

pub loads_end : (files : Stored) (all left : List ScheduleConf) (plans : List NamedPlan) → left ≡ [] → LoadsLeft files all left plans → named_plans_told files all ≡ Ok plans
unfolding named_plans_told
loads_end files all left plans none so_far = so_far ∙ ap (λ ss. with_front plans (named_plans_told files ss)) none ∙ ap Ok (append-nil plans)

pub left_more : (all left more : List ScheduleConf) (s : ScheduleConf) (plans : List NamedPlan) (plan : NamedPlan) → left ≡ s ∷ more → IsLeft all left plans → plan.name ≡ s.name → IsLeft all more (plans ++ plan ∷ [])
left_more all left more s plans plan first is named = record {
  windows = (and_parts (has_window s) (list_all has_window more) (subst (λ ss. list_all has_window ss ≡ true) first is.windows)).1;
  names =
      ap (λ names. names ++ map (λ s. s.name) more) (map-append (λ (p : NamedPlan). p.name) plans (plan ∷ []))
      ∙ append_assoc (map (λ p. p.name) plans) (plan.name ∷ []) (map (λ s. s.name) more)
      ∙ ap (λ name. map (λ p. p.name) plans ++ name ∷ map (λ s. s.name) more) named
      ∙ sym (ap (λ ss. map (λ p. p.name) plans ++ map (λ s. s.name) ss) first)
      ∙ is.names;
}

-- ---- the whole

bind_plans : (s : ScheduleConf) (more : List ScheduleConf) (first : Result Timetable (List ℕ)) (rest : Result (List Timetable) (List ℕ))
    → ((first >>= λ t. Ok (record { name = s.name; prefix = s.prefix; plan = t })) >>= λ plan. with_front (plan ∷ []) (rest >>= λ ts. Ok (named_plans more ts)))
    ≡ ((first >>= λ t. rest >>= λ ts. Ok (t ∷ ts)) >>= λ ts. Ok (named_plans (s ∷ more) ts))
bind_plans s more (Ok t) (Ok ts) = refl
bind_plans s more (Ok t) (Err l) = refl
bind_plans s more (Err l) rest = refl

plans_are : (files : Stored) (ss : List ScheduleConf) → named_plans_told files ss ≡ (timetables files ss >>= λ ts. Ok (named_plans ss ts))
unfolding named_plans_told timetables
plans_are files [] = refl
plans_are files (s ∷ more) =
    ap (λ r. named_plan_told files s >>= λ plan. with_front (plan ∷ []) r) (plans_are files more)
    ∙ bind_plans s more (plan_told files s) (timetables files more)

with_feeds : (conf : HubConf) (told : Result (List Timetable) (List ℕ))
    → (told >>= λ ts. Ok (schedules_of conf ts)) ≡ ((told >>= λ ts. Ok (named_plans conf.schedules ts)) >>= λ plans. Ok (record { plans = plans; feeds = map named_feed conf.feeds }))
with_feeds conf (Ok ts) = refl
with_feeds conf (Err l) = refl

-- those of a configuration are told one after another
schedules_are_told : (files : Stored) (conf : HubConf) → schedules_told files conf ≡ (timetables files conf.schedules >>= λ ts. Ok (schedules_of conf ts))
schedules_are_told files conf =
    ap (λ r. r >>= λ plans. Ok (record { plans = plans; feeds = map named_feed conf.feeds })) (plans_are files conf.schedules)
    ∙ sym (with_feeds conf (timetables files conf.schedules))

-- behind a configuration that is there its timetables are told, with its feeds
pub whole : (files : Stored) (path : List ℕ) (conf : HubConf) → conf_in (file_at files path) ≡ Ok conf → schedules_at files path ≡ schedules_told files conf
unfolding schedules_at
whole files path conf is =
    ap (λ r. r >>= λ c. timetables files c.schedules >>= λ ts. Ok (schedules_of c ts)) is ∙ sym (schedules_are_told files conf)

-- a configuration and what it describes
abbrev beside : HubConf → Schedules → HubConf × Schedules
beside conf plans = (conf, plans)

with_conf : (conf : HubConf) (told : Result (List Timetable) (List ℕ))
    → (told >>= λ ts. Ok (beside conf (schedules_of conf ts))) ≡ ((told >>= λ ts. Ok (schedules_of conf ts)) >>= λ plans. Ok (beside conf plans))
with_conf conf (Ok ts) = refl
with_conf conf (Err l) = refl

-- the same with the configuration beside it
configured_whole : (files : Stored) (path : List ℕ) (conf : HubConf) → conf_in (file_at files path) ≡ Ok conf
    → configured_at files path ≡ (schedules_told files conf >>= λ plans. Ok (beside conf plans))
unfolding configured_at
configured_whole files path conf is =
    ap (λ r. r >>= λ c. timetables files c.schedules >>= λ ts. Ok (beside c (schedules_of c ts))) is
    ∙ with_conf conf (timetables files conf.schedules)
    ∙ ap (λ r. r >>= λ plans. Ok (beside conf plans)) (sym (schedules_are_told files conf))

pub conf_refused : (files : Stored) (path : List ℕ) (fault : HubFault) → TellsFault (conf_in (file_at files path)) fault → TellsFault (schedules_at files path) fault
unfolding schedules_at
conf_refused files path fault h = told_first (conf_in (file_at files path)) (λ conf. timetables files conf.schedules >>= λ ts. Ok (schedules_of conf ts)) fault h

pub configured_refused : (files : Stored) (path : List ℕ) (fault : HubFault) → TellsFault (conf_in (file_at files path)) fault → TellsFault (configured_at files path) fault
unfolding configured_at
configured_refused files path fault h = told_first (conf_in (file_at files path)) (λ conf. timetables files conf.schedules >>= λ ts. Ok (beside conf (schedules_of conf ts))) fault h

-- a fault of the timetables of a configuration
pub plans_refused : (files : Stored) (conf : HubConf) (schedules : List ScheduleConf) (fault : HubFault) → schedules ≡ conf.schedules
    → TellsFault (named_plans_told files schedules) fault → TellsFault (schedules_told files conf) fault
plans_refused files conf schedules fault same h =
    told_first (named_plans_told files conf.schedules) (λ plans. Ok (record { plans = plans; feeds = map named_feed conf.feeds })) fault (subst (λ ss. TellsFault (named_plans_told files ss) fault) same h)

pub plans_told : (files : Stored) (conf : HubConf) (schedules : List ScheduleConf) (plans : List NamedPlan) (feeds : List NamedFeed) → schedules ≡ conf.schedules
    → named_plans_told files schedules ≡ Ok plans → feeds ≡ map named_feed conf.feeds → schedules_told files conf ≡ Ok (record { plans = plans; feeds = feeds })
plans_told files conf schedules plans feeds same told named =
    ap (λ r. r >>= λ ps. Ok (record { plans = ps; feeds = map named_feed conf.feeds })) (ap (named_plans_told files) (sym same) ∙ told)
    ∙ ap (λ fs. Ok (record { plans = plans; feeds = fs })) (sym named)

-- the same with the configuration beside it
pub configured_plans_refused : (files : Stored) (path : List ℕ) (conf copy : HubConf) (fault : HubFault) → conf_in (file_at files path) ≡ Ok conf → copy ≡ conf
    → TellsFault (schedules_told files copy) fault → TellsFault (configured_at files path) fault
configured_plans_refused files path conf copy fault is same h =
    subst (λ r. TellsFault r fault) (sym (configured_whole files path conf is))
    (told_first (schedules_told files conf) (λ plans. Ok (beside conf plans)) fault (subst (λ c. TellsFault (schedules_told files c) fault) same h))

pub configured_told : (files : Stored) (path : List ℕ) (conf copy : HubConf) (plans : Schedules) → conf_in (file_at files path) ≡ Ok conf → copy ≡ conf
    → schedules_told files copy ≡ Ok plans → configured_at files path ≡ Ok (beside conf plans)
configured_told files path conf copy plans is same told =
    configured_whole files path conf is
    ∙ ap (λ r. r >>= λ ps. Ok (beside conf ps)) (ap (schedules_told files) (sym same) ∙ told)

-- a refusal is the same without the configuration beside it
without_conf : (told : Result HubConf (List ℕ)) (files : Stored)
    → (told >>= λ conf. timetables files conf.schedules >>= λ ts. Ok (schedules_of conf ts))
    ≡ ((told >>= λ conf. timetables files conf.schedules >>= λ ts. Ok (beside conf (schedules_of conf ts))) >>= λ h. Ok h.1)
without_conf (Err l) files = refl
without_conf (Ok conf) files = each (timetables files conf.schedules)
  where
    each : (ts : Result (List Timetable) (List ℕ)) → (ts >>= λ t. Ok (schedules_of conf t)) ≡ ((ts >>= λ t. Ok (beside conf (schedules_of conf t))) >>= λ h. Ok h.1)
    each (Ok t) = refl
    each (Err l) = refl

pub refused_without : (files : Stored) (path : List ℕ) (fault : HubFault) → TellsFault (configured_at files path) fault → TellsFault (schedules_at files path) fault
unfolding schedules_at configured_at
refused_without files path fault h =
    subst (λ r. TellsFault r fault) (sym (without_conf (conf_in (file_at files path)) files)) (told_first (configured_at files path) (λ h. Ok h.1) fault h)
