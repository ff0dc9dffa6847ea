-- What is told of a sample, by its timetable.
use Rattle.std.proofs.Common.{◌≡◌, ◌∙◌, ℕ, List, Some, Result, Ok, Err, sym, ap, subst}
use Rattle.answer_defs.specs.Steps.{◌>>=◌}
use Rattle.sched_types.specs.Timetable.{Timetable}
use Rattle.sched_load_defs.specs.Loading.{timetable}
use Rattle.hub_main_defs.specs.Checks.{timetable_or_line}
use Rattle.hub_main_defs.specs.Samples.{sample_lines}
use Rattle.hub_load.specs.Told.{TellsFault, refusal_line}
use Rattle.hub_load.specs.declared.fault.HubFault.{HubFault}
use Rattle.hub_load.specs.declared.fault.HubFault.TheVariants.{Refused, FileFault, NoMemory}
use Rattle.hub_gen_defs.specs.Network.{sample_files, sample_name}
use Rattle.hub_gen_defs.specs.Messages.{Offered, offers_of}
use Rattle.hub_gen_defs.specs.Run.{history_after, line_after, sample_conf, sample_line, sample_schedules}

-- the timetable of files, or the line of its fault
abbrev pub loaded : List (List ℕ × List ℕ) → Result Timetable (List ℕ)
loaded files = timetable_or_line sample_name (timetable files sample_name sample_conf)

-- the line of the timetable
pub told_line : (seed trips messages : ℕ) (files : List (List ℕ × List ℕ)) (offers : List Offered) (t : Timetable) (line : List ℕ) → files ≡ sample_files trips → offers ≡ offers_of seed trips messages
    → loaded files ≡ Ok t → line ≡ line_after trips messages (sample_schedules t) (history_after offers) → sample_lines seed trips messages ≡ Ok line
unfolding sample_lines sample_line
told_line seed trips messages files offers t line files_are offers_are told is =
    let here : loaded (sample_files trips) ≡ Ok t = subst (λ fs. loaded fs ≡ Ok t) files_are told in
    let same : line ≡ sample_line seed trips messages t = is ∙ ap (λ os. line_after trips messages (sample_schedules t) (history_after os)) offers_are in
    ap (λ r. r >>= λ found. Ok (sample_line seed trips messages found)) here ∙ ap Ok (sym same)

-- a refusal goes through a step that follows
refused_through : (r : Result Timetable (List ℕ)) (next : Timetable → Result (List ℕ) (List ℕ)) (line : List ℕ) → refusal_line r ≡ Some line → refusal_line (r >>= next) ≡ Some line
refused_through (Ok t) next line h = cc
refused_through (Err words) next line h = h

-- and the line of its fault
pub told_fault : (seed trips messages : ℕ) (files : List (List ℕ × List ℕ)) (fault : HubFault) → files ≡ sample_files trips → TellsFault (loaded files) fault → TellsFault (sample_lines seed trips messages) fault
unfolding sample_lines
told_fault seed trips messages files (Refused line) are told =
    refused_through (loaded (sample_files trips)) (λ found. Ok (sample_line seed trips messages found)) line.items (subst (λ fs. refusal_line (loaded fs) ≡ Some line.items) are told)
told_fault seed trips messages files FileFault are told = tt
told_fault seed trips messages files NoMemory are told = tt
