-- The line of a hub, by what it was looked at for.
use Rattle.std.proofs.Common.{◌≡◌, ◌∙◌, ℕ, ◌-◌, List, [], length, Result, Ok, IfOk, Vec, ap, subst}
use Rattle.std.specs.Prelude.{fold}
use Rattle.std.specs.declared.alloc.AllocError.{AllocError}
use Rattle.std.specs.declared.alloc.Global.{Global}
use Rattle.board_defs.specs.declared.row.Row.{Row}
use Rattle.board_defs.specs.Fold.{fold_of}
use Rattle.board_defs.specs.Views.{HubKept, StandsFor, folds_of, hub_first}
use Rattle.hub_state.specs.Replay.{Replayed}
use Rattle.hub_gen_defs.specs.Run.{board_rows, counts_line, history_after, history_with, line_after, sample_schedules}
use Rattle.hub_gen_defs.specs.Messages.{Offered}
use Rattle.sched_types.specs.Schedules.{Schedules}
use Rattle.sched_types.specs.Timetable.{Timetable}

pub line_is : (trips messages number accepted refused : ℕ) (rows all : List Row) (hub new : Replayed) (reads : ℕ) (view : HubKept) (made : Result (Vec ℕ Global) AllocError)
    → new ≡ record hub { reads = reads } → ◌≡◌ {A = Result ℕ AllocError} (Ok accepted) (Ok (length hub.history)) → refused ≡ number - accepted → number ≡ messages
    → rows ≡ all → all ≡ board_rows view.plans (folds_of view) → view ≡ new.shown → StandsFor new.history new.shown
    → IfOk made (λ line. line.items ≡ counts_line trips messages accepted refused rows)
    → IfOk made (λ line. line.items ≡ line_after trips messages hub.shown.plans hub.history)
line_is trips messages number accepted refused rows all hub new reads view made same answers less number_is rows_is all_is view_is stands is =
    let count : accepted ≡ length hub.history = cc in
    let rest : refused ≡ messages - length hub.history = less ∙ ap (λ n. n - accepted) number_is ∙ ap (λ n. messages - n) count in
    let shown : new.shown ≡ hub.shown = ap (λ r. r.shown) same in
    let P : Replayed → Type 0 = λ r. folds_of r.shown ≡ fold_of (length r.shown.plans.feeds) r.history in
    let folds : folds_of hub.shown ≡ fold_of (length hub.shown.plans.feeds) hub.history = subst P same stands.feeds in
    let boards : rows ≡ board_rows hub.shown.plans (fold_of (length hub.shown.plans.feeds) hub.history) =
    rows_is ∙ all_is ∙ ap (λ v. board_rows v.plans (folds_of v)) (view_is ∙ shown) ∙ ap (board_rows hub.shown.plans) folds in
    let whole : counts_line trips messages accepted refused rows ≡ line_after trips messages hub.shown.plans hub.history =
    ap (λ n. counts_line trips messages n refused rows) count ∙ ap (λ n. counts_line trips messages (length hub.history) n rows) rest
    ∙ ap (counts_line trips messages (length hub.history) (messages - length hub.history)) boards in
    subst (λ bytes. IfOk made (λ line. line.items ≡ bytes)) whole is

-- the line of a hub of the sample's timetable to which the messages were offered
pub line_on_is : (trips messages : ℕ) (plans : Schedules) (t : Timetable) (offers : List Offered) (hub new : Replayed) (made : Result (Vec ℕ Global) AllocError)
    → hub ≡ record { history = []; shown = hub_first plans; reads = 0 } → plans ≡ sample_schedules t → new.history ≡ fold history_with hub.history offers → new.shown.plans ≡ hub.shown.plans
    → IfOk made (λ line. line.items ≡ line_after trips messages new.shown.plans new.history)
    → IfOk made (λ line. line.items ≡ line_after trips messages (sample_schedules t) (history_after offers))
unfolding history_after
line_on_is trips messages plans t offers hub new made first plans_are history same is =
    let empty : hub.history ≡ [] = ap (λ r. r.history) first in
    let schedules : new.shown.plans ≡ sample_schedules t = same ∙ ap (λ r. r.shown.plans) first ∙ plans_are in
    let after : new.history ≡ fold history_with [] offers = history ∙ ap (λ h. fold history_with h offers) empty in
    let whole : line_after trips messages new.shown.plans new.history ≡ line_after trips messages (sample_schedules t) (fold history_with [] offers) =
    ap (λ s. line_after trips messages s new.history) schedules ∙ ap (λ h. line_after trips messages (sample_schedules t) h) after in
    subst (λ bytes. IfOk made (λ line. line.items ≡ bytes)) whole is
