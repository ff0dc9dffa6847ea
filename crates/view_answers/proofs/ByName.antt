-- The answer to a question is that of the schedule of its name, if there is one.
use Rattle.std.proofs.Common.{◌≡◌, ◌<◌, ℕ, Bool, true, false, Option, Some, None, List, ◌++◌, length, get_or, slice_get, refl, sym, ap, subst, ◌∙◌}
use Rattle.std.specs.Prelude.{Result, Ok}
use Rattle.std.specs.Option.{option_map, option_and_then}
use Rattle.std.specs.declared.alloc.AllocError.{AllocError}
use Rattle.std.proofs.lemmas.Option.{slice_get-get_or}
use Rattle.feed_defs.specs.declared.history.Entry.{Entry}
use Rattle.sched_types.specs.declared.plans.NamedPlan.{NamedPlan}
use Rattle.sched_types.specs.Schedules.{Schedules}
use Rattle.board_defs.specs.declared.query.BoardQuery.{BoardQuery}
use Rattle.board_defs.specs.declared.row.Row.{Row}
use Rattle.board_defs.specs.Feed.{combined_feed}
use Rattle.board_defs.specs.Fold.{FeedFold, fold_of}
use Rattle.board_defs.specs.Rows.{rows}
use Rattle.board_defs.specs.Views.{HubKept, StandsFor, folds_of}
use Rattle.board_text_defs.specs.Answers.{Question, board_bytes, name_in, stop_name, schedule_number, board_answer, feed_answer, alerts_answer, unmatched_answer, alert_bytes, unmatched_bytes, answer_to}
use Rattle.board_text_defs.specs.Answers.Question.{FeedOf, BoardOf, AlertsOf, UnmatchedOf, StatusOf}
use Rattle.alert_defs.specs.declared.rows.AlertRow.{AlertRow}
use Rattle.alert_defs.specs.Alerts.{alerts}
use Rattle.view_answers.specs.Questions.{schedule_of, is_status}
use Rattle.view_answers.specs.Replies.{Appends, Replies, Answers, board_in, alerts_in, status_in, answer_in}

fed : (feed : ℕ → List ℕ) (number : Option ℕ) → option_map feed number ≡ option_and_then (λ plan. Some (feed plan)) number
fed feed None = refl
fed feed (Some plan) = refl

by_name : (s : Schedules) (folds : List FeedFold) (q : Question) → is_status q ≡ false → answer_to s folds q ≡ option_and_then (answer_in s folds q) (schedule_number s (schedule_of q))
unfolding feed_answer board_answer alerts_answer unmatched_answer
by_name s folds (FeedOf name) named = fed (λ plan. combined_feed s plan folds) (schedule_number s name)
by_name s folds (BoardOf asked) named = refl
by_name s folds (AlertsOf asked) named = refl
by_name s folds (UnmatchedOf name) named = fed (unmatched_bytes s folds) (schedule_number s name)
by_name s folds StatusOf named = cc

-- the status is always there
pub status_found : (s : Schedules) (folds : List FeedFold) (q : Question) (old new : List ℕ) (result : Result Bool AllocError) → is_status q ≡ true → Replies (Some (status_in s folds)) old new result → Answers s folds q old new result
status_found s folds (FeedOf name) old new result is given = cc
status_found s folds (BoardOf asked) old new result is given = cc
status_found s folds (AlertsOf asked) old new result is given = cc
status_found s folds (UnmatchedOf name) old new result is given = cc
status_found s folds StatusOf old new result is given = given

-- where there is such a schedule
pub found : (s schedules : Schedules) (folds : List FeedFold) (q : Question) (name old new : List ℕ) (plan : ℕ) (result : Result Bool AllocError) → is_status q ≡ false → schedules ≡ s → name ≡ schedule_of q
    → schedule_number schedules name ≡ Some plan → Replies (answer_in s folds q plan) old new result → Answers s folds q old new result
found s schedules folds q name old new plan result by whole named at given =
    let number : schedule_number s (schedule_of q) ≡ Some plan =
    sym (ap (λ x. schedule_number x name) whole ∙ ap (schedule_number s) named) ∙ at in
    let P : Option (List ℕ) → Type 0 = λ answered. Replies answered old new result in
    subst P (sym (by_name s folds q by ∙ ap (option_and_then (answer_in s folds q)) number)) given

-- and where there is none
pub missing : (s schedules : Schedules) (folds : List FeedFold) (q : Question) (name old : List ℕ) → is_status q ≡ false → schedules ≡ s → name ≡ schedule_of q → schedule_number schedules name ≡ None
    → Answers s folds q old old (Ok false)
missing s schedules folds q name old by whole named at =
    let number : schedule_number s (schedule_of q) ≡ None =
    sym (ap (λ x. schedule_number x name) whole ∙ ap (schedule_number s) named) ∙ at in
    (by_name s folds q by ∙ ap (option_and_then (answer_in s folds q)) number, refl)

-- the same of the history that the view stands for
pub stands : (kept : HubKept) (q : Question) (old new : List ℕ) (result : Result Bool AllocError) → Answers kept.plans (folds_of kept) q old new result
    → (h : List Entry) → StandsFor h kept → Answers kept.plans (fold_of (length kept.plans.feeds) h) q old new result
stands kept q old new result given h stood =
    let P : List FeedFold → Type 0 = λ folds. Answers kept.plans folds q old new result in
    subst P stood.feeds given

-- ---- one answer

pub appends : (old new bytes : List ℕ) → new ≡ old ++ bytes → Appends (Some bytes) old new
appends old new bytes is = record { bytes = bytes; are = refl; appended = is }

-- a list of alerts
pub alerts_append : (s : Schedules) (folds : List FeedFold) (query : BoardQuery) (json : Bool) (stop : List ℕ) (found slice : List AlertRow) (old new : List ℕ) → stop ≡ query.stop → alerts s folds query ≡ Some found → slice ≡ found
    → new ≡ old ++ alert_bytes s json stop slice → Appends (alerts_in s folds query json) old new
alerts_append s folds query json stop found slice old new its_stop are same appended = record {
  bytes = alert_bytes s json stop slice;
  are =
      ap (option_map (alert_bytes s json query.stop)) are
      ∙ sym (ap (λ x. Some (alert_bytes s json x slice)) its_stop ∙ ap (λ xs. Some (alert_bytes s json query.stop xs)) same);
  appended = appended;
}

-- a board that has its rows, with the name of its stop
pub board_appends : (s schedules : Schedules) (plans : List NamedPlan) (folds : List FeedFold) (query : BoardQuery) (json : Bool) (named : NamedPlan) (stop name : List ℕ) (found : List Row) (old new : List ℕ)
    → schedules ≡ s → plans ≡ schedules.plans → query.plan < length s.plans
    → stop ≡ query.stop → name ≡ name_in (Some (get_or plans query.plan named).plan) stop → rows s folds query ≡ Some found → new ≡ old ++ board_bytes json stop name found
    → Appends (board_in s folds query json) old new
board_appends s schedules plans folds query json named stop name found old new whole its_plans within its_stop its_name are appended =
    let here : slice_get s.plans query.plan ≡ Some (get_or plans query.plan named) =
    slice_get-get_or s.plans query.plan named within
    ∙ ap (λ xs. Some (get_or xs query.plan named)) (sym (its_plans ∙ ap (λ x. x.plans) whole)) in
    let same : name ≡ stop_name s query.plan query.stop =
    its_name ∙ ap (name_in (Some (get_or plans query.plan named).plan)) its_stop
    ∙ sym (ap (λ o. name_in (option_map (λ n. n.plan) o) query.stop) here) in
    record {
      bytes = board_bytes json stop name found;
      are =
          ap (option_map (board_bytes json query.stop (stop_name s query.plan query.stop))) are
          ∙ sym (ap (λ x. Some (board_bytes json x name found)) its_stop ∙ ap (λ x. Some (board_bytes json query.stop x found)) same);
      appended = appended;
    }
