-- What a view answers of which no feed has said anything.
use Rattle.std.proofs.Common.{◌≡◌, ℕ, List, [], length, Some, None, Ok, Bool, true, false, sym, ap, ◌∙◌, arith}
use Rattle.feed_defs.specs.declared.history.Entry.{Entry}
use Rattle.sched_types.specs.Schedules.{Schedules}
use Rattle.board_defs.specs.Fold.{fold_of}
use Rattle.board_defs.specs.Views.{HubKept, StandsFor, hub_first}
use Rattle.board_defs.proofs.ViewLaws.{stands_first}
use Rattle.board_text_defs.specs.Answers.{Question, answer_to}
use Rattle.view_answers.specs.Replies.{Answers, Replies}

-- what the view answers of each history that it stands for, in an empty buffer
abbrev pub AnswersEach : HubKept → Question → List ℕ → List ℕ → Bool → Type 0
AnswersEach view question old new is_there =
    (h : List Entry) → StandsFor h view → Answers view.plans (fold_of (length view.plans.feeds) h) question old new (Ok is_there)

told : (plans : Schedules) (view : HubKept) (question : Question) (old new : List ℕ) (is_there wanted : Bool) → view ≡ hub_first plans → old ≡ [] → is_there ≡ wanted
    → AnswersEach view question old new is_there → Replies (answer_to plans (fold_of (length plans.feeds) []) question) [] new (Ok wanted)
told plans view question old new is_there wanted first empty test each = grind (arith, stands_first)

pub first_there : (plans : Schedules) (view : HubKept) (question : Question) (old new : List ℕ) (is_there : Bool) → view ≡ hub_first plans → old ≡ [] → is_there ≡ true
    → AnswersEach view question old new is_there → Some new ≡ answer_to plans (fold_of (length plans.feeds) []) question
first_there plans view question old new is_there first empty test each =
    let r = told plans view question old new is_there true first empty test each in ap Some r.appended ∙ sym r.are

pub first_absent : (plans : Schedules) (view : HubKept) (question : Question) (old new : List ℕ) (is_there : Bool) → view ≡ hub_first plans → old ≡ [] → is_there ≡ false
    → AnswersEach view question old new is_there → None ≡ answer_to plans (fold_of (length plans.feeds) []) question
first_absent plans view question old new is_there first empty test each =
    let r = told plans view question old new is_there false first empty test each in sym r.0
