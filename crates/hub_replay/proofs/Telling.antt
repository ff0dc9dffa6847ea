-- What a question is answered.
use Rattle.std.proofs.Common.{ℕ, List, length, Result, Bool, arith}
use Rattle.std.specs.declared.alloc.AllocError.{AllocError}
use Rattle.board_defs.specs.Fold.{fold_of}
use Rattle.board_text_defs.specs.Answers.{Question}
use Rattle.hub_state.specs.Replay.{Replayed}
use Rattle.view_answers.specs.Replies.{Answers}
use Rattle.hub_replay.specs.Feeds.{shown_hub, Tells}

-- a hub that runs tells what its view answers, of the history that it stands for
pub tells : (kept : Replayed) (question : Question) (out out' : List ℕ) (r : Result Bool AllocError)
    → Answers kept.shown.plans (fold_of (length kept.shown.plans.feeds) kept.history) question out out' r → Tells r (shown_hub kept) (shown_hub kept) question out out'
tells kept question out out' r h = grind arith
