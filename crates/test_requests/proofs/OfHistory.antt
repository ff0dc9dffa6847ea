-- What a reader keeps of a hub's views is of the hub's history.
use Rattle.std.proofs.Common.{◌≡◌, ℕ, List, [], ◌∷◌, ◌++◌, Result, Ok, Err, sym, ap, subst}
use Rattle.rt_types.specs.declared.message.FeedMessage.{FeedMessage}
use Rattle.feed_defs.specs.declared.history.Entry.{Entry}
use Rattle.feed_defs.specs.History.{Refusal, judgement_of, last_stamp, outcome_of_judgement}
use Rattle.sched_types.specs.Schedules.{Schedules}
use Rattle.board_defs.specs.Views.{HubKept, StandsFor}
use Rattle.delta_defs.specs.Kept.{KeptView, view_of, views_with}
use Rattle.delta_defs.specs.OneHistory.{AreOfHistory}
use Rattle.delta_defs.proofs.OneHistory.{of_longer, of_history_with, view_of_history}
use Rattle.hub_state.specs.Replay.{Replayed, Offers}

-- a view more
pub kept_too : (h : List Entry) (shown view : HubKept) (kept put : List KeptView) → view ≡ shown → StandsFor h shown → put ≡ views_with (view_of view) kept → AreOfHistory shown.plans h kept → AreOfHistory shown.plans h put
kept_too h shown view kept put same stands is are =
    subst (AreOfHistory shown.plans h) (sym (subst (λ (v : HubKept). put ≡ views_with (view_of v) kept) same is))
    (of_history_with shown.plans h (view_of shown) kept (view_of_history h shown stands) are)

-- an accepted message more
grown : (feed : ℕ) (h later : List Entry) (count : ℕ) (judged : Result FeedMessage Refusal) → outcome_of_judgement feed h judged ≡ record { reply = Ok count; history = later } → (more : List Entry) × (h ++ more ≡ later)
grown feed h later count (Ok m) e = (record { feed = feed; message = m } ∷ [], ap (λ o. o.history) e)
grown feed h later count (Err refusal) e = absurd (cc (ap (λ o. o.reply) e))

pub of_offered : (feed : ℕ) (bytes : List ℕ) (old new : Replayed) (count : ℕ) (kept : List KeptView) → Offers feed bytes old new (Ok count) → new.shown.plans ≡ old.shown.plans → AreOfHistory old.shown.plans old.history kept → AreOfHistory new.shown.plans new.history kept
of_offered feed bytes old new count kept offered plans are =
    let longer = grown feed old.history new.history count (judgement_of (last_stamp feed old.history) bytes) offered in
    subst (λ (p : Schedules). AreOfHistory p new.history kept) (sym plans)
    (subst (λ (h : List Entry). AreOfHistory old.shown.plans h kept) longer.1 (of_longer old.shown.plans old.history longer.0 kept are))
