-- What a contract sees of a hub that keeps its history, and what its calls answer.
use Rattle.std.specs.Prelude.{◌≡◌, ℕ, List, length, Result, Ok, Err}
use Rattle.answer_defs.specs.Defined.{IsCause}
use Rattle.feed_defs.specs.declared.history.Entry.{Entry}
use Rattle.feed_defs.specs.History.{IsLegal, WereRead, offer_outcome}
use Rattle.board_defs.specs.Views.{HubKept, StandsFor}
use Rattle.hub_core.specs.declared.refusal.Refusal.{Refusal}
use Rattle.hub_core.specs.Answers.{cause_of}

-- what it accepted, in order, the view that it shows, and how often it was looked at
pub record Replayed : Type 0 where
  pub history : List Entry
  pub shown : HubKept
  pub reads : ℕ

-- the history is a legal one of its feeds, each message of which was read, and the view stands for
-- it
pub record KeepsHistory (history : List Entry) (shown : HubKept) : Type 0 where
  pub legal : IsLegal (length shown.plans.feeds) history
  pub read : ∥ WereRead history ∥₁
  pub stands : StandsFor history shown

-- An offered message stands at the end of the history, whose new length is the answer, or it is
-- refused with its cause and the hub is as it was. Want of memory may come at any point.
abbrev pub Offers : ℕ → List ℕ → Replayed → Replayed → Result ℕ Refusal → Type 0
Offers feed bytes old new (Ok count) = offer_outcome feed bytes old.history
    ≡ record { reply = Ok count; history = new.history }
Offers feed bytes old new (Err refusal) = IsCause (offer_outcome feed bytes old.history).reply
    (cause_of refusal) × (new ≡ old)
