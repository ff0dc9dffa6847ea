-- What a look at the newest view of a hub does.
use Rattle.std.specs.Prelude.{◌≡◌, ℕ, ◌+◌, ◌≤◌, Bool, true, List, ◌++◌, length, Result, Ok, Err}
use Rattle.std.specs.declared.alloc.AllocError.{AllocError}
use Rattle.feed_defs.specs.declared.history.Entry.{Entry}
use Rattle.board_defs.specs.Views.{HubKept, StandsFor}

-- a history that begins with another
pub record GoesOn (old new : List Entry) : Type 0 where
  pub more : List Entry
  pub is : new ≡ old ++ more

-- It answers how many messages there are, and the view that is shown then stands for them; or it
-- leaves that view.
abbrev pub Found : List Entry → HubKept → HubKept → ℕ → ℕ → Result ℕ AllocError → Type 0
Found history old new before after (Ok count) =
    (count ≡ length history) × StandsFor history new × (after ≡ before + 1)
Found history old new before after (Err none) =
    (new ≡ old) × (before ≤ after) × (after ≤ before + 1)

-- In either case the history begins with what it was, and stays where it is said to stand still.
pub record Looked (history next : List Entry) (old new : HubKept) (before after : ℕ) (steady : Bool)
    (result : Result ℕ AllocError) : Type 0 where
  pub goes_on : GoesOn history next
  pub stays : steady ≡ true → next ≡ history
  pub found : Found next old new before after result
