-- What is written for the items of a connection.
use Rattle.std.specs.Prelude.{ℕ, ◌+◌, ◌==◌, List, [], ◌∷◌, ◌++◌, length, take}
use Rattle.feed_defs.specs.declared.history.Entry.{Entry}
use Rattle.sched_types.specs.Schedules.{Schedules}
use Rattle.board_defs.specs.Fold.{fold_of}
use Rattle.delta_defs.specs.Kept.{KeptView}
use Rattle.http_defs.specs.declared.request.Item.{Item}
use Rattle.http_defs.specs.Requests.{last_place}
use Rattle.http_serve_defs.specs.Answers.{answer}
use Rattle.http_serve_defs.specs.Connections.{kept_with}

-- the item that a response answers, its moment, and its number
pub record Reply : Type 0 where
  pub item : Item
  pub moment : ℕ
  pub number : ℕ

-- the items, the moments and the numbers of responses
abbrev pub items_of : List Reply → List Item
items_of [] = []
items_of (r ∷ rs) = r.item ∷ items_of rs

abbrev pub moments_of : List Reply → List ℕ
moments_of [] = []
moments_of (r ∷ rs) = r.moment ∷ moments_of rs

abbrev pub numbers_of : List Reply → List ℕ
numbers_of [] = []
numbers_of (r ∷ rs) = r.number ∷ numbers_of rs

-- the views that are kept with a look at so many messages of a history
abbrev pub kept_at : Schedules → List Entry → ℕ → List KeptView → List KeptView
kept_at plans history number kept =
    kept_with number (fold_of (length plans.feeds) (take number history)) kept

-- the same with looks one after another
abbrev pub kept_behind : Schedules → List Entry → List KeptView → List ℕ → List KeptView
kept_behind plans history kept [] = kept
kept_behind plans history kept (number ∷ numbers) =
    kept_behind plans history (kept_at plans history number kept) numbers

-- The bytes of a response at a place of its connection, counted from 1: it answers of the first
-- messages of the history, as many as its number says, and of the views that are kept with its
-- look, where these were kept before.
unfoldable pub reply_bytes : Schedules → List Entry → List KeptView → ℕ → Reply → List ℕ
reply_bytes plans history kept place r =
    answer plans r.item (place == last_place) r.moment r.number
    (fold_of (length plans.feeds) (take r.number history)) (kept_at plans history r.number kept)

-- the bytes of responses one after another, of which the first has this place
abbrev pub replies_bytes : Schedules → List Entry → List KeptView → ℕ → List Reply → List ℕ
replies_bytes plans history kept place [] = []
replies_bytes plans history kept place (r ∷ rs) =
    reply_bytes plans history kept place r
    ++ replies_bytes plans history (kept_at plans history r.number kept) (place + 1) rs

-- What was done for a response that was not written whole: the clock's readings and the looks for
-- it, the numbers of those looks whose views were kept, and the bytes of it that were written.
pub record Begun : Type 0 where
  pub readings : List ℕ
  pub looks : ℕ
  pub seen : List ℕ
  pub cut : List ℕ

-- no response was begun
abbrev pub none_begun : Begun
none_begun = record { readings = []; looks = 0; seen = []; cut = [] }
