-- What one turn of a connection does: an item is taken, and answered.
use Rattle.std.specs.Prelude.{◌≡◌, ◌≢◌, ℕ, ◌+◌, ◌≤◌, ◌<◌, if◌then◌else◌, true, false, List, [], ◌∷◌, ◌++◌, length, take, Option, Result, Ok, Err}
use Rattle.std.specs.Io.KnownBytes.{Appends, Consumes, IsAtEnd}
use Rattle.hub_outside.specs.Count.{Rose}
use Rattle.http_defs.specs.declared.request.Request.{Request}
use Rattle.http_defs.specs.declared.request.Item.{Item}
use Rattle.http_defs.specs.declared.request.Item.TheVariants.{Asked, Malformed}
use Rattle.http_defs.specs.Requests.{NoHead, Begins, is_last}
use Rattle.http_req.specs.Reading.{known}
use Rattle.http_serve.specs.declared.session.End.{End}
use Rattle.http_serve.specs.declared.session.End.TheVariants.{Ended, Closed, Bad, ReadFault, WriteFault, NoMemory}
use Rattle.http_serve.specs.declared.replying.Unwritten.{Unwritten}
use Rattle.http_serve.specs.declared.replying.Unwritten.TheVariants.{Cut, Starved}
use Rattle.http_serve.specs.declared.serving.Turn.{Turn}
use Rattle.http_serve.specs.declared.serving.Turn.TheVariants.{GoesOn, Ends}
use Rattle.http_serve.specs.Setting.{Setting, HubGoesOn, Readings, NeverFall}
use Rattle.http_serve.specs.Replies.{Reply, moments_of, numbers_of, kept_behind, reply_bytes, replies_bytes, Begun, none_begun}
use Rattle.http_serve.specs.Notes.{Noted, noted}
use Rattle.http_serve.specs.Serves.{WasStarved, HasEndCause}

-- Responses were written, of which the first has this place, and more may have been begun.
pub record Answers (place : ℕ) (old new : Setting) (replies : List Reply) (begun : Begun)
    : Type 0 where
  pub hub : HubGoesOn old new
  pub numbers : NeverFall (length old.history) (numbers_of replies) (length new.history)
  pub readings : Readings old.ahead new.ahead (moments_of replies ++ begun.readings)
  pub output : Appends old.written new.written
      (replies_bytes old.plans new.history old.kept place replies ++ begun.cut)
  pub looks : new.reads ≡ old.reads + (length replies + begun.looks)
  pub kept : new.kept
      ≡ kept_behind old.plans new.history old.kept (numbers_of replies ++ begun.seen)
  pub faults_later : old.write_faults ≤ new.write_faults

-- a response that was begun and cut, of the whole history
pub record IsCut (place : ℕ) (old new : Setting) (item : Item) (begun : Begun) : Type 0 where
  pub reply : Reply
  pub answers_item : reply.item ≡ item
  pub number : reply.number ≡ length new.history
  pub reading : begun.readings ≡ reply.moment ∷ []
  pub one_look : begun.looks ≡ 1
  pub seen : begun.seen ≡ reply.number ∷ []
  pub size : ℕ
  pub short : size < length (reply_bytes old.plans new.history old.kept place reply)
  pub written : begun.cut ≡ take size (reply_bytes old.plans new.history old.kept place reply)
  pub rose : Rose old.write_faults new.write_faults

-- the response to an item at a place was written and noted
pub record Replied (place : ℕ) (old new : Setting) (item : Item) (before after : Noted)
    : Type 0 where
  pub reply : Reply
  pub answers_item : reply.item ≡ item
  pub answers : Answers place old new (reply ∷ []) none_begun
  pub is_noted : after ≡ noted before (reply ∷ [])

-- the same, or it was cut, or memory was wanting for it
abbrev pub Replies : ℕ → Setting → Setting → Item → Noted → Noted → Result Unit Unwritten → Type 0
Replies place old new item before after (Ok done) = Replied place old new item before after
Replies place old new item before after (Err Cut) =
    (begun : Begun) × IsCut place old new item begun × Answers place old new [] begun
    × (after ≡ before)
Replies place old new item before after (Err Starved) =
    (begun : Begun) × WasStarved new.history begun × Answers place old new [] begun
    × (after ≡ before)

-- The item in front of these bytes was taken, and what stands behind it is held. What is no request
-- stays there.
abbrev pub TakesItem : List ℕ → List ℕ → Option (List ℕ) → Item → Type 0
TakesItem bytes held left (Asked r) = Begins bytes r held
TakesItem bytes held left Malformed =
    (held ≡ bytes) × (held ≢ []) × NoHead (held ++ known left)

-- What a reader that held some bytes came to: an item in front of them and of those that it read
-- behind them, or how the connection ends without one.
abbrev pub TakesNext : List ℕ → List ℕ → Option (List ℕ) → Option (List ℕ) → Result Item End
    → Type 0
TakesNext held held' left left' (Ok item) =
    (bytes : List ℕ) × Consumes left left' bytes × TakesItem (held ++ bytes) held' left' item
TakesNext held held' left left' (Err Ended) =
    (held ≡ []) × (held' ≡ []) × Consumes left left' [] × IsAtEnd left'
TakesNext held held' left left' (Err ReadFault) =
    (bytes : List ℕ) × Consumes left left' bytes × (held' ≡ held ++ bytes) × NoHead held'
TakesNext held held' left left' (Err NoMemory) = (bytes : List ℕ) × Consumes left left' bytes
TakesNext held held' left left' (Err Closed) = ⊥
TakesNext held held' left left' (Err Bad) = ⊥
TakesNext held held' left left' (Err WriteFault) = ⊥

-- the source's count of faults did not fall, and rose at a read fault
abbrev pub HasNextCause : Result Item End → ℕ → ℕ → Type 0
HasNextCause (Ok item) before after = before ≤ after
HasNextCause (Err Ended) before after = before ≤ after
HasNextCause (Err ReadFault) before after = Rose before after
HasNextCause (Err NoMemory) before after = before ≤ after
HasNextCause (Err Closed) before after = before ≤ after
HasNextCause (Err Bad) before after = before ≤ after
HasNextCause (Err WriteFault) before after = before ≤ after

-- what an item that was answered comes to
abbrev pub turn_after : ℕ → Item → Turn
turn_after place (Asked r) = if is_last place r then Ends Closed else GoesOn
turn_after place Malformed = Ends Bad

-- the item that was taken at a place was answered
pub record ItemAnswered
    (place : ℕ) (held held' : List ℕ) (left left' : Option (List ℕ)) (old new : Setting)
    (before after : Noted) (item : Item) : Type 0 where
  pub takes : TakesNext held held' left left' (Ok item)
  pub replied : Replied place old new item before after

-- What a turn at a place does, by what it came to.
abbrev pub Turns : ℕ → List ℕ → List ℕ → Option (List ℕ) → Option (List ℕ) → Setting → Setting
    → Noted → Noted → Turn → Type 0
Turns place held held' left left' old new before after GoesOn =
    (r : Request) × ItemAnswered place held held' left left' old new before after (Asked r)
    × (is_last place r ≡ false)
Turns place held held' left left' old new before after (Ends Closed) =
    (r : Request) × ItemAnswered place held held' left left' old new before after (Asked r)
    × (is_last place r ≡ true)
Turns place held held' left left' old new before after (Ends Bad) =
    ItemAnswered place held held' left left' old new before after Malformed
Turns place held held' left left' old new before after (Ends Ended) =
    TakesNext held held' left left' (Err Ended) × (new ≡ old) × (after ≡ before)
Turns place held held' left left' old new before after (Ends ReadFault) =
    TakesNext held held' left left' (Err ReadFault) × (new ≡ old) × (after ≡ before)
Turns place held held' left left' old new before after (Ends WriteFault) =
    (item : Item) × TakesNext held held' left left' (Ok item) × (begun : Begun)
    × IsCut place old new item begun × Answers place old new [] begun × (after ≡ before)
Turns place held held' left left' old new before after (Ends NoMemory) =
    (bytes : List ℕ) × Consumes left left' bytes × (begun : Begun)
    × WasStarved new.history begun × Answers place old new [] begun × (after ≡ before)

-- neither count of faults fell, and that of the one that failed rose
abbrev pub HasTurnCause : Turn → ℕ → ℕ → ℕ → ℕ → Type 0
HasTurnCause GoesOn read read' write write' = (read ≤ read') × (write ≤ write')
HasTurnCause (Ends end) read read' write write' = HasEndCause end read read' write write'
