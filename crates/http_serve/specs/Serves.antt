-- What serving a connection does and answers.
use Rattle.std.specs.Prelude.{◌≡◌, ◌≢◌, ℕ, ◌+◌, ◌≤◌, ◌<◌, List, [], ◌∷◌, ◌++◌, length, take, Option, IfSome}
use Rattle.std.specs.List.{AllByRecursion}
use Rattle.std.specs.Io.KnownBytes.{Appends, Consumes}
use Rattle.feed_defs.specs.declared.history.Entry.{Entry}
use Rattle.sched_types.specs.Schedules.{Schedules}
use Rattle.delta_defs.specs.Kept.{KeptView}
use Rattle.hub_outside.specs.Count.{Rose}
use Rattle.http_defs.specs.declared.request.Item.{Item}
use Rattle.http_defs.specs.declared.request.Item.TheVariants.{Asked, Malformed}
use Rattle.http_defs.specs.Requests.{NoHead, Begins, AreRequests, Leads, ended, closed, bad}
use Rattle.http_serve.specs.declared.session.End.{End}
use Rattle.http_serve.specs.declared.session.End.TheVariants.{Ended, Closed, Bad, ReadFault, WriteFault, NoMemory}
use Rattle.http_serve.specs.Setting.{Setting, HubGoesOn, Readings, NeverFall}
use Rattle.http_serve.specs.Replies.{Reply, items_of, moments_of, numbers_of, kept_behind, reply_bytes, replies_bytes, Begun, none_begun}

-- an item stands in front of the bytes
abbrev pub StandsFirst : List ℕ → Item → Type 0
StandsFirst bytes (Asked r) = (rest : List ℕ) × Begins bytes r rest
StandsFirst bytes Malformed = (bytes ≢ []) × NoHead bytes

-- the first items of an input, of which none is its last, and then the bytes have a property
abbrev pub Behind : List ℕ → List Item → (List ℕ → Type 0) → Type 0
Behind input items P = (rest : List ℕ) × Leads 1 input items rest × P rest

-- Which items of the input were answered. They are all of them, with the finish that they have; or,
-- at a read fault, all requests whose heads stand whole in the bytes taken; or else the first ones.
abbrev pub AreAnswered : List ℕ → List ℕ → List Item → End → Type 0
AreAnswered input taken items Ended = AreRequests 1 input items ended
AreAnswered input taken items Closed = AreRequests 1 input items closed
AreAnswered input taken items Bad = AreRequests 1 input items bad
AreAnswered input taken items ReadFault = Behind taken items NoHead
AreAnswered input taken items WriteFault = (rest : List ℕ) × Leads 1 input items rest
AreAnswered input taken items NoMemory = (rest : List ℕ) × Leads 1 input items rest

-- A response that was cut: it would have answered the item behind those that were answered, at the
-- next reading, and of the whole history, where these views were kept before; fewer of its bytes
-- were written than it has.
pub record WasCut
    (plans : Schedules) (history : List Entry) (kept : List KeptView) (input : List ℕ)
    (items : List Item) (begun : Begun) : Type 0 where
  pub reply : Reply
  pub next : Behind input items (λ rest. StandsFirst rest reply.item)
  pub number : reply.number ≡ length history
  pub reading : begun.readings ≡ reply.moment ∷ []
  pub one_look : begun.looks ≡ 1
  pub seen : begun.seen ≡ reply.number ∷ []
  pub size : ℕ
  pub short : size < length (reply_bytes plans history kept (length items + 1) reply)
  pub written : begun.cut ≡ take size (reply_bytes plans history kept (length items + 1) reply)

-- a response for which memory was wanting: it had no look or one, a reading only behind a look, and
-- the view of that look, of the whole history, was kept or not; none of it was written
pub record WasStarved (history : List Entry) (begun : Begun) : Type 0 where
  pub one_look : begun.looks ≤ 1
  pub reading_behind_look : length begun.readings ≤ begun.looks
  pub seen_at_look : length begun.seen ≤ begun.looks
  pub seen_whole : AllByRecursion (λ number. number ≡ length history) begun.seen
  pub unwritten : begun.cut ≡ []

-- what was begun behind the responses that were written whole, when these views were kept: nothing,
-- but where the sink failed or memory was wanting
abbrev pub IsBegun : Schedules → List Entry → List KeptView → List ℕ → List Item → Begun → End
    → Type 0
IsBegun plans history kept input items begun Ended = begun ≡ none_begun
IsBegun plans history kept input items begun Closed = begun ≡ none_begun
IsBegun plans history kept input items begun Bad = begun ≡ none_begun
IsBegun plans history kept input items begun ReadFault = begun ≡ none_begun
IsBegun plans history kept input items begun WriteFault =
    WasCut plans history kept input items begun
IsBegun plans history kept input items begun NoMemory = WasStarved history begun

-- neither count of faults fell, and that of the one that failed rose
abbrev pub HasEndCause : End → ℕ → ℕ → ℕ → ℕ → Type 0
HasEndCause Ended read read' write write' = (read ≤ read') × (write ≤ write')
HasEndCause Closed read read' write write' = (read ≤ read') × (write ≤ write')
HasEndCause Bad read read' write write' = (read ≤ read') × (write ≤ write')
HasEndCause ReadFault read read' write write' = Rose read read' × (write ≤ write')
HasEndCause WriteFault read read' write write' = (read ≤ read') × Rose write write'
HasEndCause NoMemory read read' write write' = (read ≤ read') × (write ≤ write')

-- Serving a connection, from what its source had left and from a setting to those at the end.
-- `input` is all that the source had, where it tells that, and `taken` is what was read of it.
-- The history goes on, and the numbers never fall: the first is not below the length of the
-- history at first, and none is above that at the end. The moments are the clock's first readings.
-- What was written are the responses to the items, each at its moment and of the history as far as
-- its number says, and then the front of one that was cut. The items are those of the input. There
-- was one look for each response, and its view was added to those that are kept before it answered.
pub record Serves
    (left left' : Option (List ℕ)) (faults faults' : ℕ) (old new : Setting) (end : End)
    (numbers moments : List ℕ) : Type 0 where
  pub input : List ℕ
  pub told : IfSome left (λ bytes. input ≡ bytes)
  pub taken : List ℕ
  pub consumed : Consumes left left' taken
  pub replies : List Reply
  pub numbers_are : numbers ≡ numbers_of replies
  pub moments_are : moments ≡ moments_of replies
  pub begun : Begun
  pub is_begun : IsBegun old.plans new.history
      (kept_behind old.plans new.history old.kept (numbers_of replies)) input (items_of replies)
      begun end
  pub hub_goes_on : HubGoesOn old new
  pub numbers_never_fall : NeverFall (length old.history) numbers (length new.history)
  pub moments_are_readings : Readings old.ahead new.ahead (moments ++ begun.readings)
  pub output : Appends old.written new.written
      (replies_bytes old.plans new.history old.kept 1 replies ++ begun.cut)
  pub items_are_answered : AreAnswered input taken (items_of replies) end
  pub faults_have_causes : HasEndCause end faults faults' old.write_faults new.write_faults
  pub looks : new.reads ≡ old.reads + (length replies + begun.looks)
  pub views_are_kept : new.kept
      ≡ kept_behind old.plans new.history old.kept (numbers_of replies ++ begun.seen)
