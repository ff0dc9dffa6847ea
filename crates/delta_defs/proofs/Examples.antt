-- Differences of combined feeds, and views that are kept: each line computes.
use Rattle.std.specs.Prelude.{◌≡◌, ℕ, Some, None, List, [], ◌∷◌, map, refl, codes}
use Rattle.std.specs.List.{range_with_len}
use Rattle.rt_types.specs.declared.enums.Incrementality.TheVariants.{Differential}
use Rattle.rt_types.specs.declared.message.Entity.{Entity}
use Rattle.rt_types.specs.declared.message.FeedMessage.{FeedMessage}
use Rattle.pb_wire_defs.specs.Writing.{groups, varint, payload_bytes, field_bytes}
use Rattle.feed_defs.specs.Combined.{gone}
use Rattle.feed_defs.specs.History.{Change, since_full, changes_by_id, entities_of}
use Rattle.feed_defs.specs.Rows.{message_bytes}
use Rattle.feed_defs.specs.Table.{write}
use Rattle.sched_types.specs.City.{city}
use Rattle.sched_types.specs.Schedules.{Schedules}
use Rattle.board_defs.specs.Fold.{FeedFold}
use Rattle.board_defs.specs.Views.{no_fold}
use Rattle.board_defs.proofs.Parts.{trip_on, trip_update, entity_of}
use Rattle.delta_defs.specs.Changes.{changes, changes_bytes}
use Rattle.delta_defs.specs.Applied.{BringsTo}
use Rattle.delta_defs.specs.Kept.{KeptView, most_kept, views_with, folds_at}

-- the city under the prefix x-, with the feeds a and b, and another schedule with the feed c
abbrev schedules : Schedules
schedules = record {
  plans = record { name = codes "city"; prefix = codes "x-"; plan = city } ∷ record { name = codes "plain"; prefix = []; plan = city } ∷ [];
  feeds = record { name = codes "a"; plan = 0; max_age = 0 } ∷ record { name = codes "b"; plan = 0; max_age = 0 } ∷ record { name = codes "c"; plan = 1; max_age = 0 } ∷ [];
}

-- an entity with an update of that trip
abbrev update_of : List ℕ → List ℕ → Entity
update_of id trip = entity_of id (trip_update (trip_on trip (codes "20250330") None) [])

-- the same as a feed holds it, of a message of that stamp
abbrev held : ℕ → List ℕ → List ℕ → Change
held stamp id trip = (id, record { entity = update_of id trip; stamp = stamp })

-- a feed that holds so much, with that stamp
abbrev saying : ℕ → List Change → FeedFold
saying stamp entities = record { count = 1; stamp = stamp; entities = entities }

-- a differential message of those entities
abbrev differential : ℕ → List Entity → FeedMessage
differential stamp entities = record {
  header = record { version = codes "2.0"; incrementality = Some Differential; timestamp = Some stamp; unknown = [] };
  entity = entities;
  unknown = [];
}

-- what feed a held at stamp 5: the entities p, q and r
abbrev old : List FeedFold
old = saying 5 (held 5 (codes "p") (codes "T1") ∷ held 5 (codes "q") (codes "T2") ∷ held 5 (codes "r") (codes "T3") ∷ []) ∷ no_fold ∷ no_fold ∷ []

-- what it holds at stamp 6: p is gone, q is as before in a later message, r is about another trip, and s is new; b has come with q
abbrev new : List FeedFold
new =
    saying 6 (held 6 (codes "q") (codes "T2") ∷ held 6 (codes "r") (codes "T4") ∷ held 6 (codes "s") (codes "T5") ∷ [])
    ∷ saying 9 (held 9 (codes "q") (codes "T2") ∷ [])
    ∷ saying 7 (held 7 (codes "q") (codes "T2") ∷ []) ∷ []

-- each with its feed's name before its id, and the schedule's prefix before the ids of the timetable
several : changes schedules 0 old new
    ≡ differential 9 (gone (codes "a:p") ∷ update_of (codes "a:r") (codes "x-T4") ∷ update_of (codes "a:s") (codes "x-T5") ∷ update_of (codes "b:q") (codes "x-T2") ∷ [])
unfolding changes_by_id message_bytes field_bytes payload_bytes varint groups
several = refl

-- the other way round what came goes, and the stamp is that of the feed that is told of
back : changes schedules 0 new old
    ≡ differential 5 (update_of (codes "a:p") (codes "x-T1") ∷ update_of (codes "a:r") (codes "x-T3") ∷ gone (codes "a:s") ∷ gone (codes "b:q") ∷ [])
unfolding changes_by_id message_bytes field_bytes payload_bytes varint groups
back = refl

-- another schedule has its own feeds, and its own prefix
other_schedule : changes schedules 1 old new ≡ differential 7 (update_of (codes "c:q") (codes "T2") ∷ [])
unfolding changes_by_id message_bytes field_bytes payload_bytes varint groups
other_schedule = refl

-- from a feed to itself nothing is sent but its stamp
nothing_changed : changes schedules 0 new new ≡ differential 9 []
unfolding changes_by_id message_bytes field_bytes payload_bytes varint groups
nothing_changed = refl

-- nor is anything sent of an entity that a later message said anew
said_anew : changes schedules 1 (no_fold ∷ no_fold ∷ saying 5 (held 5 (codes "q") (codes "T2") ∷ []) ∷ []) new ≡ differential 7 []
unfolding changes_by_id message_bytes field_bytes payload_bytes varint groups
said_anew = refl

-- a schedule whose feeds sent nothing: the bytes are a header of the stamp 0
empty : changes_bytes schedules 0 (no_fold ∷ no_fold ∷ no_fold ∷ []) (no_fold ∷ no_fold ∷ no_fold ∷ [])
    ≡ 0x0a ∷ 0x09 ∷ 0x0a ∷ 0x03 ∷ 0x32 ∷ 0x2e ∷ 0x30 ∷ 0x10 ∷ 0x01 ∷ 0x18 ∷ 0x00 ∷ []
unfolding changes_bytes changes_by_id write message_bytes field_bytes payload_bytes varint groups
empty = refl

-- ---- views that are kept

abbrev view : ℕ → KeptView
view number = record { number = number; folds = [] }

abbrev numbers : List KeptView → List ℕ
numbers views = map (λ v. v.number) views

-- a view with a further number stands at the end, and one with the newest's changes nothing
one_more : numbers (views_with (view 5) (view 1 ∷ view 3 ∷ [])) ≡ 1 ∷ 3 ∷ 5 ∷ []
one_more = refl

as_newest : numbers (views_with (view 3) (view 1 ∷ view 3 ∷ [])) ≡ 1 ∷ 3 ∷ []
as_newest = refl

-- of 64 views the oldest goes with the next
oldest_goes : numbers (views_with (view 64) (map view (range_with_len 0 most_kept))) ≡ range_with_len 1 most_kept
oldest_goes = refl

-- and 63 stay with it
all_stay : numbers (views_with (view 63) (map view (range_with_len 0 63))) ≡ range_with_len 0 most_kept
all_stay = refl

-- what all feeds said at a number that is kept, and at another
said_then : folds_at 1 (record { number = 0; folds = [] } ∷ record { number = 1; folds = old } ∷ []) ≡ Some old
said_then = refl

not_kept : folds_at 2 (record { number = 0; folds = [] } ∷ record { number = 1; folds = old } ∷ []) ≡ None
not_kept = refl

-- ---- a reader that applies a difference

-- a reader of the city's combined feed has then what that feed has
brings : BringsTo schedules 0 old new (changes schedules 0 old new)
unfolding entities_of since_full changes_by_id message_bytes field_bytes payload_bytes varint groups
brings = record { entities = refl; stamp = refl }
