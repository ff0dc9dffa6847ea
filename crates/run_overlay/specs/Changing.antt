-- What a message changes of what is kept of updates.
use Rattle.std.specs.Prelude.{◌≡◌, ℕ, false, Option, Some, None, List, [], ◌∷◌, ◌++◌, map}
use Rattle.std.specs.List.{flat_map, list_any}
use Rattle.std.specs.Option.{option_map}
use Rattle.std.specs.FinMap.{find}
use Rattle.std.specs.Str.{bytes_eq}
use Rattle.shared_list.specs.declared.change.Change.{Change}
use Rattle.shared_list.specs.declared.change.Change.TheVariants.{Put, Remove}
use Rattle.feed_defs.specs.declared.history.Stored.{Stored}
use Rattle.feed_defs.specs.History.{Change as EntityChange}
use Rattle.sched_types.specs.declared.rows.Run.{Run}
use Rattle.sched_types.specs.Timetable.{Timetable}
use Rattle.run_overlay.specs.declared.candidate.Candidate.{Candidate}
use Rattle.run_overlay.specs.declared.link.Link.{Link}
use Rattle.run_overlay.specs.declared.mention.Mention.{Mention}
use Rattle.run_overlay.specs.declared.id_changes.IdBefore.{IdBefore}
use Rattle.run_overlay.specs.declared.id_changes.IdChange.{IdChange}
use Rattle.keyed_lists.specs.Keyed.{changed}
use Rattle.run_overlay.specs.Keys.{CandidateKey, id_cmp, link_key, stored_key, candidate_key, candidate_cmp}
use Rattle.run_overlay.specs.Kept.{Mentions, FeedOverlay, IsTable, if_added, overlay_of}
use Rattle.run_overlay.specs.Updates.{about_held, about_stored, mention_in}

-- ---- what becomes of an id

-- the run that its update was about, by the links that are kept
abbrev pub id_before : List (List ℕ × Link) → List ℕ → IdBefore
id_before links id =
    record { id = id; before = option_map (λ link. link.mention) (find id_cmp id links) }

-- and what the update is about that the table has there now
abbrev pub id_change : Timetable → List EntityChange → IdBefore → IdChange
id_change t table one = record {
  id = one.id;
  before = one.before;
  after = about_held t (find id_cmp one.id table);
}

abbrev pub id_change_by : Timetable → List (List ℕ × Link) → List EntityChange → List ℕ → IdChange
id_change_by t links table id = id_change t table (id_before links id)

-- what becomes of the id of an entity where there was nothing before
abbrev pub id_change_new : Timetable → Stored → IdChange
id_change_new t stored =
    record { id = stored.entity.id; before = None; after = about_stored t stored }

-- the run that it is about after it
abbrev pub mention_now : IdChange → Option Mention
mention_now one = mention_in one.after

-- These are the changes of some ids by which a table becomes another, where the overlay is that of
-- the former: under any other id both hold the same.
pub record AreIdChanges (t : Timetable) (overlay : FeedOverlay) (table : List EntityChange)
    (changes : List IdChange) : Type 0 where
  pub old : List EntityChange
  pub ids : List (List ℕ)
  pub was : IsTable old
  pub kept : overlay ≡ overlay_of t old
  pub are : changes ≡ map (id_change_by t overlay.mentions.links table) ids
  pub others : (id : List ℕ) → list_any (bytes_eq id) ids ≡ false
      → find id_cmp id table ≡ find id_cmp id old

-- ---- what that comes to in each list

abbrev pub link_change : List ℕ → Option Mention → Option Mention → List (Change Link (List ℕ))
link_change id before (Some mention) = Put (record { id = id; mention = mention }) ∷ []
link_change id (Some mention) None = Remove id ∷ []
link_change id None None = []

abbrev pub link_changes : IdChange → List (Change Link (List ℕ))
link_changes one = link_change one.id one.before (mention_now one)

-- what was a candidate goes, and what is one comes
abbrev pub going : List ℕ → Option Mention → List (Change Candidate CandidateKey)
going id None = []
going id (Some mention) = Remove (mention.run, Some (mention.stamp, id)) ∷ []

abbrev pub coming : List ℕ → Option Mention → List (Change Candidate CandidateKey)
coming id None = []
coming id (Some mention) = Put (record { mention = mention; id = id }) ∷ []

abbrev pub candidate_changes : IdChange → List (Change Candidate CandidateKey)
candidate_changes one = going one.id one.before ++ coming one.id (mention_now one)

-- an entity with an update of an added trip is kept whole
abbrev pub added_change : List ℕ → Option Stored → Change Stored (List ℕ)
added_change id None = Remove id
added_change id (Some stored) = Put stored

-- what a table has under an id
abbrev pub held : List EntityChange → List ℕ → Option Stored
held table id = find id_cmp id table

abbrev pub only_added : IdChange → Option Stored → Option Stored
only_added one None = None
only_added one (Some stored) = if_added one.after stored

abbrev pub added_changes : List EntityChange → IdChange → List (Change Stored (List ℕ))
added_changes table one =
    added_change one.id (only_added one (held table one.id)) ∷ []

abbrev pub mentions_after : List EntityChange → List IdChange → Mentions → Mentions
mentions_after table changes kept = record {
  links = changed id_cmp link_key kept.links (flat_map link_changes changes);
  candidates = changed candidate_cmp candidate_key kept.candidates
      (flat_map candidate_changes changes);
  added = changed id_cmp stored_key kept.added (flat_map (added_changes table) changes);
}

-- ---- which runs it touches

abbrev pub run_in : Option Mention → List Run
run_in None = []
run_in (Some mention) = mention.run ∷ []

-- the run that an id's update was about, and the one that it is about now
abbrev pub runs_of_id : IdChange → List Run
runs_of_id one = run_in one.before ++ run_in (mention_now one)

abbrev pub touched_runs : List IdChange → List Run
touched_runs changes = flat_map runs_of_id changes
