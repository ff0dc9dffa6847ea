-- What a feed holds, message by message.
use Rattle.std.proofs.Common.{◌≡◌, List, [], ◌∷◌, ◌++◌, reverse, ap, append-nil, arith}
use Rattle.std.specs.Prelude.{if◌then◌else◌}
use Rattle.std.specs.Ordering.{nat_cmp}
use Rattle.std.specs.Cmp.Lexicographic.{slice_cmp}
use Rattle.std.specs.FinMap.{put}
use Rattle.std.proofs.lemmas.List.{reverse-append}
use Rattle.std.proofs.lemmas.List.Folds.{list_any-append}
use Rattle.std.proofs.lemmas.Grind.{flat_map-append}
use Rattle.rt_types.specs.declared.message.FeedMessage.{FeedMessage}
use Rattle.feed_defs.specs.History.{Change, is_full, since_full, changes_in, changes_of, changes_by_id}

-- a whole data set begins anew, and any other message goes on
pub since_full-append : (ms : List FeedMessage) (m : FeedMessage) → since_full (ms ++ m ∷ []) ≡ (if is_full m then m ∷ [] else since_full ms ++ m ∷ [])
unfolding since_full
since_full-append [] m = grind arith
since_full-append (x ∷ ms) m = grind (arith, list_any-append is_full ms (m ∷ []), since_full-append ms m)

-- what is said since the last whole data set, with one message more
pub changes_of-append : (ms : List FeedMessage) (m : FeedMessage) → changes_of (ms ++ m ∷ []) ≡ (if is_full m then [] else changes_of ms) ++ changes_in m
changes_of-append ms m = grind (arith, since_full-append ms m, flat_map-append changes_in (since_full ms) (m ∷ []), append-nil (changes_in m))

-- the last change of each id, with one change more
pub listed-append : (changes : List Change) (c : Change) → changes_by_id (reverse (changes ++ c ∷ [])) ≡ put (slice_cmp nat_cmp) c.0 c.1 (changes_by_id (reverse changes))
unfolding changes_by_id
listed-append changes c = ap changes_by_id (reverse-append changes (c ∷ []))
