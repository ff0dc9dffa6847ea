-- What a feed holds of messages that were read was said by them.
use Rattle.std.proofs.Common.{ℕ, List, [], ◌∷◌, reverse, subst, sym, arith}
use Rattle.std.specs.Prelude.{map}
use Rattle.std.specs.List.{flat_map, AllByRecursion}
use Rattle.std.specs.Ordering.{nat_cmp}
use Rattle.std.specs.Cmp.Lexicographic.{slice_cmp}
use Rattle.std.specs.FinMap.{put}
use Rattle.std.proofs.lemmas.List.{reverse-append}
use Rattle.std.proofs.lemmas.List.Concat.{flat_map-cons}
use Rattle.rt_types.specs.declared.message.Entity.{Entity}
use Rattle.rt_types.specs.declared.message.FeedMessage.{FeedMessage}
use Rattle.pb_wire_defs.proofs.Again.{AllByRecursion-filter}
use Rattle.feed_defs.specs.declared.history.Entry.{Entry}
use Rattle.feed_defs.specs.History.{Change, stamp_of, since_full, changes_in, changes_of, is_kept, changes_by_id, entities_of, messages_of}
use Rattle.feed_defs.proofs.Sifted.{each_append}

module _ (P : Entity → Type 0) where
  abbrev OfChange : Change → Type 0
  OfChange change = P change.1.entity

  in_changes : (m : FeedMessage) (es : List Entity) → AllByRecursion P es → AllByRecursion OfChange (map (λ e. (e.id, record { entity = e; stamp = stamp_of m })) es)
  in_changes m [] each = tt
  in_changes m (e ∷ es) each = (each.0, in_changes m es each.1)

  since : (ms : List FeedMessage) → AllByRecursion (λ m. AllByRecursion P m.entity) ms → AllByRecursion (λ m. AllByRecursion P m.entity) (since_full ms)
  unfolding since_full
  since [] each = tt
  since (m ∷ ms) each = grind (arith, since ms each.1)

  of_all : (ms : List FeedMessage) → AllByRecursion (λ m. AllByRecursion P m.entity) ms → AllByRecursion OfChange (flat_map changes_in ms)
  of_all [] each = tt
  of_all (m ∷ ms) each =
      subst (AllByRecursion OfChange) (sym (flat_map-cons changes_in m ms))
      (each_append OfChange (changes_in m) (flat_map changes_in ms) (in_changes m m.entity each.0) (of_all ms each.1))

  backwards : (changes : List Change) → AllByRecursion OfChange changes → AllByRecursion OfChange (reverse changes)
  backwards [] each = tt
  backwards (c ∷ cs) each =
      subst (AllByRecursion OfChange) (sym (reverse-append (c ∷ []) cs))
      (each_append OfChange (reverse cs) (c ∷ []) (backwards cs each.1) (each.0, tt))

  with_put : (c : Change) (changes : List Change) → OfChange c → AllByRecursion OfChange changes → AllByRecursion OfChange (put (slice_cmp nat_cmp) c.0 c.1 changes)
  with_put c [] here each = (here, tt)
  with_put c (x ∷ xs) here each = grind (arith, with_put c xs here each.1)

  by_id : (changes : List Change) → AllByRecursion OfChange changes → AllByRecursion OfChange (changes_by_id changes)
  unfolding changes_by_id
  by_id [] each = tt
  by_id (c ∷ cs) each = with_put c (changes_by_id cs) each.0 (by_id cs each.1)

  -- what a feed holds of messages has what each entity in them has
  pub held_each : (ms : List FeedMessage) → AllByRecursion (λ m. AllByRecursion P m.entity) ms → AllByRecursion (λ change. P change.1.entity) (entities_of ms)
  unfolding entities_of
  held_each ms each = AllByRecursion-filter OfChange is_kept (changes_by_id (reverse (changes_of ms))) (by_id (reverse (changes_of ms)) (backwards (changes_of ms) (of_all (since_full ms) (since ms each))))

-- so has each message of a feed what each of the history has
pub each_of_feed : (Q : FeedMessage → Type 0) (feed : ℕ) (h : List Entry) → AllByRecursion (λ entry. Q entry.message) h → AllByRecursion Q (messages_of feed h)
unfolding messages_of
each_of_feed Q feed [] each = tt
each_of_feed Q feed (entry ∷ h) each = grind (arith, each_of_feed Q feed h each.1)
