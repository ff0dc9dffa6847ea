-- What a history says of each feed is in order, each entity under its own id.
use Rattle.std.proofs.Common.{◌≡◌, ℕ, zero, suc, ◌+◌, List, [], ◌∷◌, map, reverse, length, refl, sym, ◌∙◌, subst, Less, Equal, Greater}
use Rattle.std.specs.Prelude.{T}
use Rattle.std.specs.List.{flat_map, range_with_len, AllByRecursion}
use Rattle.std.specs.declared.cmp.Ordering.{Ordering}
use Rattle.std.specs.FinMap.{put, is_sorted}
use Rattle.std.specs.FinMap.Entries.{by_order}
use Rattle.std.proofs.lemmas.List.{reverse-append, length-map}
use Rattle.std.proofs.lemmas.List.Concat.{flat_map-cons}
use Rattle.rt_types.specs.declared.message.Entity.{Entity}
use Rattle.rt_types.specs.declared.message.FeedMessage.{FeedMessage}
use Rattle.pb_wire_defs.proofs.Again.{AllByRecursion-filter}
use Rattle.feed_defs.specs.declared.history.Entry.{Entry}
use Rattle.feed_defs.specs.History.{Change, stamp_of, since_full, changes_in, changes_of, is_kept, changes_by_id, entities_of, messages_of}
use Rattle.feed_defs.proofs.Applied.{sorted_filter}
use Rattle.feed_defs.proofs.Kept.{id_cmp, listed_sorted}
use Rattle.feed_defs.proofs.Sifted.{each_append}
use Rattle.board_defs.specs.Fold.{feed_fold, fold_of}
use Rattle.delta_defs.proofs.Applying.{IsKeyed, IsTable}
use Rattle.delta_defs.proofs.IdOrder.{same_id}

keyed_in : (stamp : ℕ) (es : List Entity) → AllByRecursion IsKeyed (map (λ e. (e.id, record { entity = e; stamp = stamp })) es)
keyed_in stamp [] = tt
keyed_in stamp (e ∷ es) = (refl, keyed_in stamp es)

keyed_all : (ms : List FeedMessage) → AllByRecursion IsKeyed (flat_map changes_in ms)
keyed_all [] = tt
keyed_all (m ∷ ms) =
    subst (AllByRecursion IsKeyed) (sym (flat_map-cons changes_in m ms))
    (each_append IsKeyed (changes_in m) (flat_map changes_in ms) (keyed_in (stamp_of m) m.entity) (keyed_all ms))

keyed_back : (cs : List Change) → AllByRecursion IsKeyed cs → AllByRecursion IsKeyed (reverse cs)
keyed_back [] each = tt
keyed_back (c ∷ cs) each =
    subst (AllByRecursion IsKeyed) (sym (reverse-append (c ∷ []) cs)) (each_append IsKeyed (reverse cs) (c ∷ []) (keyed_back cs each.1) (each.0, tt))

keyed_put : (c : Change) (cs : List Change) → IsKeyed c → AllByRecursion IsKeyed cs → AllByRecursion IsKeyed (put id_cmp c.0 c.1 cs)
keyed_put c [] here each = (here, tt)
keyed_put c (x ∷ xs) here each = placed (id_cmp c.0 x.0) refl (keyed_put c xs here each.1)
  where
    placed : (o : Ordering) → id_cmp c.0 x.0 ≡ o → AllByRecursion IsKeyed (put id_cmp c.0 c.1 xs) → AllByRecursion IsKeyed (by_order o (c ∷ x ∷ xs) ((x.0, c.1) ∷ xs) (x ∷ put id_cmp c.0 c.1 xs))
    placed Less e rest = (here, each)
    placed Equal e rest = (here ∙ same_id c.0 x.0 e, each.1)
    placed Greater e rest = (each.0, rest)

keyed_listed : (cs : List Change) → AllByRecursion IsKeyed cs → AllByRecursion IsKeyed (changes_by_id cs)
unfolding changes_by_id
keyed_listed [] each = tt
keyed_listed (c ∷ cs) each = keyed_put c (changes_by_id cs) each.0 (keyed_listed cs each.1)

held_table : (ms : List FeedMessage) → T (is_sorted id_cmp (entities_of ms)) × AllByRecursion IsKeyed (entities_of ms)
unfolding entities_of
held_table ms =
    let all = changes_by_id (reverse (changes_of ms)) in
    (sorted_filter is_kept all (listed_sorted (reverse (changes_of ms))), AllByRecursion-filter IsKeyed is_kept all (keyed_listed (reverse (changes_of ms)) (keyed_back (changes_of ms) (keyed_all (since_full ms)))))

-- of each feed
pub folds_tables : (h : List Entry) (feeds : ℕ) → AllByRecursion IsTable (fold_of feeds h)
unfolding fold_of
folds_tables h feeds = from 0 feeds
  where
    from : (a n : ℕ) → AllByRecursion IsTable (map (feed_fold h) (range_with_len a n))
    from a zero = tt
    from a (suc n) = (held_table (messages_of a h), from (a + 1) n)

-- of as many feeds as there are
pub folds_count : (feeds : ℕ) (h g : List Entry) → length (fold_of feeds h) ≡ length (fold_of feeds g)
unfolding fold_of
folds_count feeds h g = length-map (range_with_len 0 feeds) (feed_fold h) ∙ sym (length-map (range_with_len 0 feeds) (feed_fold g))
