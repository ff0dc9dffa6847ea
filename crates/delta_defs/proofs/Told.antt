-- What a reader has under each id, of messages that it got: what the last entity of that id says.
use Rattle.std.proofs.Common.{◌≡◌, ℕ, List, [], ◌∷◌, ◌++◌, map, Bool, true, false, cond, not, Option, Some, None, refl, sym, ap, ◌∙◌, append-nil}
use Rattle.std.specs.Prelude.{◌||◌, T, reverse, unwrap_or, if◌then◌else◌}
use Rattle.std.specs.List.{flat_map, filter_map, cons_option, last_or}
use Rattle.std.specs.Option.{option_map}
use Rattle.std.specs.Str.{bytes_eq}
use Rattle.std.specs.Ordering.{eq_by_cmp}
use Rattle.std.specs.FinMap.{find, is_sorted}
use Rattle.std.specs.FinMap.Entries.{below_all, same_entries}
use Rattle.std.proofs.lemmas.Cmp.{nat_list_cmp_total}
use Rattle.rt_types.specs.declared.message.Entity.{Entity}
use Rattle.rt_types.specs.declared.message.FeedMessage.{FeedMessage}
use Rattle.feed_defs.specs.History.{Change, stamp_of, is_full, is_kept, last_said, kept_of, changes_in, changes_of, changes_by_id, since_full, entities_of}
use Rattle.feed_defs.proofs.Applied.{sorted_filter}
use Rattle.feed_defs.proofs.Kept.{id_cmp, left, right, listed_sorted, held_is}
use Rattle.delta_defs.specs.Applied.{entities_got}
use Rattle.delta_defs.proofs.IdOrder.{both, same_id, or_else}

-- the last entity of an id
abbrev pub if_under : List ℕ → Entity → Option Entity
if_under q e = if bytes_eq q e.id then Some e else None

abbrev pub told : List ℕ → List Entity → Option Entity
told q [] = None
told q (e ∷ es) = or_else (told q es) (if_under q e)

-- it stands, unless it says that it is deleted
abbrev pub standing : Option Entity → Option Entity
standing None = None
standing (Some e) = if unwrap_or e.is_deleted false then None else Some e

pub or_else-none : {A : Type 0} (o : Option A) → or_else o None ≡ o
or_else-none None = refl
or_else-none (Some x) = refl

pub or_else-assoc : {A : Type 0} (a b c : Option A) → or_else (or_else a b) c ≡ or_else a (or_else b c)
or_else-assoc None b c = refl
or_else-assoc (Some x) b c = refl

pub told-append : (q : List ℕ) (es fs : List Entity) → told q (es ++ fs) ≡ or_else (told q fs) (told q es)
told-append q [] fs = sym (or_else-none (told q fs))
told-append q (e ∷ es) fs = ap (λ o. or_else o (if_under q e)) (told-append q es fs) ∙ or_else-assoc (told q fs) (told q es) (if_under q e)

-- ---- of messages

abbrev entity_in : Option Change → Option Entity
entity_in o = option_map (λ c. c.1.entity) o

abbrev said_under : List ℕ → Change → Option Change
said_under q change = if bytes_eq q change.0 then Some change else None

last-append : (q : List ℕ) (acc : Option Change) (xs ys : List Change) → last_or acc (filter_map (said_under q) (xs ++ ys)) ≡ last_or (last_or acc (filter_map (said_under q) xs)) (filter_map (said_under q) ys)
last-append q acc [] ys = refl
last-append q acc (x ∷ xs) ys = by_id (said_under q x) (λ a. last-append q a xs ys)
  where
    by_id : (o : Option Change) → ((a : Option Change) → last_or a (filter_map (said_under q) (xs ++ ys)) ≡ last_or (last_or a (filter_map (said_under q) xs)) (filter_map (said_under q) ys))
        → last_or acc (cons_option o (filter_map (said_under q) (xs ++ ys))) ≡ last_or (last_or acc (cons_option o (filter_map (said_under q) xs))) (filter_map (said_under q) ys)
    by_id None rest = rest acc
    by_id (Some c) rest = rest (Some c)

last_in : (q : List ℕ) (acc : Option Change) (stamp : ℕ) (es : List Entity) → entity_in (last_or acc (filter_map (said_under q) (map (λ e. (e.id, record { entity = e; stamp = stamp })) es))) ≡ or_else (told q es) (entity_in acc)
last_in q acc stamp [] = refl
last_in q acc stamp (e ∷ es) = by_id (bytes_eq q e.id) (λ a. last_in q a stamp es)
  where
    rest : List Change
    rest = filter_map (said_under q) (map (λ x. (x.id, record { entity = x; stamp = stamp })) es)

    by_id : (b : Bool) → ((a : Option Change) → entity_in (last_or a rest) ≡ or_else (told q es) (entity_in a))
        → entity_in (last_or acc (cons_option (if b then Some (e.id, record { entity = e; stamp = stamp }) else None) rest)) ≡ or_else (or_else (told q es) (if b then Some e else None)) (entity_in acc)
    by_id true more = more (Some (e.id, record { entity = e; stamp = stamp })) ∙ sym (or_else-assoc (told q es) (Some e) (entity_in acc))
    by_id false more = more acc ∙ sym (ap (λ o. or_else o (entity_in acc)) (or_else-none (told q es)))

stands : (o : Option Change) → option_map (λ s. s.entity) (kept_of o) ≡ standing (entity_in o)
stands None = refl
stands (Some c) = by_word (unwrap_or c.1.entity.is_deleted false)
  where
    by_word : (b : Bool) → option_map (λ s. s.entity) (if not b then Some c.1 else None) ≡ (if b then None else Some c.1.entity)
    by_word true = refl
    by_word false = refl

find_entities : (q : List ℕ) (es : List Change) → find id_cmp q (map (λ change. (change.0, change.1.entity)) es) ≡ option_map (λ s. s.entity) (find id_cmp q es)
find_entities q [] = refl
find_entities q (e ∷ es) = by_tie (eq_by_cmp id_cmp q e.0) (find_entities q es)
  where
    by_tie : (b : Bool) → find id_cmp q (map (λ change. (change.0, change.1.entity)) es) ≡ option_map (λ s. s.entity) (find id_cmp q es)
        → cond b (Some e.1.entity) (find id_cmp q (map (λ change. (change.0, change.1.entity)) es)) ≡ option_map (λ s. s.entity) (cond b (Some e.1) (find id_cmp q es))
    by_tie true rest = refl
    by_tie false rest = rest

got_is : (q : List ℕ) (ms : List FeedMessage) → find id_cmp q (entities_got ms) ≡ standing (entity_in (last_said q (changes_of ms)))
got_is q ms = find_entities q (entities_of ms) ∙ ap (option_map (λ s. s.entity)) (held_is ms q) ∙ stands (last_said q (changes_of ms))

-- of one message
pub got_one : (q : List ℕ) (m : FeedMessage) → find id_cmp q (entities_got (m ∷ [])) ≡ standing (told q m.entity)
unfolding since_full
got_one q m =
    got_is q (m ∷ [])
    ∙ ap (λ cs. standing (entity_in (last_said q cs))) (append-nil (changes_in m))
    ∙ ap standing (last_in q None (stamp_of m) m.entity ∙ or_else-none (told q m.entity))

-- of one and a differential one after it
pub got_two : (q : List ℕ) (m d : FeedMessage) → is_full d ≡ false → find id_cmp q (entities_got (m ∷ d ∷ [])) ≡ standing (told q (m.entity ++ d.entity))
unfolding since_full
got_two q m d part =
    got_is q (m ∷ d ∷ [])
    ∙ ap (λ b. standing (entity_in (last_said q (flat_map changes_in (if b || false then d ∷ [] else m ∷ d ∷ []))))) part
    ∙ ap (λ cs. standing (entity_in (last_said q (changes_in m ++ cs)))) (append-nil (changes_in d))
    ∙ ap (λ o. standing (entity_in o)) (last-append q None (changes_in m) (changes_in d))
    ∙ ap standing (
    last_in q (last_said q (changes_in m)) (stamp_of d) d.entity
    ∙ ap (or_else (told q d.entity)) (last_in q None (stamp_of m) m.entity ∙ or_else-none (told q m.entity))
    ∙ sym (told-append q m.entity d.entity))

-- ---- in order

sorted_entities : (es : List Change) → T (is_sorted id_cmp es) → T (is_sorted id_cmp (map (λ change. (change.0, change.1.entity)) es))
sorted_entities [] h = tt
sorted_entities (e ∷ es) h = both _ _ (below e.0 es (left _ _ h)) (sorted_entities es (right _ _ h))
  where
    below : (k : List ℕ) (xs : List Change) → T (below_all id_cmp k xs) → T (below_all id_cmp k (map (λ change. (change.0, change.1.entity)) xs))
    below k [] p = tt
    below k (x ∷ xs) p = both _ _ (left _ _ p) (below k xs (right _ _ p))

got_sorted : (ms : List FeedMessage) → T (is_sorted id_cmp (entities_got ms))
unfolding entities_of
got_sorted ms = sorted_entities (entities_of ms) (sorted_filter is_kept (changes_by_id (reverse (changes_of ms))) (listed_sorted (reverse (changes_of ms))))

-- readers that find the same under each id have the same
pub got_same : (ms ns : List FeedMessage) → ((q : List ℕ) → find id_cmp q (entities_got ms) ≡ find id_cmp q (entities_got ns)) → entities_got ms ≡ entities_got ns
got_same ms ns same = same_entries id_cmp nat_list_cmp_total same_id (entities_got ms) (entities_got ns) (got_sorted ms) (got_sorted ns) same
