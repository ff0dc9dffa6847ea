-- Entity by entity, a table becomes what the message makes of it.
use Rattle.std.proofs.Common.{◌≡◌, ℕ, zero, suc, ◌≤◌, List, [], ◌∷◌, ◌++◌, Bool, true, false, not, Option, Result, Ok, Err, length, drop, map, refl, sym, ap, ◌∙◌, arith}
use Rattle.std.specs.Prelude.{fold, unwrap_or, if◌then◌else◌, IfOk}
use Rattle.std.specs.Ordering.{nat_cmp}
use Rattle.std.specs.Cmp.Lexicographic.{slice_cmp}
use Rattle.std.specs.FinMap.{put, find}
use Rattle.rt_types.specs.declared.message.Entity.{Entity}
use Rattle.rt_types.specs.declared.message.FeedMessage.{FeedMessage}
use Rattle.feed_defs.specs.declared.history.Stored.{Stored}
use Rattle.feed_defs.specs.History.{Change, is_full, stamp_of, changes_in, changes_without, changes_with, entities_of, entities_after, entity_at}
use Rattle.feed_defs.proofs.Applied.{held_more}
use Rattle.entity_table.specs.declared.changes.ChangedTable.{ChangedTable}
use Rattle.feed_defs.proofs.Kept.{held_is}

-- what an entity changes
abbrev pub change_of : ℕ → Entity → Change
change_of stamp e = (e.id, record { entity = e; stamp = stamp })

-- what entities make of a table, one after another
abbrev pub after_each : ℕ → List Change → List Entity → List Change
after_each stamp table entities = fold changes_with table (map (change_of stamp) entities)

-- an entity that says that it is deleted takes its id away
pub taken : {E : Type 0} (r : Result ChangedTable E) (es : List Change) (id : List ℕ) (stored : Stored) (deleted : Bool) → id ≡ stored.entity.id → deleted ≡ unwrap_or stored.entity.is_deleted false → deleted ≡ true → IfOk r (λ changed. changed.table ≡ changes_without id es) → IfOk r (λ changed. changed.table ≡ changes_with es (stored.entity.id, stored))
taken (Ok changed) es id stored deleted own told gone e =
    e
    ∙ ap (λ i. changes_without i es) own
    ∙ ap (λ b. if not b then put (slice_cmp nat_cmp) stored.entity.id stored es else changes_without stored.entity.id es) (sym gone ∙ told)
taken (Err x) es id stored deleted own told gone e = e

-- what an id had that is the stored entity's
pub had : {E : Type 0} (r : Result ChangedTable E) (es : List Change) (id own : List ℕ) → id ≡ own → IfOk r (λ changed. changed.before ≡ find (slice_cmp nat_cmp) id es) → IfOk r (λ changed. changed.before ≡ find (slice_cmp nat_cmp) own es)
had (Ok changed) es id own same e = e ∙ ap (λ i. find (slice_cmp nat_cmp) i es) same
had (Err x) es id own same e = e

pub drop_past : {X : Type 0} (i : ℕ) (xs : List X) → length xs ≤ i → drop i xs ≡ []
drop_past zero [] h = refl
drop_past zero (x ∷ xs) h = absurd (omega arith)
drop_past (suc i) [] h = refl
drop_past (suc i) (x ∷ xs) h = drop_past i xs (omega arith)

-- a step takes the first of the entities that are left
pub stepped : (now next all : List Change) (stamp : ℕ) (e : Entity) (stored : Stored) (left rest : List Entity) → left ≡ e ∷ rest → stored ≡ record { entity = e; stamp = stamp } → next ≡ changes_with now (stored.entity.id, stored) → after_each stamp now left ≡ all → after_each stamp next rest ≡ all
stepped now next all stamp e stored left rest first made is so_far =
    ap (λ es. after_each stamp es rest) (is ∙ ap (λ (s : Stored). changes_with now (s.entity.id, s)) made)
    ∙ ap (after_each stamp now) (sym first)
    ∙ so_far

-- when no entity is left, the message is applied
pub change_end : (now start table : List Change) (stamp : ℕ) (m : FeedMessage) (items left : List Entity) → left ≡ [] → items ≡ m.entity → stamp ≡ stamp_of m → start ≡ (if is_full m then [] else table) → after_each stamp now left ≡ after_each stamp start items → now ≡ entities_after m table
unfolding entities_after
change_end now start table stamp m items left none all own begun so_far =
    ap (after_each stamp now) (sym none)
    ∙ so_far
    ∙ ap (after_each stamp start) all
    ∙ ap (λ s. after_each s start m.entity) own
    ∙ ap (λ es. fold changes_with es (changes_in m)) begun

-- the table that stands for the messages before stands for them and the message
pub stands_more : (next table : List Change) (m : FeedMessage) (ms : List FeedMessage) → next ≡ entities_after m table → table ≡ entities_of ms → next ≡ entities_of (ms ++ m ∷ [])
stands_more next table m ms is stood = is ∙ ap (entities_after m) stood ∙ sym (held_more ms m)

-- what a table that stands for messages has under an id is what they say of it last
pub said_is : (got : Option Stored) (table : List Change) (ms : List FeedMessage) (id : List ℕ) → got ≡ find (slice_cmp nat_cmp) id table → table ≡ entities_of ms → got ≡ entity_at ms id
said_is got table ms id found stood = found ∙ ap (find (slice_cmp nat_cmp) id) stood ∙ held_is ms id
