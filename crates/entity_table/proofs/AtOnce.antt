-- The table that entities make of nothing.
use Rattle.std.proofs.Common.{◌≡◌, ℕ, List, [], ◌∷◌, Bool, true, false, not, map, refl, sym, ap, ◌∙◌}
use Rattle.std.specs.Prelude.{◌||◌, fold, if◌then◌else◌}
use Rattle.std.specs.Cmp.Lexicographic.{slice_cmp}
use Rattle.std.specs.FinMap.{put}
use Rattle.std.specs.List.{list_any}
use Rattle.std.specs.Ordering.{nat_cmp}
use Rattle.rt_types.specs.declared.message.Entity.{Entity}
use Rattle.rt_types.specs.declared.message.FeedMessage.{FeedMessage}
use Rattle.feed_defs.specs.declared.history.Stored.{Stored}
use Rattle.feed_defs.specs.History.{Change, changes_in, changes_with, changes_without, entities_after, is_full, stamp_of}
use Rattle.keyed_lists.specs.Keyed.{by_key, with_item}
use Rattle.entity_table.specs.AllAtOnce.{and_stored, is_gone, with_stamp}
use Rattle.entity_table.proofs.TableLemmas.{after_each, change_end}

-- the id of what is stored
abbrev pub own_id : Stored → List ℕ
own_id stored = stored.entity.id

-- where none says that it is deleted, each takes the place of what its id had
puts_alone : (es : List Change) (all : List Stored) → list_any is_gone all ≡ false → fold (with_item (slice_cmp nat_cmp) own_id) es all ≡ fold and_stored es all
puts_alone es [] none = refl
puts_alone es (s ∷ ss) none = by_test (is_gone s) none (λ rest. puts_alone (put (slice_cmp nat_cmp) s.entity.id s es) ss rest) where
  by_test : (b : Bool) → (b || list_any is_gone ss) ≡ false
      → (list_any is_gone ss ≡ false → fold (with_item (slice_cmp nat_cmp) own_id) (put (slice_cmp nat_cmp) s.entity.id s es) ss ≡ fold and_stored (put (slice_cmp nat_cmp) s.entity.id s es) ss)
      → fold (with_item (slice_cmp nat_cmp) own_id) (put (slice_cmp nat_cmp) s.entity.id s es) ss ≡ fold and_stored (if not b then put (slice_cmp nat_cmp) s.entity.id s es else changes_without s.entity.id es) ss
  by_test true none rest = absurd (cc)
  by_test false none rest = rest none

pub table_listed : (list : List Change) (all given : List Stored) → given ≡ all → list_any is_gone given ≡ false → list ≡ by_key (slice_cmp nat_cmp) own_id all → list ≡ fold and_stored [] all
unfolding by_key
table_listed list all given same none is = is ∙ puts_alone [] all (ap (list_any is_gone) (sym same) ∙ none)

each_and : (stamp : ℕ) (es : List Change) (entities : List Entity) → fold and_stored es (map (with_stamp stamp) entities) ≡ after_each stamp es entities
each_and stamp es [] = refl
each_and stamp es (e ∷ rest) = each_and stamp (and_stored es (with_stamp stamp e)) rest

same_both : {X : Type 0} (x : X) (b : Bool) → x ≡ (if b then x else x)
same_both x true = refl
same_both x false = refl

-- they make the table after the message, where nothing was held before
pub first_is : (stamp : ℕ) (m : FeedMessage) (all : List Stored) → stamp ≡ stamp_of m → all ≡ map (with_stamp stamp) m.entity → fold and_stored [] all ≡ entities_after m []
first_is stamp m all own are =
    ap (fold and_stored []) are
    ∙ each_and stamp [] m.entity
    ∙ change_end (after_each stamp [] m.entity) [] [] stamp m m.entity [] refl refl own (same_both [] (is_full m)) refl

first_chosen : {X : Type 0} (b : Bool) (x y : X) → b ≡ true → (if b then x else x) ≡ (if b then x else y)
first_chosen true x y e = refl
first_chosen false x y e = absurd (cc)

-- after a whole data set, it does not matter what was held before
pub whole_after : (m : FeedMessage) (table : List Change) → is_full m ≡ true → entities_after m [] ≡ entities_after m table
unfolding entities_after
whole_after m table full =
    ap (λ start. fold changes_with start (changes_in m)) (first_chosen (is_full m) [] table full)
