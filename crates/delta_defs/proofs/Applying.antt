-- The difference brings a combined feed from what it was to what it is.
use Rattle.std.proofs.Common.{◌≡◌, ℕ, zero, suc, ◌+◌, List, [], ◌∷◌, ◌++◌, map, length, Bool, true, false, cond, nat_eq, Option, Some, None, refl, sym, ap, ◌∙◌, subst, append_assoc, length-append, codes, arith}
use Rattle.std.specs.Prelude.{◌&&◌, T, filter, slice_get, slice_index_or, nat_le, if◌then◌else◌, IsTrue}
use Rattle.std.specs.List.{flat_map, filter_map, cons_option, list_all, AllByRecursion}
use Rattle.std.specs.Option.{option_map, option_and_then, option_map_or}
use Rattle.std.specs.Str.{bytes_eq}
use Rattle.std.specs.Ordering.{eq_by_cmp}
use Rattle.std.specs.FinMap.{find, is_sorted}
use Rattle.std.proofs.lemmas.Bool.{eqb-true, and_parts}
use Rattle.std.proofs.lemmas.List.{map-append}
use Rattle.std.proofs.lemmas.Map.Text.{is_eq-slice_cmp}
use Rattle.rt_types.specs.declared.message.Entity.{Entity}
use Rattle.feed_defs.specs.declared.history.Stored.{Stored}
use Rattle.feed_defs.specs.Combined.{entity_under_feed, gone}
use Rattle.feed_defs.specs.Renamed.{renamed_entity}
use Rattle.feed_defs.specs.History.{Change, changes_by_id}
use Rattle.feed_defs.proofs.Kept.{id_cmp, left, right, listed_sorted}
use Rattle.sched_types.specs.declared.plans.NamedFeed.{NamedFeed}
use Rattle.sched_types.specs.Schedules.{Schedules, AreSchedules}
use Rattle.text_defs.specs.Names.{is_name_byte, is_name}
use Rattle.board_defs.specs.Feed.{combined_entity, prefix_of}
use Rattle.board_defs.specs.Feeds.{HubFeed, feeds_from, is_of_schedule, schedule_feeds, held_as, held_by, held_in}
use Rattle.board_defs.specs.Fold.{FeedFold}
use Rattle.board_defs.specs.Views.{no_fold}
use Rattle.delta_defs.specs.Applied.{BringsTo, combined_message}
use Rattle.delta_defs.specs.Changes.{is_same, combined_of, change_sent, held_under, feed_changes, held_before, changes}
use Rattle.delta_defs.proofs.IdOrder.{same_id, equal, find_below, or_else, found_alone, found_either}
use Rattle.delta_defs.proofs.Told.{if_under, told, standing, or_else-none, told-append, got_one, got_two, got_same}

-- ---- ids under a feed's name

-- what is behind the name and the colon; the colon is 58
abbrev pub behind : List ℕ → List ℕ → Option (List ℕ)
behind [] [] = None
behind [] (z ∷ q) = if nat_eq z 58 then Some q else None
behind (a ∷ name) [] = None
behind (a ∷ name) (z ∷ q) = if nat_eq z a then behind name q else None

id_behind : (name q y : List ℕ) → bytes_eq q (name ++ codes ":" ++ y) ≡ option_map_or (λ x. bytes_eq x y) (behind name q) false
id_behind [] [] y = refl
id_behind [] (z ∷ q) y = by_first (nat_eq z 58)
  where
    by_first : (b : Bool) → (b && bytes_eq q y) ≡ option_map_or (λ x. bytes_eq x y) (if b then Some q else None) false
    by_first true = refl
    by_first false = refl
id_behind (a ∷ name) [] y = refl
id_behind (a ∷ name) (z ∷ q) y = by_first (nat_eq z a) (id_behind name q y)
  where
    by_first : (b : Bool) → bytes_eq q (name ++ codes ":" ++ y) ≡ option_map_or (λ x. bytes_eq x y) (behind name q) false
        → (b && bytes_eq q (name ++ codes ":" ++ y)) ≡ option_map_or (λ x. bytes_eq x y) (if b then behind name q else None) false
    by_first true rest = rest
    by_first false rest = refl

-- ---- what a list of ids says

-- an entity for each id, under the name
module _ (name : List ℕ) (g : List ℕ → Stored → Option Entity) where
  abbrev IsNamed : Change → Type 0
  IsNamed c = (e : Entity) → g c.0 c.1 ≡ Some e → e.id ≡ name ++ codes ":" ++ c.0

  one_told : (q : List ℕ) (c : Change) → IsNamed c → option_and_then (λ e. if_under q e) (g c.0 c.1) ≡ option_and_then (λ x. if bytes_eq x c.0 then g c.0 c.1 else None) (behind name q)
  one_told q c named = by_answer (g c.0 c.1) refl
    where
      by_place : (e : Entity) (o : Option (List ℕ)) → (if option_map_or (λ x. bytes_eq x c.0) o false then Some e else None) ≡ option_and_then (λ x. if bytes_eq x c.0 then Some e else None) o
      by_place e None = refl
      by_place e (Some x) = refl

      same_none : (b : Bool) → ◌≡◌ {A = Option Entity} None (if b then None else None)
      same_none true = refl
      same_none false = refl

      nothing : (o : Option (List ℕ)) → ◌≡◌ {A = Option Entity} None (option_and_then (λ x. if bytes_eq x c.0 then None else None) o)
      nothing None = refl
      nothing (Some x) = same_none (bytes_eq x c.0)

      by_answer : (a : Option Entity) → g c.0 c.1 ≡ a → option_and_then (λ e. if_under q e) a ≡ option_and_then (λ x. if bytes_eq x c.0 then a else None) (behind name q)
      by_answer None is = nothing (behind name q)
      by_answer (Some e) is = ap (λ b. if b then Some e else None) (ap (bytes_eq q) (named e is) ∙ id_behind name q c.0) ∙ by_place e (behind name q)

  told_more : (q : List ℕ) (a : Option Entity) (es : List Entity) → told q (cons_option a es) ≡ or_else (told q es) (option_and_then (λ e. if_under q e) a)
  told_more q None es = sym (or_else-none (told q es))
  told_more q (Some e) es = refl

  -- of ids in order each says its own
  pub told_each : (q : List ℕ) (es : List Change) → T (is_sorted id_cmp es) → AllByRecursion IsNamed es
      → told q (filter_map (λ c. g c.0 c.1) es) ≡ option_and_then (λ x. option_and_then (g x) (find id_cmp x es)) (behind name q)
  told_each q [] h named = nowhere (behind name q)
    where
      nowhere : (o : Option (List ℕ)) → ◌≡◌ {A = Option Entity} None (option_and_then (λ x. option_and_then (g x) None) o)
      nowhere None = refl
      nowhere (Some x) = refl
  told_each q (c ∷ es) h named =
      told_more q (g c.0 c.1) (filter_map (λ x. g x.0 x.1) es)
      ∙ ap (or_else (told q (filter_map (λ x. g x.0 x.1) es))) (one_told q c named.0)
      ∙ ap (λ o. or_else o (option_and_then (λ x. if bytes_eq x c.0 then g c.0 c.1 else None) (behind name q))) (told_each q es (right _ _ h) named.1)
      ∙ step (behind name q)
    where
      by_tie : (x : List ℕ) (b : Bool) → bytes_eq x c.0 ≡ b → or_else (option_and_then (g x) (find id_cmp x es)) (if b then g c.0 c.1 else None) ≡ option_and_then (g x) (cond b (Some c.1) (find id_cmp x es))
      by_tie x true tie =
          let same : x ≡ c.0 = same_id x c.0 (equal _ (is_eq-slice_cmp x c.0 ∙ tie)) in
          ap (λ o. or_else (option_and_then (g x) o) (g c.0 c.1)) (ap (λ k. find id_cmp k es) same ∙ find_below c.0 es (left _ _ h))
          ∙ ap (λ k. g k c.1) (sym same)
      by_tie x false tie = or_else-none (option_and_then (g x) (find id_cmp x es))

      step : (o : Option (List ℕ)) → or_else (option_and_then (λ x. option_and_then (g x) (find id_cmp x es)) o) (option_and_then (λ x. if bytes_eq x c.0 then g c.0 c.1 else None) o)
          ≡ option_and_then (λ x. option_and_then (g x) (cond (eq_by_cmp id_cmp x c.0) (Some c.1) (find id_cmp x es))) o
      step None = refl
      step (Some x) = by_tie x (bytes_eq x c.0) refl ∙ ap (λ b. option_and_then (g x) (cond b (Some c.1) (find id_cmp x es))) (sym (is_eq-slice_cmp x c.0))

-- ---- one feed

abbrev pub IsKeyed : Change → Type 0
IsKeyed c = c.1.entity.id ≡ c.0

-- an entity of a feed, as the combined feed has it
abbrev pub named_one : List ℕ → HubFeed → Stored → Entity
named_one prefix one stored = entity_under_feed one.feed.name (renamed_entity prefix stored.entity)

some_is : {A : Type 0} (a b : A) → Some a ≡ Some b → a ≡ b
some_is a b e = cc

none_some : {A : Type 0} (a : A) → None ≡ Some a → ⊥
none_some a e = cc

some_id : (a b : Entity) → Some a ≡ Some b → b.id ≡ a.id
some_id a b e = ap (λ (x : Entity). x.id) (sym (some_is a b e))

-- what is found under an id has it
pub found_keyed : (id : List ℕ) (s : Stored) (es : List Change) → AllByRecursion IsKeyed es → find id_cmp id es ≡ Some s → s.entity.id ≡ id
found_keyed id s [] keyed found = absurd (none_some s found)
found_keyed id s (c ∷ es) keyed found = by_tie (eq_by_cmp id_cmp id c.0) refl found (found_keyed id s es keyed.1)
  where
    by_tie : (b : Bool) → eq_by_cmp id_cmp id c.0 ≡ b → cond b (Some c.1) (find id_cmp id es) ≡ Some s → (find id_cmp id es ≡ Some s → s.entity.id ≡ id) → s.entity.id ≡ id
    by_tie true tie is rest = ap (λ (x : Stored). x.entity.id) (sym (some_is c.1 s is)) ∙ keyed.0 ∙ sym (same_id id c.0 (equal _ tie))
    by_tie false tie is rest = rest is

map_is : (f : Stored → Entity) (es : List Change) → map (λ c. f c.1) es ≡ filter_map (λ c. Some (f c.1)) es
map_is f [] = refl
map_is f (c ∷ es) = ap (λ xs. f c.1 ∷ xs) (map_is f es)

ids_is : (f : List ℕ → Option Entity) (es : List Change) → filter_map f (map (λ c. c.0) es) ≡ filter_map (λ c. f c.0) es
ids_is f [] = refl
ids_is f (c ∷ es) = ap (cons_option (f c.0)) (ids_is f es)

module _ (prefix : List ℕ) (one : HubFeed) where
  held_told : (q : List ℕ) (es : List Change) → T (is_sorted id_cmp es) → AllByRecursion IsKeyed es
      → told q (map (λ c. named_one prefix one c.1) es) ≡ option_and_then (λ x. option_map (named_one prefix one) (find id_cmp x es)) (behind one.feed.name q)
  held_told q es h keyed =
      ap (told q) (map_is (named_one prefix one) es)
      ∙ told_each one.feed.name (λ id stored. Some (named_one prefix one stored)) q es h (named es keyed)
      ∙ ap (λ (f : List ℕ → Option Entity). option_and_then f (behind one.feed.name q)) (λ i x. mapped (find id_cmp x es) i)
    where
      mapped : (o : Option Stored) → option_and_then (λ stored. Some (named_one prefix one stored)) o ≡ option_map (named_one prefix one) o
      mapped None = refl
      mapped (Some s) = refl

      named : (xs : List Change) → AllByRecursion IsKeyed xs → AllByRecursion (λ c. (e : Entity) → Some (named_one prefix one c.1) ≡ Some e → e.id ≡ one.feed.name ++ codes ":" ++ c.0) xs
      named [] each = tt
      named (c ∷ xs) each = ((λ e is. some_id (named_one prefix one c.1) e is ∙ ap (λ id. one.feed.name ++ codes ":" ++ id) each.0), named xs each.1)

  sent_named : (was is : List Change) → AllByRecursion IsKeyed is → (id : List ℕ) (e : Entity) → change_sent prefix one id (held_under id was) (held_under id is) ≡ Some e → e.id ≡ one.feed.name ++ codes ":" ++ id
  sent_named was is keyed id e sent = by_cases (held_under id was) (held_under id is) refl sent
    where
      if_new : (b : Bool) (s : Stored) → (if b then None else Some (combined_of prefix one id s)) ≡ Some e → e.id ≡ one.feed.name ++ codes ":" ++ s.entity.id
      if_new true s now = absurd (none_some e now)
      if_new false s now = some_id (combined_of prefix one id s) e now

      by_cases : (w i : Option Stored) → held_under id is ≡ i → change_sent prefix one id w i ≡ Some e → e.id ≡ one.feed.name ++ codes ":" ++ id
      by_cases None None at now = absurd (none_some e now)
      by_cases (Some w) None at now = some_id (entity_under_feed one.feed.name (gone id)) e now
      by_cases None (Some s) at now = some_id (combined_of prefix one id s) e now ∙ ap (λ x. one.feed.name ++ codes ":" ++ x) (found_keyed id s is keyed at)
      by_cases (Some w) (Some s) at now =
          if_new (is_same (combined_of prefix one id w) (combined_of prefix one id s)) s now ∙ ap (λ x. one.feed.name ++ codes ":" ++ x) (found_keyed id s is keyed at)

  -- of an id that is in neither nothing is sent, so each id says what is sent of it
  sent_told : (q : List ℕ) (was is : List Change) → AllByRecursion IsKeyed is
      → told q (feed_changes prefix was (record one { fold = record one.fold { entities = is } })) ≡ option_and_then (λ x. change_sent prefix one x (held_under x was) (held_under x is)) (behind one.feed.name q)
  sent_told q was is keyed =
      let f : List ℕ → Option Entity = λ id. change_sent prefix one id (held_under id was) (held_under id is) in
      let all = changes_by_id (was ++ is) in
      ap (told q) (ids_is f all)
      ∙ told_each one.feed.name (λ id stored. f id) q all (listed_sorted (was ++ is)) (named all)
      ∙ ap (λ (h : List ℕ → Option Entity). option_and_then h (behind one.feed.name q)) (λ i x. present x i)
    where
      named : (xs : List Change) → AllByRecursion (λ c. (e : Entity) → change_sent prefix one c.0 (held_under c.0 was) (held_under c.0 is) ≡ Some e → e.id ≡ one.feed.name ++ codes ":" ++ c.0) xs
      named [] = tt
      named (c ∷ xs) = (sent_named was is keyed c.0, named xs)

      by_found : (x : List ℕ) (w i : Option Stored) → option_and_then (λ stored. change_sent prefix one x w i) (or_else w i) ≡ change_sent prefix one x w i
      by_found x None None = refl
      by_found x (Some s) i = refl
      by_found x None (Some s) = refl

      present : (x : List ℕ) → option_and_then (λ stored. change_sent prefix one x (held_under x was) (held_under x is)) (find id_cmp x (changes_by_id (was ++ is))) ≡ change_sent prefix one x (held_under x was) (held_under x is)
      present x =
          ap (λ o. option_and_then (λ stored. change_sent prefix one x (held_under x was) (held_under x is)) o) (found_alone x (was ++ is) ∙ found_either x was is)
          ∙ by_found x (held_under x was) (held_under x is)

  -- two entities that are written alike are one
  abbrev pub AreTold : List Change → List Change → Type 0
  AreTold was is = (id : List ℕ) (w s : Stored) → held_under id was ≡ Some w → held_under id is ≡ Some s → is_same (named_one prefix one w) (named_one prefix one s) ≡ true → named_one prefix one w ≡ named_one prefix one s

  feed_brought : (q : List ℕ) (was is : List Change) → T (is_sorted id_cmp was) → AllByRecursion IsKeyed was → T (is_sorted id_cmp is) → AllByRecursion IsKeyed is → AreTold was is
      → standing (or_else (told q (feed_changes prefix was (record one { fold = record one.fold { entities = is } }))) (told q (map (λ c. named_one prefix one c.1) was))) ≡ standing (told q (map (λ c. named_one prefix one c.1) is))
  feed_brought q was is was_sorted was_keyed is_sorted_too is_keyed same =
      (λ i. standing (or_else (sent_told q was is is_keyed i) (held_told q was was_sorted was_keyed i)))
      ∙ by_place (behind one.feed.name q)
      ∙ ap standing (sym (held_told q is is_sorted_too is_keyed))
    where
      if_same : (b : Bool) (w s : Stored) → (b ≡ true → named_one prefix one w ≡ named_one prefix one s) → standing (or_else (if b then None else Some (named_one prefix one s)) (Some (named_one prefix one w))) ≡ standing (Some (named_one prefix one s))
      if_same true w s alike = ap (λ e. standing (Some e)) (alike refl)
      if_same false w s alike = refl

      by_cases : (x : List ℕ) (w i : Option Stored) → held_under x was ≡ w → held_under x is ≡ i → standing (or_else (change_sent prefix one x w i) (option_map (named_one prefix one) w)) ≡ standing (option_map (named_one prefix one) i)
      by_cases x None None at now = refl
      by_cases x (Some w) None at now = refl
      by_cases x None (Some s) at now = ap standing (or_else-none (Some (named_one prefix one s)))
      by_cases x (Some w) (Some s) at now = if_same (is_same (named_one prefix one w) (named_one prefix one s)) w s (same x w s at now)

      by_place : (o : Option (List ℕ)) → standing (or_else (option_and_then (λ x. change_sent prefix one x (held_under x was) (held_under x is)) o) (option_and_then (λ x. option_map (named_one prefix one) (find id_cmp x was)) o))
          ≡ standing (option_and_then (λ x. option_map (named_one prefix one) (find id_cmp x is)) o)
      by_place None = refl
      by_place (Some x) = by_cases x (held_under x was) (held_under x is) refl refl

-- ---- names

abbrev pub HasNoColon : List ℕ → Type 0
HasNoColon name = AllByRecursion (λ b. nat_eq b 58 ≡ false) name

-- an id is under one name alone
names_apart : (a b q x : List ℕ) → HasNoColon a → HasNoColon b → (a ≡ b → ⊥) → behind a q ≡ Some x → behind b q ≡ None
names_apart [] [] q x plain other apart at = absurd (apart refl)
names_apart [] (y ∷ b) [] x plain other apart at = absurd (none_some x at)
names_apart [] (y ∷ b) (z ∷ q) x plain other apart at = by_first (nat_eq z y) refl
  where
    by_first : (t : Bool) → nat_eq z y ≡ t → (if t then behind b q else None) ≡ None
    by_first true e = absurd (none_some x (ap (λ t. if t then Some q else None) (sym (ap (λ n. nat_eq n 58) (eqb-true z y e) ∙ other.0)) ∙ at))
    by_first false e = refl
names_apart (w ∷ a) b [] x plain other apart at = absurd (none_some x at)
names_apart (w ∷ a) [] (z ∷ q) x plain other apart at = by_first (nat_eq z w) refl at
  where
    by_first : (t : Bool) → nat_eq z w ≡ t → (if t then behind a q else None) ≡ Some x → (if nat_eq z 58 then Some q else None) ≡ None
    by_first true e is = ap (λ t. if t then Some q else None) (ap (λ n. nat_eq n 58) (eqb-true z w e) ∙ plain.0)
    by_first false e is = absurd (none_some x is)
names_apart (w ∷ a) (y ∷ b) (z ∷ q) x plain other apart at = by_both (nat_eq z w) refl (nat_eq z y) refl at (names_apart a b q x plain.1 other.1)
  where
    by_both : (t : Bool) → nat_eq z w ≡ t → (u : Bool) → nat_eq z y ≡ u → (if t then behind a q else None) ≡ Some x → ((a ≡ b → ⊥) → behind a q ≡ Some x → behind b q ≡ None) → (if u then behind b q else None) ≡ None
    by_both t e false f is rest = refl
    by_both false e true f is rest = absurd (none_some x is)
    by_both true e true f is rest = rest (λ same. apart (λ i. (sym (eqb-true z w e) ∙ eqb-true z y f) i ∷ same i)) is

-- ---- all feeds

-- no two have one name
abbrev pub AreApart : List HubFeed → Type 0
AreApart [] = Unit {0}
AreApart (one ∷ feeds) = AllByRecursion (λ other. one.feed.name ≡ other.feed.name → ⊥) feeds × AreApart feeds

module _ (prefix : List ℕ) (old : List FeedFold) where
  abbrev sent_of : HubFeed → List Entity
  sent_of one = feed_changes prefix (held_before old one) one

  abbrev was_of : HubFeed → List Entity
  was_of one = map (λ c. named_one prefix one c.1) (held_before old one)

  abbrev is_of : HubFeed → List Entity
  is_of one = map (λ c. named_one prefix one c.1) one.fold.entities

  -- what a feed held and holds is in order, and what is written alike is one
  record IsReady (one : HubFeed) : Type 0 where
    was_sorted : T (is_sorted id_cmp (held_before old one))
    was_keyed : AllByRecursion IsKeyed (held_before old one)
    is_sorted_too : T (is_sorted id_cmp one.fold.entities)
    is_keyed : AllByRecursion IsKeyed one.fold.entities
    alike : AreTold prefix one (held_before old one) one.fold.entities
    plain : HasNoColon one.feed.name

  module _ (q : List ℕ) where
    none_sent : (one : HubFeed) → IsReady one → behind one.feed.name q ≡ None → told q (sent_of one) ≡ None
    none_sent one ready e = sent_told prefix one q (held_before old one) one.fold.entities ready.is_keyed ∙ ap (option_and_then (λ x. change_sent prefix one x (held_under x (held_before old one)) (held_under x one.fold.entities))) e

    none_was : (one : HubFeed) → IsReady one → behind one.feed.name q ≡ None → told q (was_of one) ≡ None
    none_was one ready e = held_told prefix one q (held_before old one) ready.was_sorted ready.was_keyed ∙ ap (option_and_then (λ x. option_map (named_one prefix one) (find id_cmp x (held_before old one)))) e

    none_is : (one : HubFeed) → IsReady one → behind one.feed.name q ≡ None → told q (is_of one) ≡ None
    none_is one ready e = held_told prefix one q one.fold.entities ready.is_sorted_too ready.is_keyed ∙ ap (option_and_then (λ x. option_map (named_one prefix one) (find id_cmp x one.fold.entities))) e

    none_in : (f : HubFeed → List Entity) → ((one : HubFeed) → IsReady one → behind one.feed.name q ≡ None → told q (f one) ≡ None) → (feeds : List HubFeed) → AllByRecursion IsReady feeds → AllByRecursion (λ one. behind one.feed.name q ≡ None) feeds → told q (flat_map f feeds) ≡ None
    none_in f each [] ready elsewhere = refl
    none_in f each (one ∷ feeds) ready elsewhere =
        told-append q (f one) (flat_map f feeds)
        ∙ (λ i. or_else (none_in f each feeds ready.1 elsewhere.1 i) (each one ready.0 elsewhere.0 i))

    elsewhere_all : (one : HubFeed) (x : List ℕ) → IsReady one → behind one.feed.name q ≡ Some x → (feeds : List HubFeed) → AllByRecursion IsReady feeds → AllByRecursion (λ other. one.feed.name ≡ other.feed.name → ⊥) feeds → AllByRecursion (λ other. behind other.feed.name q ≡ None) feeds
    elsewhere_all one x ready at [] each apart = tt
    elsewhere_all one x ready at (other ∷ feeds) each apart = (names_apart one.feed.name other.feed.name q x ready.plain each.0.plain apart.0 at, elsewhere_all one x ready at feeds each.1 apart.1)

    all_brought : (feeds : List HubFeed) → AllByRecursion IsReady feeds → AreApart feeds → standing (or_else (told q (flat_map sent_of feeds)) (told q (flat_map was_of feeds))) ≡ standing (told q (flat_map is_of feeds))
    all_brought [] ready apart = refl
    all_brought (one ∷ feeds) ready apart =
        (λ i. standing (or_else (told-append q (sent_of one) (flat_map sent_of feeds) i) (told-append q (was_of one) (flat_map was_of feeds) i)))
        ∙ by_place (behind one.feed.name q) refl (all_brought feeds ready.1 apart.1)
        ∙ ap standing (sym (told-append q (is_of one) (flat_map is_of feeds)))
      where
        by_place : (o : Option (List ℕ)) → behind one.feed.name q ≡ o → standing (or_else (told q (flat_map sent_of feeds)) (told q (flat_map was_of feeds))) ≡ standing (told q (flat_map is_of feeds))
            → standing (or_else (or_else (told q (flat_map sent_of feeds)) (told q (sent_of one))) (or_else (told q (flat_map was_of feeds)) (told q (was_of one)))) ≡ standing (or_else (told q (flat_map is_of feeds)) (told q (is_of one)))
        by_place None at rest =
            (λ i. standing (or_else (or_else (told q (flat_map sent_of feeds)) (none_sent one ready.0 at i)) (or_else (told q (flat_map was_of feeds)) (none_was one ready.0 at i))))
            ∙ (λ i. standing (or_else (or_else-none (told q (flat_map sent_of feeds)) i) (or_else-none (told q (flat_map was_of feeds)) i)))
            ∙ rest
            ∙ sym ((λ i. standing (or_else (told q (flat_map is_of feeds)) (none_is one ready.0 at i))) ∙ ap standing (or_else-none (told q (flat_map is_of feeds))))
        by_place (Some x) at rest =
            let elsewhere = elsewhere_all one x ready.0 at feeds ready.1 apart.0 in
            (λ i. standing (or_else (or_else (none_in sent_of none_sent feeds ready.1 elsewhere i) (told q (sent_of one))) (or_else (none_in was_of none_was feeds ready.1 elsewhere i) (told q (was_of one)))))
            ∙ feed_brought prefix one q (held_before old one) one.fold.entities ready.0.was_sorted ready.0.was_keyed ready.0.is_sorted_too ready.0.is_keyed ready.0.alike
            ∙ ap (λ o. standing (or_else o (told q (is_of one)))) (sym (none_in is_of none_is feeds ready.1 elsewhere))

-- ---- the combined feeds

module _ (prefix : List ℕ) (plan : ℕ) where
  each_is : (one : HubFeed) (es : List Change) → map (combined_entity prefix) (map (held_as one) es) ≡ map (λ c. named_one prefix one c.1) es
  each_is one [] = refl
  each_is one (c ∷ es) = ap (λ xs. named_one prefix one c.1 ∷ xs) (each_is one es)

  now_is : (old : List FeedFold) (feeds : List HubFeed) → map (combined_entity prefix) (held_in feeds) ≡ flat_map (is_of prefix old) feeds
  now_is old [] = refl
  now_is old (one ∷ feeds) = map-append (combined_entity prefix) (held_by one) (held_in feeds) ∙ (λ i. each_is one one.fold.entities i ++ now_is old feeds i)

  at_seam : (front : List FeedFold) (first : ℕ) (x : FeedFold) (more : List FeedFold) → length front ≡ first → slice_index_or (front ++ x ∷ more) first no_fold ≡ x
  at_seam front first x more e = ap (λ n. slice_index_or (front ++ x ∷ more) n no_fold) (sym e) ∙ here x more front
    where
      here : (y : FeedFold) (ys xs : List FeedFold) → slice_index_or (xs ++ y ∷ ys) (length xs) no_fold ≡ y
      here y ys [] = refl
      here y ys (z ∷ xs) = here y ys xs

  was_is : (first : ℕ) (feeds : List NamedFeed) (front olds news : List FeedFold) → length front ≡ first → length olds ≡ length news
      → map (combined_entity prefix) (held_in (filter (is_of_schedule plan) (feeds_from first feeds olds))) ≡ flat_map (was_of prefix (front ++ olds)) (filter (is_of_schedule plan) (feeds_from first feeds news))
  was_is first [] front olds news e f = refl
  was_is first (feed ∷ feeds) front [] [] e f = refl
  was_is first (feed ∷ feeds) front [] (n ∷ news) e f = absurd (omega (arith, f))
  was_is first (feed ∷ feeds) front (o ∷ olds) [] e f = absurd (omega (arith, f))
  was_is first (feed ∷ feeds) front (o ∷ olds) (n ∷ news) e f =
      chosen (nat_eq feed.plan plan)
      (was_is (first + 1) feeds (front ++ o ∷ []) olds news (length-append front (o ∷ []) ∙ ap (λ k. k + 1) e) (omega (arith, f))
      ∙ ap (λ folds. flat_map (was_of prefix folds) (filter (is_of_schedule plan) (feeds_from (first + 1) feeds news))) (append_assoc front (o ∷ []) olds))
    where
      was : HubFeed
      was = record { number = first; feed = feed; fold = o }

      is : HubFeed
      is = record { number = first; feed = feed; fold = n }

      before : List HubFeed
      before = filter (is_of_schedule plan) (feeds_from (first + 1) feeds olds)

      after : List HubFeed
      after = filter (is_of_schedule plan) (feeds_from (first + 1) feeds news)

      all : List FeedFold
      all = front ++ o ∷ olds

      chosen : (b : Bool) → map (combined_entity prefix) (held_in before) ≡ flat_map (was_of prefix all) after → map (combined_entity prefix) (held_in (cond b (was ∷ before) before)) ≡ flat_map (was_of prefix all) (cond b (is ∷ after) after)
      chosen true rest =
          map-append (combined_entity prefix) (held_by was) (held_in before)
          ∙ (λ i. (each_is was o.entities ∙ ap (λ (fold : FeedFold). map (λ c. named_one prefix is c.1) fold.entities) (sym (at_seam front first o olds e))) i ++ rest i)
      chosen false rest = rest

-- ---- what is true of each feed

-- what a feed holds is in order, each entity under its own id
abbrev pub IsTable : FeedFold → Type 0
IsTable fold = T (is_sorted id_cmp fold.entities) × AllByRecursion IsKeyed fold.entities

pub at_number : (P : FeedFold → Type 0) → P no_fold → (folds : List FeedFold) → AllByRecursion P folds → (i : ℕ) → P (slice_index_or folds i no_fold)
at_number P none [] each zero = none
at_number P none [] each (suc i) = none
at_number P none (fold ∷ folds) each zero = each.0
at_number P none (fold ∷ folds) each (suc i) = at_number P none folds each.1 i

module _ (plan : ℕ) where
  pub each_feed : (P : NamedFeed → Type 0) (first : ℕ) (feeds : List NamedFeed) (folds : List FeedFold) → AllByRecursion P feeds → AllByRecursion (λ one. P one.feed) (filter (is_of_schedule plan) (feeds_from first feeds folds))
  each_feed P first [] folds each = tt
  each_feed P first (feed ∷ feeds) [] each = tt
  each_feed P first (feed ∷ feeds) (fold ∷ folds) each = chosen (nat_eq feed.plan plan) (each_feed P (first + 1) feeds folds each.1)
    where
      others : List HubFeed
      others = filter (is_of_schedule plan) (feeds_from (first + 1) feeds folds)

      chosen : (b : Bool) → AllByRecursion (λ one. P one.feed) others → AllByRecursion (λ one. P one.feed) (cond b (record { number = first; feed = feed; fold = fold } ∷ others) others)
      chosen true rest = (each.0, rest)
      chosen false rest = rest

  pub each_fold : (P : FeedFold → Type 0) (first : ℕ) (feeds : List NamedFeed) (folds : List FeedFold) → AllByRecursion P folds → AllByRecursion (λ one. P one.fold) (filter (is_of_schedule plan) (feeds_from first feeds folds))
  each_fold P first [] folds each = tt
  each_fold P first (feed ∷ feeds) [] each = tt
  each_fold P first (feed ∷ feeds) (fold ∷ folds) each = chosen (nat_eq feed.plan plan) (each_fold P (first + 1) feeds folds each.1)
    where
      others : List HubFeed
      others = filter (is_of_schedule plan) (feeds_from (first + 1) feeds folds)

      chosen : (b : Bool) → AllByRecursion (λ one. P one.fold) others → AllByRecursion (λ one. P one.fold) (cond b (record { number = first; feed = feed; fold = fold } ∷ others) others)
      chosen true rest = (each.0, rest)
      chosen false rest = rest

  abbrev AreNamedApart : List NamedFeed → Type 0
  AreNamedApart [] = Unit {0}
  AreNamedApart (feed ∷ feeds) = AllByRecursion (λ other. feed.name ≡ other.name → ⊥) feeds × AreNamedApart feeds

  apart_all : (first : ℕ) (feeds : List NamedFeed) (folds : List FeedFold) → AreNamedApart feeds → AreApart (filter (is_of_schedule plan) (feeds_from first feeds folds))
  apart_all first [] folds apart = tt
  apart_all first (feed ∷ feeds) [] apart = tt
  apart_all first (feed ∷ feeds) (fold ∷ folds) apart = chosen (nat_eq feed.plan plan) (apart_all (first + 1) feeds folds apart.1)
    where
      others : List HubFeed
      others = filter (is_of_schedule plan) (feeds_from (first + 1) feeds folds)

      chosen : (b : Bool) → AreApart others → AreApart (cond b (record { number = first; feed = feed; fold = fold } ∷ others) others)
      chosen true rest = (each_feed (λ other. feed.name ≡ other.name → ⊥) (first + 1) feeds folds apart.0, rest)
      chosen false rest = rest

  ready_all : (prefix : List ℕ) (old : List FeedFold) → AllByRecursion IsTable old → (feeds : List HubFeed) → AllByRecursion (λ one. HasNoColon one.feed.name) feeds → AllByRecursion (λ one. IsTable one.fold) feeds
      → AllByRecursion (λ one. AreTold prefix one (held_before old one) one.fold.entities) feeds → AllByRecursion (IsReady prefix old) feeds
  ready_all prefix old tables [] plain now alike = tt
  ready_all prefix old tables (one ∷ feeds) plain now alike = (
    record {
      was_sorted = (at_number IsTable (tt, tt) old tables one.number).0;
      was_keyed = (at_number IsTable (tt, tt) old tables one.number).1;
      is_sorted_too = now.0.0;
      is_keyed = now.0.1;
      alike = alike.0;
      plain = plain.0;
    },
    ready_all prefix old tables feeds plain.1 now.1 alike.1,
  )

-- ---- names of feeds

no_colon : (b : ℕ) → is_name_byte b ≡ true → nat_eq b 58 ≡ false
no_colon b e = by_test (nat_eq b 58) refl
  where
    by_test : (t : Bool) → nat_eq b 58 ≡ t → t ≡ false
    by_test true is = absurd (colon_none (subst (λ n. is_name_byte n ≡ true) (eqb-true b 58 is) e))
      where
        colon_none : is_name_byte 58 ≡ true → ⊥
        colon_none same = cc
    by_test false is = refl

plain_name : (name : List ℕ) → IsTrue (is_name name) → HasNoColon name
unfolding is_name
plain_name name e = each name (and_parts (nat_le 1 (length name) && nat_le (length name) 32) (list_all is_name_byte name) e).1
  where
    each : (bytes : List ℕ) → list_all is_name_byte bytes ≡ true → HasNoColon bytes
    each [] all = tt
    each (b ∷ bytes) all = let parts = and_parts (is_name_byte b) (list_all is_name_byte bytes) all in (no_colon b parts.0, each bytes parts.1)

by_index : {X : Type 0} (P : X → Type 0) (xs : List X) → ((i : ℕ) (x : X) → slice_get xs i ≡ Some x → P x) → AllByRecursion P xs
by_index P [] each = tt
by_index P (x ∷ xs) each = (each 0 x refl, by_index P xs (λ i y at. each (suc i) y at))

named_apart : (plan : ℕ) (feeds : List NamedFeed) → ((i j : ℕ) (p q : NamedFeed) → slice_get feeds i ≡ Some p → slice_get feeds j ≡ Some q → p.name ≡ q.name → i ≡ j) → AreNamedApart plan feeds
named_apart plan [] each = tt
named_apart plan (feed ∷ feeds) each = (
  by_index (λ other. feed.name ≡ other.name → ⊥) feeds (λ j other at same. suc_apart j (each 0 (suc j) feed other refl at same)),
  named_apart plan feeds (λ i j p q at there same. back i j (each (suc i) (suc j) p q at there same)),
)
  where
    suc_apart : (j : ℕ) → 0 ≡ suc j → ⊥
    suc_apart j e = omega (arith, e)

    back : (i j : ℕ) → suc i ≡ suc j → i ≡ j
    back i j e = omega (arith, e)

-- ---- the promise

-- Who has the combined feed of then and applies the difference has that of now, of the same feeds, where what is
-- written alike is one.
pub changes_bring : (schedules : Schedules) (plan : ℕ) (old new : List FeedFold) → AreSchedules schedules → length old ≡ length new → AllByRecursion IsTable old → AllByRecursion IsTable new
    → AllByRecursion (λ one. AreTold (prefix_of schedules plan) one (held_before old one) one.fold.entities) (schedule_feeds plan schedules.feeds new)
    → BringsTo schedules plan old new (changes schedules plan old new)
changes_bring schedules plan old new sound equal_count was now alike = record {
  entities = got_same (combined_message schedules plan old ∷ changes schedules plan old new ∷ []) (combined_message schedules plan new ∷ []) (λ q.
      got_two q (combined_message schedules plan old) (changes schedules plan old new) refl
      ∙ ap standing (
      told-append q (combined_message schedules plan old).entity (changes schedules plan old new).entity
      ∙ ap (λ es. or_else (told q (changes schedules plan old new).entity) (told q es)) (was_is prefix plan 0 schedules.feeds [] old new refl equal_count))
      ∙ all_brought prefix old q ours ready apart
      ∙ ap (λ es. standing (told q es)) (sym (now_is prefix plan old ours))
      ∙ sym (got_one q (combined_message schedules plan new)));
  stamp = refl;
}
  where
    prefix : List ℕ
    prefix = prefix_of schedules plan

    ours : List HubFeed
    ours = schedule_feeds plan schedules.feeds new

    ready : AllByRecursion (IsReady prefix old) ours
    ready =
        ready_all plan prefix old was ours
        (each_feed plan (λ feed. HasNoColon feed.name) 0 schedules.feeds new (by_index (λ feed. HasNoColon feed.name) schedules.feeds (λ i feed at. plain_name feed.name (sound.feed_named i feed at))))
        (each_fold plan IsTable 0 schedules.feeds new now) alike

    apart : AreApart ours
    apart = apart_all plan 0 schedules.feeds new (named_apart plan schedules.feeds sound.feeds_apart)
