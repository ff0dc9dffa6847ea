-- What is no newer than the stamp that a feed had was held then, so nothing of it is sent.
use Rattle.std.proofs.Common.{◌≡◌, ◌⊎◌, inl, inr, ℕ, List, [], ◌∷◌, ◌++◌, map, true, Option, Some, None, refl, sym, ap, ◌∙◌, append-nil, arith}
use Rattle.std.specs.Prelude.{Result, OnOk, if◌then◌else◌}
use Rattle.std.specs.List.{AllByRecursion}
use Rattle.std.specs.declared.alloc.AllocError.{AllocError}
use Rattle.std.proofs.lemmas.Bool.Decides.{nat_tests}
use Rattle.std.proofs.lemmas.Result.{on_ok_weaker}
use Rattle.std.proofs.lemmas.Slice.Eq.{bytes_eq-Decides}
use Rattle.rt_types.specs.declared.message.Entity.{Entity}
use Rattle.feed_defs.specs.declared.history.Stored.{Stored}
use Rattle.feed_defs.specs.History.{Change}
use Rattle.feed_defs.specs.Rows.{message_bytes}
use Rattle.feed_defs.specs.Table.{entity}
use Rattle.delta_defs.specs.Changes.{is_same, held_under, ids_of_both}
use Rattle.delta_defs.specs.OneHistory.{HoldsSince}
use Rattle.delta_feed.specs.Pairs.{IdPair, pair_under, pairs_of}
use Rattle.delta_feed.specs.Sent.{entity_sent, field_of, pair_field, named_entity, is_held_no_newer, is_no_newer, IsSettled, IsShort, AreShort, IsShortPair}

-- ---- what was held is not sent

some_is : (a b : Stored) → Some a ≡ Some b → a ≡ b
some_is a b e = cc

none_some : (a : Stored) → None ≡ Some a → ⊥
none_some a e = cc

is_itself : (e : Entity) → is_same e e ≡ true
is_itself e = (bytes_eq-Decides (message_bytes entity e) (message_bytes entity e)).1 refl

pub nothing_sent : (prefix name id : List ℕ) (was is : Option Stored) → was ≡ is → field_of (entity_sent prefix name id was is) ≡ []
nothing_sent prefix name id was None same = ap (λ o. field_of (entity_sent prefix name id o None)) same
nothing_sent prefix name id was (Some s) same =
    ap (λ o. field_of (entity_sent prefix name id o (Some s))) same
    ∙ ap (λ b. field_of (if b then None else Some (named_entity prefix name s.entity))) (is_itself (named_entity prefix name s.entity))

pub passed_over : (prefix name : List ℕ) (stamp : ℕ) (pair : IdPair) (before : List ℕ) → IsSettled stamp pair → true ≡ is_no_newer stamp pair → before ≡ before ++ pair_field prefix name pair
passed_over prefix name stamp pair before settled told =
    sym (append-nil before) ∙ ap (λ bytes. before ++ bytes) (sym (nothing_sent prefix name pair.id pair.was pair.is (settled (sym told))))

pub short_itself : (prefix name : List ℕ) (was is : Option Stored) → was ≡ is → AreShort prefix name was is
short_itself prefix name (Some w) (Some s) same = inl (some_is w s same)
short_itself prefix name (Some w) None same = tt
short_itself prefix name None is same = tt

pub passed_short : (prefix name : List ℕ) (stamp : ℕ) (pair : IdPair) → IsSettled stamp pair → true ≡ is_no_newer stamp pair → IsShortPair prefix name pair
passed_short prefix name stamp pair settled told = short_itself prefix name pair.was pair.is (settled (sym told))

-- what was compared is short
pub compared_short : (prefix name : List ℕ) (w s : Stored) (result : Result Unit AllocError) → OnOk result (IsShort (named_entity prefix name w.entity) × IsShort (named_entity prefix name s.entity)) → OnOk result (AreShort prefix name (Some w) (Some s))
compared_short prefix name w s result short = on_ok_weaker result (λ both. inr both) short

-- ---- each id

settled : (stamp : ℕ) (old new : List Change) → HoldsSince stamp old new → (id : List ℕ) (was is : Option Stored) → held_under id old ≡ was → held_under id new ≡ is → is_held_no_newer stamp was is ≡ true → was ≡ is
settled stamp old new holds id (Some w) (Some s) before now told = by_then (holds.was_held id s now (grind (arith, nat_tests)))
  where
    by_then : (held_under id old ≡ Some s) ⊎ (old ≡ []) → ◌≡◌ {A = Option Stored} (Some w) (Some s)
    by_then (inl there) = sym before ∙ there
    by_then (inr nothing) = absurd (none_some w (sym (ap (held_under id) nothing) ∙ before))
settled stamp old new holds id (Some w) None before now told = absurd (cc)
settled stamp old new holds id None is before now told = absurd (cc)

pub all_settled : (stamp : ℕ) (old new : List Change) → HoldsSince stamp old new → AllByRecursion (IsSettled stamp) (pairs_of old new)
all_settled stamp old new holds = each_id (ids_of_both old new)
  where
    each_id : (ids : List (List ℕ)) → AllByRecursion (IsSettled stamp) (map (pair_under old new) ids)
    each_id [] = tt
    each_id (id ∷ ids) = (settled stamp old new holds id (held_under id old) (held_under id new) refl refl, each_id ids)
