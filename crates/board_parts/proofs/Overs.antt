-- What the feeds' updates come to stays kept for their timetables.
use Rattle.std.proofs.Common.{◌≡◌, ℕ, zero, suc, ◌<◌, List, [], ◌∷◌, length, map, set, get_or, replicate, Some, refl, sym, ap, subst, ◌∙◌, inl, inr, arith}
use Rattle.std.proofs.lemmas.Bool.{cases_eq}
use Rattle.std.proofs.lemmas.List.{get_or-set_same, get_or-set_other, length-map, map-set}
use Rattle.sched_types.specs.Schedules.{Schedules}
use Rattle.sched_types.specs.Timetable.{Timetable}
use Rattle.board_defs.specs.Views.{nothing_kept}
use Rattle.feed_view.specs.Kept.{FeedSeen, kept_of, nothing_seen, IsOver}
use Rattle.feed_view.proofs.Begun.{nothing_over}
use Rattle.board_parts.specs.Whole.{AreOver, timetable_of}

-- where no feed sent anything
all_nothing : (n feed : ℕ) → get_or (replicate n nothing_seen) feed nothing_seen ≡ nothing_seen
all_nothing zero feed = refl
all_nothing (suc n) zero = refl
all_nothing (suc n) (suc feed) = all_nothing n feed

pub first_over : (schedules : Schedules) (seen : List FeedSeen) (n : ℕ) → seen ≡ replicate n nothing_seen → AreOver schedules seen
first_over schedules seen n are = record {
  over = λ feed t of. subst (IsOver t) (sym (ap (λ xs. get_or xs feed nothing_seen) are ∙ all_nothing n feed)) (nothing_over t);
}

-- where one has another view
pub with_over : (schedules : Schedules) (seen : List FeedSeen) (feed : ℕ) (view : FeedSeen) → AreOver schedules seen → feed < length seen
    → ((t : Timetable) → timetable_of schedules feed ≡ Some t → IsOver t view) → AreOver schedules (set seen feed view)
with_over schedules seen feed view are within over = record {
  over = λ other t of. elim (cases_eq other feed) [
    | inl same ↦ subst (IsOver t) (sym (ap (λ i. get_or (set seen feed view) i nothing_seen) same ∙ get_or-set_same seen feed view nothing_seen within)) (over t (sym (ap (timetable_of schedules) same) ∙ of))
    | inr apart ↦ subst (IsOver t) (sym (get_or-set_other seen feed other view nothing_seen apart)) (are.over other t of)
  ];
}

module _ {A : Type 0} (value : A → FeedSeen) (items old : List A) (one : A) (view : FeedSeen) (plans same : Schedules) (feed : ℕ) where
  pub next_over : map value items ≡ map value old → value one ≡ view → same ≡ plans → AreOver plans (map value old) → feed < length (map (λ a. kept_of (value a)) old)
      → ((t : Timetable) → timetable_of plans feed ≡ Some t → IsOver t view) → AreOver same (map value (set items feed one))
  next_over shared at whole are within over =
      let size : length (map value old) ≡ length (map (λ a. kept_of (value a)) old) = length-map old value ∙ sym (length-map old (λ a. kept_of (value a))) in
      let is : map value (set items feed one) ≡ set (map value old) feed view = map-set value items feed one ∙ ap (λ xs. set xs feed (value one)) shared ∙ ap (set (map value old) feed) at in
      subst (λ s. AreOver s (map value (set items feed one))) (sym whole)
      (subst (AreOver plans) (sym is) (with_over plans (map value old) feed view are (omega (arith, size, within)) over))

-- what is kept of each
pub kept_each : {A : Type 0} (value : A → FeedSeen) (items : List A) → map (λ feed. kept_of (value feed)) items ≡ map kept_of (map value items)
kept_each value [] = refl
kept_each value (a ∷ items) = ap (λ xs. kept_of (value a) ∷ xs) (kept_each value items)

pub kept_nothing : (n : ℕ) → map kept_of (replicate n nothing_seen) ≡ replicate n nothing_kept
kept_nothing zero = refl
kept_nothing (suc n) = ap (λ xs. nothing_kept ∷ xs) (kept_nothing n)

-- the one of a number
pub at_number : {A B : Type 0} (value : A → B) (items : List A) (i : ℕ) (none : A) (other : B) → i < length items → value (get_or items i none) ≡ get_or (map value items) i other
at_number value [] i none other within = absurd (omega (arith, within))
at_number value (a ∷ items) zero none other within = refl
at_number value (a ∷ items) (suc i) none other within = at_number value items i none other (omega (arith, within))

pub kept_shared : {A : Type 0} (value : A → FeedSeen) (items old : List A) → map value items ≡ map value old → map (λ feed. kept_of (value feed)) items ≡ map (λ feed. kept_of (value feed)) old
kept_shared value items old shared = kept_each value items ∙ ap (map kept_of) shared ∙ sym (kept_each value old)

-- what each says
pub folds_each : {A : Type 0} (value : A → FeedSeen) (items : List A) → map (λ seen. seen.fold) (map value items) ≡ map (λ kept. kept.fold) (map (λ feed. kept_of (value feed)) items)
folds_each value [] = refl
folds_each value (a ∷ items) = ap (λ xs. (value a).fold ∷ xs) (folds_each value items)
