-- Which visits have an earlier twin.
use Rattle.std.proofs.Common.{◌≡◌, ℕ, zero, suc, ◌<◌, Bool, true, false, ◌&&◌, ◌||◌, ◌==◌, cond, List, [], ◌∷◌, length, take, get_or, refl, sym, ap, ◌∙◌, subst, arith, inl, inr}
use Rattle.std.specs.Prelude.{slice_get, Option, Some, is_some}
use Rattle.std.specs.List.{list_any}
use Rattle.std.specs.Ordering.{nat_cmp, eq_by_cmp}
use Rattle.std.specs.FinMap.Entries as entries
use Rattle.std.specs.FinMap.Entries.{put, find-put}
use Rattle.std.proofs.lemmas.Bool.{cases_lt}
use Rattle.std.proofs.lemmas.Bool.Decides.{nat_tests}
use Rattle.std.proofs.lemmas.Cmp.{nat_cmp_total}
use Rattle.std.proofs.lemmas.Option.{none-some as none_some, same_Some}
use Rattle.std.specs.declared.alloc.Global.{Global}
use Rattle.std.specs.declared.collections.BTreeMap.{BTreeMap}
use Rattle.std.specs.BTreeMap.{insert_entry, get}
use Rattle.sched_load.specs.declared.visits.Visit.{Visit}
use Rattle.sched_load.specs.Visits.{AreApart, FirstTwin, RisesByTrip, has_twin, is_twin_visit, key_of}
use Rattle.sched_load.proofs.PairLemmas.{any_false}
use Rattle.row_tables.proofs.Places.{inserted, looked_up}

-- one behind the greatest stop_sequence that each trip had so far
pub record AreEnds (ends : List ℕ) (visits : List Visit) (n trips : ℕ) : Type 0 where
  pub long : length ends ≡ trips
  pub rising : (i j : ℕ) (v w : Visit) → i < j → j < n → slice_get visits i ≡ Some v → slice_get visits j ≡ Some w → v.trip ≡ w.trip → v.sequence < w.sequence
  pub below : (k : ℕ) (v : Visit) → k < n → slice_get visits k ≡ Some v → v.sequence < get_or ends v.trip 0

same_visit : (visits : List Visit) (i j : ℕ) (v w : Visit) → i ≡ j → slice_get visits i ≡ Some v → slice_get visits j ≡ Some w → v ≡ w
same_visit visits i j v w e a b = same_Some _ _ (sym a ∙ ap (slice_get visits) e ∙ b)

pub any_on : {X : Type 0} (p q : X → Bool) (n : ℕ) (xs : List X) → ((k : ℕ) (x : X) → k < n → slice_get xs k ≡ Some x → p x ≡ q x) → list_any p (take n xs) ≡ list_any q (take n xs)
any_on p q zero xs h = refl
any_on p q (suc n) [] h = refl
any_on p q (suc n) (x ∷ xs) h = ap (λ b. b || list_any p (take n xs)) (h 0 x (omega arith) refl) ∙ ap (λ b. q x || b) (any_on p q n xs (λ k y l. h (suc k) y (omega (arith, l))))

any_more : {X : Type 0} (p : X → Bool) (n : ℕ) (xs : List X) (x : X) → slice_get xs n ≡ Some x → list_any p (take (suc n) xs) ≡ (list_any p (take n xs) || p x)
any_more p n [] x at = absurd (none_some x at)
any_more p zero (y ∷ ys) x at = grind arith
any_more p (suc n) (y ∷ ys) x at = grind (arith, any_more p n ys x at)

same_key : (t s u r : ℕ) → s < 4294967296 → r < 4294967296 → ((t == u) && (s == r)) ≡ (key_of t s == key_of u r)
same_key t s u r h g = grind (arith, nat_tests)

turned : (a b : ℕ) → eq_by_cmp nat_cmp a b ≡ (b == a)
turned a b = grind (arith, nat_tests)

abbrev pub visit_key : Visit → ℕ
visit_key v = key_of v.trip v.sequence

-- the keys of the first visits, of which none has an earlier twin
pub record AreSeen (seen : List (ℕ × Unit {0})) (visits : List Visit) (n : ℕ) : Type 0 where
  pub keys : (q : ℕ) → is_some (entries.find nat_cmp q seen) ≡ list_any (λ v. visit_key v == q) (take n visits)
  pub apart : AreApart visits n
  pub fit : (k : ℕ) (v : Visit) → k < n → slice_get visits k ≡ Some v → v.sequence < 4294967296

module _ (seen : List (ℕ × Unit {0})) (visits : List Visit) (n : ℕ) (visit : Visit) (h : AreSeen seen visits n) (at : slice_get visits n ≡ Some visit) (small : visit.sequence < 4294967296) where
  twin_found : has_twin visits n visit ≡ is_some (entries.find nat_cmp (visit_key visit) seen)
  twin_found =
      any_on (λ v. is_twin_visit v visit) (λ v. visit_key v == visit_key visit) n visits (λ k v l a. same_key v.trip v.sequence visit.trip visit.sequence (h.fit k v l a) small)
      ∙ sym (h.keys (visit_key visit))

  -- a key that was seen is that of the first twin
  pub seen_twin : (b : Bool) → is_some (entries.find nat_cmp (visit_key visit) seen) ≡ b → b ≡ true → FirstTwin visits (Some n)
  seen_twin b e f = (h.apart, (visit, at, twin_found ∙ e ∙ f))

  -- one more key
  pub seen_more : (after : List (ℕ × Unit {0})) (b : Bool) → is_some (entries.find nat_cmp (visit_key visit) seen) ≡ b → b ≡ false → after ≡ put nat_cmp (visit_key visit) tt seen → AreSeen after visits (suc n)
  seen_more after b e f is = record {
    keys = λ q.
        ap (λ es. is_some (entries.find nat_cmp q es)) is ∙ ap is_some (find-put nat_cmp nat_cmp_total q (visit_key visit) tt seen)
        ∙ either q (eq_by_cmp nat_cmp q (visit_key visit)) (turned q (visit_key visit))
        ∙ sym (any_more (λ v. visit_key v == q) n visits visit at);
    apart = record {
      apart = λ k w l a. elim (cases_lt k n) as (λ _. has_twin visits k w ≡ false) [
        | inl before ↦ h.apart.apart k w before a
        | inr here ↦ let k_is : n ≡ k = omega (arith, l, here) in subst (λ m. slice_get visits m ≡ Some w → has_twin visits m w ≡ false) k_is (λ b. ap (has_twin visits n) (same_visit visits n n w visit refl b at) ∙ twin_found ∙ e ∙ f) a
      ];
    };
    fit = λ k v l a. elim (cases_lt k n) as (λ _. v.sequence < 4294967296) [
      | inl before ↦ h.fit k v before a
      | inr here ↦ subst (λ z. z.sequence < 4294967296) (same_visit visits n k visit v (omega (arith, l, here)) at a) small
    ];
  }
    where
      either : (q : ℕ) (c : Bool) → c ≡ (visit_key visit == q) → is_some (cond c (Some tt) (entries.find nat_cmp q seen)) ≡ (list_any (λ v. visit_key v == q) (take n visits) || (visit_key visit == q))
      either q true e = or_true _ ∙ ap (λ b. list_any (λ v. visit_key v == q) (take n visits) || b) e
        where
          or_true : (b : Bool) → true ≡ (b || true)
          or_true true = refl
          or_true false = refl
      either q false e = h.keys q ∙ or_false _ ∙ ap (λ b. list_any (λ v. visit_key v == q) (take n visits) || b) e
        where
          or_false : (b : Bool) → b ≡ (b || false)
          or_false true = refl
          or_false false = refl

-- where the visits of each trip rise, no two are twins
pub rises_apart : (visits : List Visit) → RisesByTrip visits → AreApart visits (length visits)
rises_apart visits h = grind (arith, any_false, nat_tests)

-- what a map says of a key that is put into it
pub key_found : (seen : BTreeMap ℕ (Unit {0}) Global) (key : ℕ) (old : Option (Unit {0})) (b : Bool) → old ≡ get nat_cmp seen key → is_some old ≡ b → is_some (entries.find nat_cmp key seen.entries) ≡ b
key_found seen key old b is e = ap is_some (sym (looked_up nat_cmp key seen.entries) ∙ sym is) ∙ e

pub key_put : (before after : List (ℕ × Unit {0})) (key : ℕ) → after ≡ insert_entry nat_cmp before key tt → after ≡ put nat_cmp key tt before
key_put before after key is = is ∙ inserted nat_cmp key tt before
