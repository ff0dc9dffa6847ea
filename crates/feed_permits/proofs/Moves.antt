-- Each kind of step keeps the rule of the permits.
use Rattle.std.proofs.Common.{◌≡◌, ◌≢◌, ℕ, zero, suc, ◌+◌, ◌%◌, ◌<◌, ◌≤◌, ⊎_elim, Bool, true, false, List, [], ◌∷◌, ◌++◌, length, get_or, set, replicate, refl, sym, ap, ◌∙◌, subst, arith}
use Rattle.std.specs.Prelude.{◌^◌, slice_index, slice_set, nat_lt, if◌then◌else◌}
use Rattle.std.proofs.lemmas.Bool.{ltb-true, ltb-false}
use Rattle.std.proofs.Math.Nat.{mod-eq_of_lt}
use Rattle.std.proofs.Math.Dec.{lit<}
use Rattle.std.proofs.lemmas.List.{set-get_or, get_or-set_same, get_or-set_other, length-set, length-replicate}
use native.Mathlib.Decide.{ℕ_discrete}
use mathlib.Core.Option.{some, some-injective, some-ne-none}
use lib.ListN.{get_elem?}
use Rattle.atomic_table.proofs.Lists.{at_set, set_else}
use Rattle.feed_permits.specs.declared.view.View.{View}
use Rattle.feed_permits.specs.Rule.{Fits, IsKept}
use Rattle.feed_permits.specs.Views.{first_view, dealt, new_key, note, counts_note, only, grant_note, with_counts, with_low, spent_note, granted_once, counted}
use Rattle.feed_permits.proofs.Owners.{put, put_here, put_else, at_end}

abbrev AllFit : List ℕ → ℕ → ℕ → (ℕ → ℕ) → List View → Type 0
AllFit words desk made owner views = (seat : ℕ) (v : View) → get_elem? views seat ≡ some v → Fits words desk made owner seat v

abbrev Below : List ℕ → List ℕ → Type 0
Below xs words = (n : ℕ) → slice_index xs n ≤ slice_index words n

no_truth : {A : Type 0} → false ≡ true → A
no_truth e = absurd (cc)

-- ---- one view changed, one more at the end

fits_set : (words : List ℕ) (desk made : ℕ) (owner : ℕ → ℕ) (views : List View) (id : ℕ) (w : View) → AllFit words desk made owner views → Fits words desk made owner id w → AllFit words desk made owner (set views id w)
fits_set words desk made owner views id w all new j u e =
    ⊎_elim (λ t. subst (λ v. Fits words desk made owner j v) t.1 (subst (λ k. Fits words desk made owner k w) (sym t.0) new)) (λ t. all j u t.1) (at_set views id j w u e)

fits_snoc : (words : List ℕ) (desk made : ℕ) (owner : ℕ → ℕ) (views : List View) (w : View) → AllFit words desk made owner views → ((j : ℕ) → Fits words desk made owner j w) → AllFit words desk made owner (views ++ w ∷ [])
fits_snoc words desk made owner views w all new j u e = ⊎_elim (λ h. all j u h) (λ t. subst (λ v. Fits words desk made owner j v) t.1 (new j)) (at_end views w u j e)

-- one without rights fits where its lists do
note_fits : (words : List ℕ) (desk made : ℕ) (owner : ℕ → ℕ) (j : ℕ) (counts low : List ℕ) → Below counts words → Below low words → Fits words desk made owner j (note counts low)
note_fits words desk made owner j counts low c l = record { desk_is = λ e. no_truth e; key_is = λ e. no_truth e; counts_low = c; low_low = l }

none_below : (words : List ℕ) → Below [] words
none_below words n = omega arith

-- ---- notes

note_of : (words : List ℕ) (views : List View) (id : ℕ) (v : View) (counts low : List ℕ) → IsKept words views → get_elem? views id ≡ some v → Below counts words → Below low words → IsKept words (set views id v ++ note counts low ∷ [])
note_of words views id v counts low k at c l = record {
  size = k.size;
  desk = k.desk;
  made = k.made;
  owner = k.owner;
  unmade = k.unmade;
  fits = fits_snoc words k.desk k.made k.owner (set views id v) (note counts low)
      (fits_set words k.desk k.made k.owner views id v k.fits (k.fits id v at))
      (λ j. note_fits words k.desk k.made k.owner j counts low c l);
}

pub tells : (words : List ℕ) (views : List View) (id : ℕ) (v : View) → IsKept words views → get_elem? views id ≡ some v → IsKept words (set views id v ++ counts_note v ∷ [])
tells words views id v k at = note_of words views id v v.counts [] k at (k.fits id v at).counts_low (none_below words)

only_below : (n x : ℕ) (f : ℕ → ℕ) → x ≤ f n → (m : ℕ) → slice_index (only n x) m ≤ f m
unfolding only
only_below zero x f h zero = h
only_below zero x f h (suc m) = omega arith
only_below (suc n) x f h zero = omega arith
only_below (suc n) x f h (suc m) = only_below n x (λ i. f (suc i)) h m

pub only_here : (n x : ℕ) → slice_index (only n x) n ≡ x
unfolding only
only_here zero x = refl
only_here (suc n) x = only_here n x

pub vouches : (words : List ℕ) (views : List View) (id : ℕ) (v : View) → v.grants ≡ true → IsKept words views → get_elem? views id ≡ some v → IsKept words (set views id v ++ grant_note v ∷ [])
vouches words views id v grants k at =
    let key = (k.fits id v at).key_is grants in
    let level : v.granted ≤ slice_index words v.number = omega (arith, key.2) in
    note_of words views id v [] (only v.number v.granted) k at (none_below words) (only_below v.number v.granted (λ n. slice_index words n) level)

-- ---- notes are taken in

meet : (words : List ℕ) (views : List View) (id : ℕ) (v both : View) (other : ℕ) (k : IsKept words views) → Fits words k.desk k.made k.owner id both → IsKept words (set (set views id both) other spent_note)
meet words views id v both other k fits = record {
  size = k.size;
  desk = k.desk;
  made = k.made;
  owner = k.owner;
  unmade = k.unmade;
  fits = fits_set words k.desk k.made k.owner (set views id both) other spent_note
      (fits_set words k.desk k.made k.owner views id both k.fits fits)
      (note_fits words k.desk k.made k.owner other [] [] (none_below words) (none_below words));
}

-- the other's view stood there before
others : (views : List View) (id other : ℕ) (both w : View) → other ≢ id → get_elem? (set views id both) other ≡ some w → get_elem? views other ≡ some w
others views id other both w apart at = sym (set_else views id other both apart) ∙ at

pub hears : (words : List ℕ) (views : List View) (id : ℕ) (v : View) (other : ℕ) (w : View) → IsKept words views → get_elem? views id ≡ some v → other ≢ id → get_elem? (set views id (with_counts v w)) other ≡ some w
    → IsKept words (set (set views id (with_counts v w)) other spent_note)
hears words views id v other w k at apart there =
    let mine = k.fits id v at in
    let theirs = k.fits other w (others views id other (with_counts v w) w apart there) in
    meet words views id v (with_counts v w) other k
    (record { desk_is = mine.desk_is; key_is = mine.key_is; counts_low = theirs.counts_low; low_low = mine.low_low })

pub notices : (words : List ℕ) (views : List View) (id : ℕ) (v : View) (other : ℕ) (w : View) → IsKept words views → get_elem? views id ≡ some v → other ≢ id → get_elem? (set views id (with_low v w)) other ≡ some w
    → IsKept words (set (set views id (with_low v w)) other spent_note)
notices words views id v other w k at apart there =
    let mine = k.fits id v at in
    let theirs = k.fits other w (others views id other (with_low v w) w apart there) in
    meet words views id v (with_low v w) other k
    (record { desk_is = mine.desk_is; key_is = mine.key_is; counts_low = mine.counts_low; low_low = theirs.low_low })

-- ---- loads

-- a word that is written as it was
same_words : (words : List ℕ) (i : ℕ) → set words i (get_or words i 0) ≡ words
same_words words i = set-get_or words i 0

loads : (words : List ℕ) (views : List View) (id i : ℕ) (w : View) (k : IsKept words views) → Fits words k.desk k.made k.owner id w → IsKept (set words i (get_or words i 0)) (set views id w)
loads words views id i w k fits = subst (λ ws. IsKept ws (set views id w)) (sym (same_words words i)) (record {
  size = k.size;
  desk = k.desk;
  made = k.made;
  owner = k.owner;
  unmade = k.unmade;
  fits = fits_set words k.desk k.made k.owner views id w k.fits fits;
})

pub tests : (words : List ℕ) (views : List View) (id i : ℕ) (v : View) → IsKept words views → get_elem? views id ≡ some v → IsKept (set words i (get_or words i 0)) (set views id v)
tests words views id i v k at = loads words views id i v k (k.fits id v at)

-- a count that a key knows is at most what it was granted
pub tested : (words : List ℕ) (views : List View) (id : ℕ) (v : View) → v.grants ≡ true → IsKept words views → get_elem? views id ≡ some v → slice_index v.counts v.number ≤ v.granted
tested words views id v grants k at =
    let key = (k.fits id v at).key_is grants in
    let low = (k.fits id v at).counts_low v.number in
    omega (arith, key.2)

-- one item of a list is one more
one_more : (xs words : List ℕ) (n : ℕ) → n < length xs → Below xs words → slice_index xs n + 1 ≤ slice_index words n → Below (set xs n (slice_index xs n + 1)) words
one_more xs words n within below more m = elim (ℕ_discrete m n) [
  | yes e ↦ subst (λ j. slice_index (set xs n (slice_index xs n + 1)) j ≤ slice_index words j) (sym e) (subst (λ x. x ≤ slice_index words n) (sym (get_or-set_same xs n (slice_index xs n + 1) 0 within)) more)
  | no ne ↦ subst (λ x. x ≤ slice_index words m) (sym (get_or-set_other xs n m (slice_index xs n + 1) 0 ne)) (below m)
]

abbrev yes_if : ℕ → View → Bool
yes_if n v = nat_lt (slice_index v.counts n) (slice_index v.low n)

counted_fits : (words : List ℕ) (desk made : ℕ) (owner : ℕ → ℕ) (seat n : ℕ) (v : View) (b : Bool) → yes_if n v ≡ b → n < length v.counts → Fits words desk made owner seat v → Fits words desk made owner seat (if b then record v { counts = slice_set v.counts n (slice_index v.counts n + 1) } else v)
counted_fits words desk made owner seat n v true e within fits =
    let less : slice_index v.counts n < slice_index v.low n = ltb-true (slice_index v.counts n) (slice_index v.low n) e in
    let low = fits.low_low n in
    record {
      desk_is = fits.desk_is;
      key_is = fits.key_is;
      counts_low = one_more v.counts words n within fits.counts_low (omega arith);
      low_low = fits.low_low;
    }
counted_fits words desk made owner seat n v false e within fits = fits

pub counts : (words : List ℕ) (views : List View) (id n : ℕ) (v : View) → n < length v.counts → IsKept words views → get_elem? views id ≡ some v → IsKept (set words n (get_or words n 0)) (set views id (counted n v))
counts words views id n v within k at =
    loads words views id n (counted n v) k (counted_fits words k.desk k.made k.owner id n v (yes_if n v) refl within (k.fits id v at))

-- ---- a key is handed out

later_key : (words : List ℕ) (desk made : ℕ) (owner : ℕ → ℕ) (at seat : ℕ) (v : View) → (v.deals ≡ true → (seat ≡ desk) × (v.made ≡ suc made)) → Fits words desk made owner seat v → Fits words desk (suc made) (put owner made at) seat v
later_key words desk made owner at seat v deals fits = record {
  desk_is = deals;
  key_is = λ e. let key = fits.key_is e in
      (omega (arith, key.0), put_else owner made at v.number (λ same. omega (arith, key.0)) ∙ key.1, key.2);
  counts_low = fits.counts_low;
  low_low = fits.low_low;
}

-- who else could deal would have the desk's seat
no_other_desk : (words : List ℕ) (desk made : ℕ) (owner : ℕ → ℕ) (id j : ℕ) (v u : View) → v.deals ≡ true → Fits words desk made owner id v → Fits words desk made owner j u → j ≢ id → u.deals ≡ true → (j ≡ desk) × (u.made ≡ suc made)
no_other_desk words desk made owner id j v u deals mine theirs apart e = absurd (apart ((theirs.desk_is e).0 ∙ sym (mine.desk_is deals).0))

dealt_fits : (words : List ℕ) (views : List View) (id : ℕ) (v : View) (k : IsKept words views) → v.deals ≡ true → get_elem? views id ≡ some v → AllFit words k.desk (suc k.made) (put k.owner k.made (length views)) (set views id (dealt v))
dealt_fits words views id v k deals at j u e =
    let mine = k.fits id v at in
    let own : Fits words k.desk (suc k.made) (put k.owner k.made (length views)) id (dealt v) =
    record {
      desk_is = λ z. ((mine.desk_is deals).0, let m = (mine.desk_is deals).1 in omega (arith, m));
      key_is = λ z. (later_key words k.desk k.made k.owner (length views) id (record v { deals = false }) (λ y. no_truth y) (record { desk_is = λ y. no_truth y; key_is = mine.key_is; counts_low = mine.counts_low; low_low = mine.low_low })).key_is z;
      counts_low = mine.counts_low;
      low_low = mine.low_low;
    } in
    ⊎_elim
    (λ t. subst (λ w. Fits words k.desk (suc k.made) (put k.owner k.made (length views)) j w) t.1 (subst (λ i. Fits words k.desk (suc k.made) (put k.owner k.made (length views)) i (dealt v)) (sym t.0) own))
    (λ t. later_key words k.desk k.made k.owner (length views) j u (no_other_desk words k.desk k.made k.owner id j v u deals mine (k.fits j u t.1) t.0) (k.fits j u t.1))
    (at_set views id j (dealt v) u e)

pub deals : (words : List ℕ) (views : List View) (id : ℕ) (v : View) → v.deals ≡ true → IsKept words views → get_elem? views id ≡ some v → IsKept words (set views id (dealt v) ++ new_key v ∷ [])
deals words views id v dealing k at =
    let mine = k.fits id v at in
    let made_is : v.made ≡ k.made = (mine.desk_is dealing).1 in
    let fresh : (j : ℕ) → j ≡ length views → Fits words k.desk (suc k.made) (put k.owner k.made (length views)) j (new_key v) =
    λ j place. record {
      desk_is = λ z. no_truth z;
      key_is = λ z. (omega (arith, made_is), ap (λ n. put k.owner k.made (length views) n) made_is ∙ put_here k.owner k.made (length views) ∙ sym place, ap (λ n. slice_index words n) made_is ∙ k.unmade k.made (omega arith));
      counts_low = none_below words;
      low_low = none_below words;
    } in
    record {
      size = k.size;
      desk = k.desk;
      made = suc k.made;
      owner = put k.owner k.made (length views);
      unmade = λ n late. k.unmade n (omega arith);
      fits = λ j u e. ⊎_elim (λ h. dealt_fits words views id v k dealing at j u h)
          (λ t. subst (λ w. Fits words k.desk (suc k.made) (put k.owner k.made (length views)) j w) t.1 (fresh j (t.0 ∙ length-set views id (dealt v))))
          (at_end (set views id (dealt v)) (new_key v) u j e);
    }

-- ---- a key is granted once more

abbrev risen : List ℕ → ℕ → List ℕ
risen words n = set words n ((get_or words n 0 + 1) % 2 ^ 64)

rises : (words : List ℕ) (n m : ℕ) → n < length words → get_or words n 0 + 1 < 2 ^ 64 → slice_index words m ≤ slice_index (risen words n) m
rises words n m within room = elim (ℕ_discrete m n) [
  | yes e ↦ subst (λ j. slice_index words j ≤ slice_index (risen words n) j) (sym e)
      (let here = get_or-set_same words n ((get_or words n 0 + 1) % 2 ^ 64) 0 within in
      let small = mod-eq_of_lt room in
      omega (arith, here, small))
  | no ne ↦ let there = get_or-set_other words n m ((get_or words n 0 + 1) % 2 ^ 64) 0 ne in omega (arith, there)
]

granted_others : (words : List ℕ) (desk made : ℕ) (owner : ℕ → ℕ) (id j n : ℕ) (u : View) → n < length words → get_or words n 0 + 1 < 2 ^ 64 → owner n ≡ id → j ≢ id → Fits words desk made owner j u → Fits (risen words n) desk made owner j u
granted_others words desk made owner id j n u within room mine apart fits = record {
  desk_is = fits.desk_is;
  key_is = λ e. let key = fits.key_is e in
      (key.0, key.1, get_or-set_other words n u.number ((get_or words n 0 + 1) % 2 ^ 64) 0 (λ same. apart (sym key.1 ∙ ap owner same ∙ mine)) ∙ key.2);
  counts_low = λ m. let old = fits.counts_low m in let up = rises words n m within room in omega arith;
  low_low = λ m. let old = fits.low_low m in let up = rises words n m within room in omega arith;
}

pub grants : (words : List ℕ) (views : List View) (id n : ℕ) (v : View) → v.grants ≡ true → v.number ≡ n → n < 64 → v.granted < 253402300799 → IsKept words views → get_elem? views id ≡ some v → IsKept (risen words n) (set views id (granted_once v))
grants words views id n v granting numbered small few k at =
    let mine = k.fits id v at in
    let key = mine.key_is granting in
    let within : n < length words = omega (arith, k.size) in
    let word_is : get_or words n 0 ≡ v.granted = ap (λ m. slice_index words m) (sym numbered) ∙ key.2 in
    let wide : 253402300800 < 2 ^ 64 = lit< tt in
    let room : get_or words n 0 + 1 < 2 ^ 64 = omega (arith, word_is, wide) in
    let here : get_or (risen words n) n 0 ≡ v.granted + 1 = get_or-set_same words n ((get_or words n 0 + 1) % 2 ^ 64) 0 within ∙ mod-eq_of_lt room ∙ ap (λ x. x + 1) word_is in
    let own : Fits (risen words n) k.desk k.made k.owner id (granted_once v) = record {
      desk_is = mine.desk_is;
      key_is = λ e. (key.0, key.1, ap (λ m. slice_index (risen words n) m) numbered ∙ here);
      counts_low = λ m. let old = mine.counts_low m in let up = rises words n m within room in omega arith;
      low_low = λ m. let old = mine.low_low m in let up = rises words n m within room in omega arith;
    } in
    record {
      size = length-set words n ((get_or words n 0 + 1) % 2 ^ 64) ∙ k.size;
      desk = k.desk;
      made = k.made;
      owner = k.owner;
      unmade = λ m late. get_or-set_other words n m ((get_or words n 0 + 1) % 2 ^ 64) 0 (λ same. omega (arith, key.0, numbered)) ∙ k.unmade m late;
      fits = λ j u e. ⊎_elim
          (λ t. subst (λ w. Fits (risen words n) k.desk k.made k.owner j w) t.1 (subst (λ i. Fits (risen words n) k.desk k.made k.owner i (granted_once v)) (sym t.0) own))
          (λ t. granted_others words k.desk k.made k.owner id j n u within room (ap k.owner (sym numbered) ∙ key.1) t.0 (k.fits j u t.1))
          (at_set views id j (granted_once v) u e);
    }

-- ---- the table at first

zeros_at : (count n : ℕ) → slice_index (replicate count 0) n ≡ 0
zeros_at zero n = refl
zeros_at (suc count) zero = refl
zeros_at (suc count) (suc n) = zeros_at count n

pub opens : IsKept (replicate 64 0) (first_view ∷ [])
opens = record {
  size = length-replicate {A = ℕ} 64 0;
  desk = 0;
  made = 0;
  owner = λ n. 0;
  unmade = λ n late. zeros_at 64 n;
  fits = first_fits;
}
  where
    first_fits : (seat : ℕ) (v : View) → get_elem? (first_view ∷ []) seat ≡ some v → Fits (replicate 64 0) 0 0 (λ n. 0) seat v
    first_fits zero v e = subst (λ w. Fits (replicate 64 0) 0 0 (λ n. 0) 0 w) (some-injective first_view v e) (record {
      desk_is = λ z. (refl, refl);
      key_is = λ z. no_truth z;
      counts_low = λ n. omega (arith, zeros_at 64 n);
      low_low = none_below (replicate 64 0);
    })
    first_fits (suc seat) v e = absurd (some-ne-none v (sym e))

-- ---- what a grant leaves of the desk

pub raised : (n granted : ℕ) (v : View) (b : Bool) → yes_if n v ≡ b → slice_index v.counts n ≡ granted → slice_index v.low n ≡ granted + 1
    → (if b then record v { counts = slice_set v.counts n (slice_index v.counts n + 1) } else v) ≡ record v { counts = slice_set v.counts n (granted + 1) }
raised n granted v true e level low = ap (λ x. record v { counts = slice_set v.counts n (x + 1) }) level
raised n granted v false e level low = let above = ltb-false (slice_index v.counts n) (slice_index v.low n) e in absurd (omega (arith, level, low))
