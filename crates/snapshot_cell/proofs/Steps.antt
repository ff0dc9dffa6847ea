-- Each kind of step keeps the rule of the copies.
use Rattle.std.proofs.Common.{◌≡◌, ℕ, ◌+◌, Bool, true, false, List, [], ◌∷◌, ◌++◌, length, set, ⊎_elim, refl, sym, ◌∙◌, subst}
use Rattle.std.specs.Prelude.{nat_lt, if◌then◌else◌, fold}
use Rattle.std.specs.Arc.{arc_value}
use mathlib.Core.Option.{some, some-ne-none}
use lib.ListN.{get_elem?}
use Rattle.atomic_table.proofs.Lists.{at_set, at_snoc, set_else}
use Rattle.crossbeam_utils.specs.Register.{Admits, TurnsAt, Turns, Forks, Merges}
use Rattle.board_defs.specs.Views.{StandsFor}
use Rattle.hub_history.specs.Told.{Told, history_of, AreOne}
use Rattle.snapshot_cell.specs.declared.shown.Shown.{Shown}
use Rattle.snapshot_cell.specs.declared.shown.View.{View}
use Rattle.snapshot_cell.specs.declared.shown.Face.{Face}
use Rattle.snapshot_cell.specs.Rule.{Fits, Kept, newcomer, note, taught, spent_note, looked, Looked, knowing, Put}

no_truth : {A : Type 0} → false ≡ true → A
no_truth e = absurd (cc)

pub fold_last : {A B : Type 0} (f : B → A → B) (s : B) (xs : List A) (x : A) → fold f s (xs ++ x ∷ []) ≡ f (fold f s xs) x
fold_last f s [] x = refl
fold_last f s (y ∷ xs) x = fold_last f (f s y) xs x

pub one_self : (a : Told) → AreOne a a
one_self a = record { book = refl; feeds = refl }

pub one_trans : {a b c : Told} → AreOne a b → AreOne b c → AreOne a c
one_trans o p = record { book = o.book ∙ p.book; feeds = o.feeds ∙ p.feeds }

-- ---- one view changed, one more at the end

fits_set : (x : Shown) (views : List View) (seat : ℕ) (w : View) → ((j : ℕ) (v : View) → get_elem? views j ≡ some v → Fits x v) → Fits x w → (j : ℕ) (v : View) → get_elem? (set views seat w) j ≡ some v → Fits x v
fits_set x views seat w all new j v e = ⊎_elim (λ t. subst (λ (u : View). Fits x u) t.1 new) (λ t. all j v t.1) (at_set views seat j w v e)

fits_snoc : (x : Shown) (views : List View) (w : View) → ((j : ℕ) (v : View) → get_elem? views j ≡ some v → Fits x v) → Fits x w → (j : ℕ) (v : View) → get_elem? (views ++ w ∷ []) j ≡ some v → Fits x v
fits_snoc x views w all new j v e = ⊎_elim (λ h. all j v h) (λ h. subst (λ (u : View). Fits x u) h new) (at_snoc views w v j e)

new_fits : (x : Shown) → Fits x newcomer
new_fits x = record { same_plans = λ e. no_truth e; same_hub = λ e. no_truth e }

-- ---- a place is handed out

pub admits : Admits Kept newcomer
admits x views kept = record { stands = kept.stands; fits = fits_snoc x views newcomer kept.fits (new_fits x) }

pub begins : (x : Shown) → StandsFor (history_of x.line) (arc_value x.view) → Kept x (newcomer ∷ [])
begins x stands = record { stands = stands; fits = fits_snoc x [] newcomer (λ j v e. absurd (some-ne-none v (sym e))) (new_fits x) }

-- ---- publish and close

pub puts : (x y : Shown) (seat : ℕ) (v : View) → StandsFor (history_of y.line) (arc_value y.view) → (arc_value x.view).plans ≡ (arc_value y.view).plans → AreOne y.line x.line → TurnsAt Kept seat v x y Put
puts x y seat v stands plans hub views kept at =
    let older : (j : ℕ) (u : View) → get_elem? views j ≡ some u → Fits y u = λ j u e. record {
      same_plans = λ z. sym plans ∙ (kept.fits j u e).same_plans z;
      same_hub = λ z. one_trans hub ((kept.fits j u e).same_hub z);
    } in
    (knowing y v, record { stands = stands; fits = fits_set y views seat (knowing y v) older (record { same_plans = λ z. refl; same_hub = λ z. one_self y.line }) }, refl)

-- ---- look

looked_fits : (items : ℕ) (x : Shown) (v : View) (b : Bool) → Fits x v → Fits x (if b then v else record v { reads = v.reads + 1 })
looked_fits items x v true fits = fits
looked_fits items x v false fits = record { same_plans = fits.same_plans; same_hub = fits.same_hub }

pub looks : (items : ℕ) (seat : ℕ) (v : View) → Turns Kept seat v (λ x. x) (Looked items)
looks items seat v x views kept at =
    let mine = kept.fits seat v at in
    (looked items x v, record { stands = kept.stands; fits = fits_set x views seat (looked items x v) kept.fits (looked_fits items x v (nat_lt (length x.line.log) items) mine) }, (refl, kept.stands, mine))

-- ---- tell and learn

pub tells : (seat : ℕ) (v : View) → Forks Kept seat v v (note v)
tells seat v x views kept at =
    let mine = kept.fits seat v at in
    record { stands = kept.stands; fits = fits_snoc x (set views seat v) (note v) (fits_set x views seat v kept.fits mine) (record { same_plans = mine.same_plans; same_hub = mine.same_hub }) }

pub learns : (seat : ℕ) (v : View) (other : ℕ) (n : View) → Merges Kept seat v other n (taught v n) spent_note
learns seat v other n x views kept at apart there =
    let theirs = kept.fits other n (sym (set_else views seat other (taught v n) apart) ∙ there) in
    record { stands = kept.stands; fits = fits_set x (set views seat (taught v n)) other spent_note (fits_set x views seat (taught v n) kept.fits (record { same_plans = theirs.same_plans; same_hub = theirs.same_hub })) (new_fits x) }

-- ---- the copies take in the whole view, so the last operation decides

abbrev pub applied : Face → Shown → Face
applied face operation = record { view = arc_value operation.view; line = operation.line }

pub last_applied : (s : Face) (xs : List Shown) (x : Shown) → fold applied s (xs ++ x ∷ []) ≡ applied (fold applied s xs) x
last_applied s xs x = fold_last applied s xs x
