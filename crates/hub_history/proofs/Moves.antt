-- Each kind of step keeps the rule of the book.
use Rattle.std.proofs.Common.{◌≡◌, ◌≢◌, ℕ, zero, suc, ◌+◌, ◌<◌, ◌≤◌, ◌==◌, Bool, true, false, List, [], ◌∷◌, ◌++◌, length, set, refl, sym, ap, ◌∙◌, subst, arith, inl, append-nil, length-append, None}
use Rattle.std.proofs.lemmas.List.{length-set}
use Rattle.std.proofs.lemmas.Bool.Decides.{nat_tests}
use native.Mathlib.Decide.{ℕ_discrete, dec_le}
use mathlib.Core.List.{IsPrefix}
use prog.Atomic.{either}
use Rattle.logbook.specs.Pages.{Cell, cell, keeps, gives, adds, nib, no_nib, may_write, may_make, step, Moves, Goes, Away, Step, View}
use Rattle.hub_history.specs.declared.item.LogItem.{LogItem}
use Rattle.hub_history.specs.Log.{is_orderly}
use Rattle.hub_history.specs.Rules.{IsKept, Grown, Added, Confirmed}
use Rattle.hub_history.specs.Told.{first_away}
use Rattle.hub_history.proofs.Fronts.{prefix_whole, prefix_length}
use Rattle.hub_history.proofs.Cells.{cell_past, cell_snoc, cell_set, cell_else, same_word}

abbrev pub shown : List LogItem → List LogItem
shown log = []

abbrev pub moved : List LogItem → List LogItem → ℕ → Type 0
moved xs ys n = Unit {0}

-- the same rule for cells that read alike
same_cells : (cs ds : List Cell) (log : List LogItem) (more : ℕ) → IsKept cs log → length ds ≡ more + 2 → cell ds 1 ≡ (more, true) → ((k : ℕ) → k ≢ 1 → cell ds k ≡ cell cs k) → IsKept ds log
same_cells cs ds log more kept size one same = record {
  head = same 0 (λ e. omega arith) ∙ kept.head;
  made = more;
  all = size;
  made_is = one;
  homes = λ k less. ap (λ c. c.1) (same (k + 2) (λ e. omega arith)) ∙ kept.homes k less;
  aways = λ k late. ap (λ c. c.1) (same (k + 2) (λ e. omega arith)) ∙ kept.aways k late;
  orderly = kept.orderly;
}

with_nothing : (cs : List Cell) (log : List LogItem) → IsKept cs log → IsKept cs (log ++ [])
with_nothing cs log kept = subst (λ (xs : List LogItem). IsKept cs xs) (sym (append-nil log)) kept

-- ---- a cell more

grows_goes : (v : List LogItem) (ask : LogItem) (old : ℕ) (cs : List Cell) (log : List LogItem) (kept : IsKept cs log) (b : Bool) → (kept.made == old) ≡ b
    → Goes IsKept shown moved 1 (v, (no_nib, None)) (λ n. either (n == old) (old + 1) n) (Grown (step 1 old (old + 1) ask) (v, (no_nib, None))) cs log
grows_goes v ask old cs log kept true is =
    let here : kept.made ≡ old = grind (arith, nat_tests) in
    let found : (cell cs 1).0 ≡ kept.made = ap (λ c. c.0) kept.made_is in
    let hit : ((cell cs 1).0 == old) ≡ true = ap (λ n. n == old) found ∙ is in
    let written : Cell = (either ((cell cs 1).0 == old) (old + 1) (cell cs 1).0, true) in
    let becomes : written ≡ (kept.made + 1, true) = rw hit (ap (λ (n : ℕ). (n + 1, true)) (sym here)) in
    let within : 1 < length cs = omega (arith, kept.all) in (
      adds,
      [],
      None,
      tt,
      with_nothing (set cs 1 written ++ (0, false) ∷ []) log (same_cells cs (set cs 1 written ++ (0, false) ∷ []) log (kept.made + 1) kept
          (omega (arith, length-append (set cs 1 written) ((0, false) ∷ []), length-set cs 1 written, kept.all))
          (cell_snoc (set cs 1 written) 1 ∙ cell_set cs 1 written within ∙ becomes)
          (λ k other. cell_snoc (set cs 1 written) k ∙ cell_else cs 1 k written other)),
      inl (refl, refl),
      rw hit (ap (λ (n : ℕ). nib may_make n 0) (omega (arith, kept.all, here))),
    )
grows_goes v ask old cs log kept false is =
    let found : (cell cs 1).0 ≡ kept.made = ap (λ c. c.0) kept.made_is in
    let miss : ((cell cs 1).0 == old) ≡ false = ap (λ n. n == old) found ∙ is in
    let written : Cell = (either ((cell cs 1).0 == old) (old + 1) (cell cs 1).0, true) in
    let becomes : written ≡ (kept.made, true) = rw miss (ap (λ (n : ℕ). (n, true)) found) in (
      keeps,
      [],
      None,
      tt,
      with_nothing (set cs 1 written) log (subst (λ (ds : List Cell). IsKept ds log) (sym (same_word cs 1 written (kept.made_is ∙ sym becomes))) kept),
      inl (refl, refl),
      rw miss refl,
    )

pub grows_moves : (v : List LogItem) (ask : LogItem) (old : ℕ) → Moves IsKept shown moved 1 (v, (no_nib, None)) (λ n. either (n == old) (old + 1) n) (Grown (step 1 old (old + 1) ask) (v, (no_nib, None)))
grows_moves v ask old cs log kept pre away =
    (omega (arith, kept.all), ap (λ c. c.1) kept.made_is, grows_goes v ask old cs log kept (kept.made == old) refl)

-- ---- whoever has the pen of the first cell that is away has seen the whole log

at_most : (cs : List Cell) (log : List LogItem) (items : ℕ) → IsKept cs log → (cell cs (items + 2)).1 ≡ false → length log ≤ items
at_most cs log items kept away = elim (dec_le (length log) items) [
  | yes le ↦ le
  | no more ↦ let home : (cell cs (items + 2)).1 ≡ true = kept.homes items (omega arith) in absurd (cc)
]

-- ---- an item more

adds_kept : (cs : List Cell) (log : List LogItem) (item : LogItem) (kept : IsKept cs log) → length log + 2 < length cs → is_orderly (log ++ item ∷ []) ≡ true
    → IsKept (set (set cs 0 (length log + 1, true)) (length log + 2) (0, true)) (log ++ item ∷ [])
adds_kept cs log item kept within orderly =
    let one : List Cell = set cs 0 (length log + 1, true) in
    let longer : length (log ++ item ∷ []) ≡ length log + 1 = length-append log (item ∷ []) in
    record {
      head = cell_else one (length log + 2) 0 (0, true) (λ e. omega arith) ∙ cell_set cs 0 (length log + 1, true) (omega arith) ∙ ap (λ (n : ℕ). (n, true)) (sym longer);
      made = kept.made;
      all = length-set one (length log + 2) (0, true) ∙ length-set cs 0 (length log + 1, true) ∙ kept.all;
      made_is = cell_else one (length log + 2) 1 (0, true) (λ e. omega arith) ∙ cell_else cs 0 1 (length log + 1, true) (λ e. omega arith) ∙ kept.made_is;
      homes = λ k less. elim (ℕ_discrete k (length log)) [
        | yes e ↦ ap (λ (j : ℕ). (cell (set one (length log + 2) (0, true)) (j + 2)).1) e ∙ ap (λ (c : Cell). c.1) (cell_set one (length log + 2) (0, true) (omega (arith, length-set cs 0 (length log + 1, true))))
        | no ne ↦ ap (λ (c : Cell). c.1) (cell_else one (length log + 2) (k + 2) (0, true) (λ e. ne (omega arith)) ∙ cell_else cs 0 (k + 2) (length log + 1, true) (λ e. omega arith)) ∙ kept.homes k (omega (arith, longer))
      ];
      aways = λ k late. ap (λ (c : Cell). c.1) (cell_else one (length log + 2) (k + 2) (0, true) (λ e. omega (arith, longer)) ∙ cell_else cs 0 (k + 2) (length log + 1, true) (λ e. omega arith)) ∙ kept.aways k (omega (arith, longer));
      orderly = orderly;
    }

adds_goes : (v : List LogItem) (item : LogItem) (items : ℕ) (cs : List Cell) (log : List LogItem) → items ≡ length v → v ≡ log → is_orderly (v ++ item ∷ []) ≡ true → IsKept cs log → length log + 2 < length cs
    → Goes IsKept shown moved 0 (v, (first_away (length v), None)) (λ n. either (n == items) (items + 1) n) (Added (step 0 items (items + 1) item) (v, (first_away (length v), None))) cs log
adds_goes v item items cs log len same orderly kept within =
    let found : (cell cs 0).0 ≡ items = ap (λ c. c.0) kept.head ∙ ap length (sym same) ∙ sym len in
    let hit : ((cell cs 0).0 == items) ≡ true = grind (arith, nat_tests) in
    let written : Cell = (either ((cell cs 0).0 == items) (items + 1) (cell cs 0).0, true) in
    let becomes : written ≡ (length log + 1, true) = rw hit (ap (λ (n : ℕ). (n + 1, true)) (len ∙ ap length same)) in
    let orderly' : is_orderly (log ++ item ∷ []) ≡ true = ap (λ (xs : List LogItem). is_orderly (xs ++ item ∷ [])) (sym same) ∙ orderly in
    let place : length v + 2 ≡ length log + 2 = ap (λ (xs : List LogItem). length xs + 2) same in (
      gives,
      item ∷ [],
      None,
      refl,
      subst (λ (c : Cell). IsKept (set (set cs 0 c) (length v + 2) (0, true)) (log ++ item ∷ [])) (sym becomes)
          (subst (λ (k : ℕ). IsKept (set (set cs 0 (length log + 1, true)) k (0, true)) (log ++ item ∷ [])) (sym place) (adds_kept cs log item kept within orderly')),
      inl (refl, refl),
      (ap (λ (xs : List LogItem). xs ++ item ∷ []) (sym same), orderly'),
    )

pub adds_moves : (v : List LogItem) (item : LogItem) (items : ℕ) → items ≡ length v → is_orderly (v ++ item ∷ []) ≡ true
    → Moves IsKept shown moved 0 (v, (first_away (length v), None)) (λ n. either (n == items) (items + 1) n) (Added (step 0 items (items + 1) item) (v, (first_away (length v), None)))
adds_moves v item items len orderly cs log kept pre away =
    let mine = away refl in
    let whole : v ≡ log = prefix_whole v log pre (at_most cs log (length v) kept mine.1) in
    let within : length log + 2 < length cs = subst (λ (xs : List LogItem). length xs + 2 < length cs) whole mine.0 in
    (omega (arith, kept.all), ap (λ c. c.1) kept.head, adds_goes v item items cs log len whole orderly kept within)

-- ---- the log is as long as was seen

confirms_goes : (v : List LogItem) (ask : LogItem) (items : ℕ) (cs : List Cell) (log : List LogItem) → IsKept cs log → length log ≤ items → (b : Bool) → ((cell cs 0).0 == items) ≡ b
    → Goes IsKept shown moved 0 (v, (first_away items, None)) (λ n. either (n == items) items n) (Confirmed (step 0 items items ask) (v, (first_away items, None))) cs log
confirms_goes v ask items cs log kept few b is =
    let written : Cell = (either ((cell cs 0).0 == items) items (cell cs 0).0, true) in
    let stays : written ≡ ((cell cs 0).0, true) = rw is (either_same b is) in
    let head_is : cell cs 0 ≡ written = kept.head ∙ ap (λ (n : ℕ). (n, true)) (sym (ap (λ (c : Cell). c.0) kept.head)) ∙ sym stays in (
      keeps,
      [],
      None,
      tt,
      with_nothing (set cs 0 written) log (subst (λ (ds : List Cell). IsKept ds log) (sym (same_word cs 0 written head_is)) kept),
      inl (refl, refl),
      (refl, omega (arith, ap length (append-nil log))),
    )
  where
    either_same : (c : Bool) → ((cell cs 0).0 == items) ≡ c → ◌≡◌ {A = Cell} (either c items (cell cs 0).0, true) ((cell cs 0).0, true)
    either_same true e = let n : items ≡ (cell cs 0).0 = grind (arith, nat_tests) in ap (λ (k : ℕ). (k, true)) n
    either_same false e = refl

pub confirms_moves : (v : List LogItem) (ask : LogItem) (items : ℕ) → Moves IsKept shown moved 0 (v, (first_away items, None)) (λ n. either (n == items) items n) (Confirmed (step 0 items items ask) (v, (first_away items, None)))
confirms_moves v ask items cs log kept pre away =
    (omega (arith, kept.all), ap (λ c. c.1) kept.head, confirms_goes v ask items cs log kept (at_most cs log items kept (away refl).1) ((cell cs 0).0 == items) refl)
