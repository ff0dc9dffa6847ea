-- What a judge's answer is to a reader, and the rows of an array of tables, one after another.
use Rattle.std.proofs.Common.{◌≡◌, ℕ, ◌+◌, ◌<◌, ◌≤◌, List, [], ◌∷◌, ◌++◌, length, get_or, drop, Option, Some, None, Result, Ok, Err, refl, ap, sym, ◌∙◌}
use Rattle.std.specs.Prelude.{IsErrAnd}
use Rattle.std.proofs.lemmas.List.{drop_all}
use Rattle.toml.specs.Data.{Members, as_table}
use Rattle.toml.specs.View.{view, items_view}
use Rattle.toml.specs.declared.value.Value.{Value}
use Rattle.toml.proofs.Views.{items_view-drop}
use Rattle.hub_config_defs.specs.declared.fault.ConfFault.{ConfFault}
use Rattle.hub_config_defs.specs.declared.fault.ConfFault.TheVariants.{Toml, Bad, NoMemory}
use Rattle.hub_config_defs.specs.Conf.{added, and_then, rows_from, unless}
use Rattle.answer_defs.specs.Defined.{AsDefined, IsCause}
use Rattle.hub_config.specs.Answer.{IsFault, cause_of}

-- the fault that a `?` passes on
pub tells_passed : {A : Type 0} (defined : Result A ConfFault) (r : Result A ConfFault) (e : ConfFault) → IsErrAnd r (λ x. x ≡ e) → IsCause defined (cause_of e) → AsDefined (λ x. x) cause_of defined r
tells_passed defined (Ok x) e passed h = absurd passed
tells_passed defined (Err y) e passed h = rw passed h

-- a fault of a part is one of the whole, where each is
pub refused_whole : {A B : Type 0} (part : Result A ConfFault) (whole : Result B ConfFault) (e : ConfFault) → ((f : ConfFault) → part ≡ Err f → whole ≡ Err f) → IsCause part (cause_of e) → IsCause whole (cause_of e)
refused_whole part whole Toml leads h = leads _ h
refused_whole part whole (Bad table row key why) leads h = leads _ h
refused_whole part whole NoMemory leads h = tt

-- what a judge refuses has the judge's fault
pub refuses : {A : Type 0} (o : Option ConfFault) (x : A) (e : ConfFault) → IsFault o (cause_of e) → IsCause (unless o x) (cause_of e)
refuses o x Toml h = rw h
refuses o x (Bad table row key why) h = rw h
refuses o x NoMemory h = tt

-- what a judge passes is a value
pub passes : {A : Type 0} (o : Option ConfFault) (x : A) → o ≡ None → unless o x ≡ Ok x
passes o x h = rw h

-- what follows a value, and what follows a fault
pub goes_on : {A B : Type 0} (r : Result A ConfFault) (more : A → Result B ConfFault) (x : A) → r ≡ Ok x → and_then r more ≡ more x
goes_on r more x h = rw h

pub stops : {A B : Type 0} (r : Result A ConfFault) (more : A → Result B ConfFault) (e : ConfFault) → r ≡ Err e → and_then r more ≡ Err e
stops r more e h = rw h

rows_next : {A : Type 0} (row_of : ℕ → List A → Members → Result A ConfFault) (row : ℕ) (before : List A) (vs : List Value) (i : ℕ) (d : Value) (o : Option Members) → i < length vs → d ≡ get_or vs i d
    → as_table (view d) ≡ o
    → rows_from row_of row before (items_view (drop i vs)) ≡ and_then (added (row_of row) before o) (λ more. rows_from row_of (row + 1) more (items_view (drop (i + 1) vs)))
unfolding rows_from
rows_next row_of row before vs i d o h is e =
    rw (items_view-drop vs i d h)
    (ap (λ t. and_then (added (row_of row) before t) (λ more. rows_from row_of (row + 1) more (items_view (drop (i + 1) vs)))) (ap (λ x. as_table (view x)) (sym is) ∙ e))

added_more : {A : Type 0} (row_of : List A → Members → Result A ConfFault) (before : List A) (ms : Members) (x : A) → row_of before ms ≡ Ok x → added row_of before (Some ms) ≡ Ok (before ++ x ∷ [])
unfolding added
added_more row_of before ms x f = goes_on _ _ x f

added_stops : {A : Type 0} (row_of : List A → Members → Result A ConfFault) (before : List A) (ms : Members) (e : ConfFault) → row_of before ms ≡ Err e → added row_of before (Some ms) ≡ Err e
unfolding added
added_stops row_of before ms e f = stops _ _ e f

added_none : {A : Type 0} (row_of : List A → Members → Result A ConfFault) (before : List A) → added row_of before None ≡ Ok before
unfolding added
added_none row_of before = refl

-- a value that is no table is no row
pub rows_skip : {A : Type 0} (row_of : ℕ → List A → Members → Result A ConfFault) (row : ℕ) (before : List A) (vs : List Value) (i : ℕ) (d : Value) → i < length vs → d ≡ get_or vs i d
    → as_table (view d) ≡ None
    → rows_from row_of row before (items_view (drop i vs)) ≡ rows_from row_of (row + 1) before (items_view (drop (i + 1) vs))
rows_skip row_of row before vs i d h is e = rows_next row_of row before vs i d None h is e ∙ goes_on _ _ before (added_none (row_of row) before)

-- a row without a fault stands behind those before it
pub rows_more : {A : Type 0} (row_of : ℕ → List A → Members → Result A ConfFault) (row : ℕ) (before : List A) (vs : List Value) (i : ℕ) (d : Value) (ms : Members) (x : A) → i < length vs → d ≡ get_or vs i d
    → as_table (view d) ≡ Some ms → row_of row before ms ≡ Ok x
    → rows_from row_of row before (items_view (drop i vs)) ≡ rows_from row_of (row + 1) (before ++ x ∷ []) (items_view (drop (i + 1) vs))
rows_more row_of row before vs i d ms x h is e f =
    rows_next row_of row before vs i d (Some ms) h is e ∙ goes_on _ _ (before ++ x ∷ []) (added_more (row_of row) before ms x f)

-- a fault of a row is that of the rows
pub rows_stop : {A : Type 0} (row_of : ℕ → List A → Members → Result A ConfFault) (row : ℕ) (before : List A) (vs : List Value) (i : ℕ) (d : Value) (ms : Members) (all : Result (List A) ConfFault) → i < length vs → d ≡ get_or vs i d
    → as_table (view d) ≡ Some ms → rows_from row_of row before (items_view (drop i vs)) ≡ all
    → (e : ConfFault) → row_of row before ms ≡ Err e → all ≡ Err e
rows_stop row_of row before vs i d ms all h is s rest e f =
    sym rest ∙ rows_next row_of row before vs i d (Some ms) h is s ∙ stops _ _ e (added_stops (row_of row) before ms e f)

-- no row is left at the end
pub rows_end : {A : Type 0} (row_of : ℕ → List A → Members → Result A ConfFault) (row : ℕ) (before : List A) (vs : List Value) (i : ℕ) → length vs ≤ i
    → rows_from row_of row before (items_view (drop i vs)) ≡ Ok before
unfolding rows_from
rows_end row_of row before vs i h = rw (drop_all i vs h)
