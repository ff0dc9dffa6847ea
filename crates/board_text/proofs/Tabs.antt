-- Fields between tabs are the first one, and each other behind its tab.
use Rattle.std.proofs.Common.{◌≡◌, ℕ, List, [], ◌∷◌, ◌++◌, length, map, refl, sym, ap, ◌∙◌, append_assoc, append-nil, arith}
use Rattle.std.specs.Prelude.{Result, Ok, Err, OnOk}
use Rattle.std.specs.List.{flat_map, AllByRecursion, IsFirstAndRest}
use Rattle.text_defs.specs.Cleaned.{cleaned_text, line_feed}
use Rattle.board_text_defs.specs.Lines.{tab, between_tabs, line_of_fields}
use Rattle.board_text.specs.Fields.{after_tab, before_tab, IsPlain}
use Rattle.board_text.proofs.Plain.{cleaned_plain}

pub between_first : (field : List ℕ) (others : List (List ℕ)) → between_tabs (field ∷ others) ≡ cleaned_text field ++ flat_map after_tab others
unfolding between_tabs
between_first field [] = sym (append-nil (cleaned_text field))
between_first field (next ∷ more) =
    append_assoc (cleaned_text field) tab (between_tabs (next ∷ more))
    ∙ ap (λ rest. cleaned_text field ++ (tab ++ rest)) (between_first next more)

-- of no field there is nothing
pub nothing_between : {A : Type 0} (f : A → List ℕ) (all : List A) → length all ≡ 0 → between_tabs (map f all) ≡ []
unfolding between_tabs
nothing_between f [] none = refl
nothing_between f (x ∷ xs) none = absurd (omega arith)

-- the first one, and behind it the others
pub others_then : {A E : Type 0} (r : Result (Unit {0}) E) (f : A → List ℕ) (all : List A) (first : A) (others : List A) (old mid new text : List ℕ) → IsFirstAndRest all first others → text ≡ f first
    → mid ≡ old ++ cleaned_text text → OnOk r (new ≡ mid ++ flat_map after_tab (map f others)) → OnOk r (new ≡ old ++ between_tabs (map f all))
others_then (Ok x) f all first others old mid new text whole same here behind =
    behind ∙ ap (λ bs. bs ++ flat_map after_tab (map f others)) (here ∙ ap (λ bs. old ++ cleaned_text bs) same)
    ∙ append_assoc old (cleaned_text (f first)) (flat_map after_tab (map f others))
    ∙ ap (λ bs. old ++ bs) (sym (between_first (f first) (map f others)) ∙ ap (λ xs. between_tabs (map f xs)) (sym whole.0))
others_then (Err e) f all first others old mid new text whole same here behind = tt

-- plain fields, each before its tab, and behind them others
pub plain_then : (fields : List (List ℕ)) (next : List ℕ) (more : List (List ℕ)) → AllByRecursion IsPlain fields → between_tabs (fields ++ next ∷ more) ≡ flat_map before_tab fields ++ between_tabs (next ∷ more)
unfolding between_tabs
plain_then [] next more plain = refl
plain_then (field ∷ []) next more plain =
    ap (λ f. f ++ tab ++ between_tabs (next ∷ more)) (cleaned_plain field plain.0)
    ∙ ap (λ bs. bs ++ between_tabs (next ∷ more)) (sym (append-nil (field ++ tab)))
plain_then (field ∷ second ∷ fields) next more plain =
    ap (λ f. f ++ tab ++ between_tabs (second ∷ (fields ++ next ∷ more))) (cleaned_plain field plain.0)
    ∙ ap (λ bs. field ++ tab ++ bs) (plain_then (second ∷ fields) next more plain.1)
    ∙ sym (append_assoc (field ++ tab) (flat_map before_tab (second ∷ fields)) (between_tabs (next ∷ more)))

pub texts_then : {E : Type 0} (r : Result (Unit {0}) E) (fields : List (List ℕ)) (next : List ℕ) (more : List (List ℕ)) (old mid new : List ℕ) → AllByRecursion IsPlain fields
    → mid ≡ old ++ flat_map before_tab fields → OnOk r (new ≡ mid ++ line_of_fields (next ∷ more)) → OnOk r (new ≡ old ++ line_of_fields (fields ++ next ∷ more))
texts_then (Ok x) fields next more old mid new plain here behind =
    behind ∙ ap (λ bs. bs ++ line_of_fields (next ∷ more)) here
    ∙ append_assoc old (flat_map before_tab fields) (line_of_fields (next ∷ more))
    ∙ ap (λ bs. old ++ bs) (sym (append_assoc (flat_map before_tab fields) (between_tabs (next ∷ more)) line_feed) ∙ ap (λ bs. bs ++ line_feed) (sym (plain_then fields next more plain)))
texts_then (Err e) fields next more old mid new plain here behind = tt
