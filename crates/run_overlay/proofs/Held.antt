-- What a table holds is what it has under its own id.
use Rattle.std.proofs.Common.{◌≡◌, ℕ, true, List, [], ◌∷◌, ◌++◌, Some, map, slice_get, ap, sym, subst, ◌∙◌, append-nil}
use Rattle.std.specs.Borrow.{Bor}
use Rattle.std.specs.Cmp.Lexicographic.{nat_list_cmp_total, slice_cmp}
use Rattle.std.specs.FinMap.{find, nat_cmp-IsAntisymmetric, slice_cmp-IsAntisymmetric}
use Rattle.std.specs.List.{AllByRecursion}
use Rattle.std.specs.Option.{option_map}
use Rattle.std.specs.Ordering.{eq_by_cmp, is_eq, nat_cmp}
use Rattle.std.proofs.lemmas.Option.{slice_get-map}
use Rattle.feed_defs.specs.declared.history.Stored.{Stored}
use Rattle.feed_defs.specs.History.{Change as EntityChange}
use Rattle.keyed_lists.proofs.Among.{all_places, at_place}
use Rattle.keyed_lists.proofs.Tables.{equal_so, found_own, tie_self}
use Rattle.run_overlay.specs.Keys.{id_cmp}
use Rattle.run_overlay.specs.Kept.{IsTable}
use Rattle.run_overlay.specs.Sought.{AreHeld, IsHeld}

all_held : (es : List EntityChange) → IsTable es → AllByRecursion (IsHeld es) (map (λ e. e.1) es)
all_held es table =
    all_places (IsHeld es) (map (λ e. e.1) es)
    (λ i stored at.
    let there : slice_get es i ≡ Some (stored.entity.id, stored) =
    ap (λ xs. slice_get xs i) (sym table.keyed)
    ∙ slice_get-map (λ s. (s.entity.id, s)) (map (λ e. e.1) es) i
    ∙ ap (option_map (λ s. (s.entity.id, s))) at in
    at_place (λ e. eq_by_cmp id_cmp stored.entity.id e.0 ≡ true → find id_cmp stored.entity.id es ≡ Some e.1) es
    (found_own nat_list_cmp_total (slice_cmp-IsAntisymmetric nat_cmp-IsAntisymmetric) stored.entity.id es table.rising) i (stored.entity.id, stored) there
    (tie_self nat_list_cmp_total (slice_cmp-IsAntisymmetric nat_cmp-IsAntisymmetric) stored.entity.id))

at_hand : (es : List EntityChange) (held : List (Bor Stored)) → AllByRecursion (IsHeld es) (map (λ stored. stored.now) held) → AreHeld es held
at_hand es [] all = tt
at_hand es (stored ∷ held) all = (all.0, at_hand es held all.1)

-- what was gone over, where nothing is left, is all
pub all_gone_over : {X Y : Type 0} (f : X → Y) (over : List X) (left all whole : List Y) → left ≡ [] → all ≡ whole → map f over ++ left ≡ all → map f over ≡ whole
all_gone_over f over left all whole none are so_far = sym (append-nil (map f over)) ∙ ap (λ xs. map f over ++ xs) (sym none) ∙ so_far ∙ are

pub table_held : (es : List EntityChange) → IsTable es → (held : List (Bor Stored)) (left all : List Stored) → left ≡ [] → all ≡ map (λ e. e.1) es
    → map (λ stored. stored.now) held ++ left ≡ all → AreHeld es held
table_held es table held left all none are so_far =
    let now = all_gone_over (λ stored. stored.now) held left all (map (λ e. e.1) es) none are so_far in
    at_hand es held (subst (AllByRecursion (IsHeld es)) (sym now) (all_held es table))

-- something that is held, under an id that is its own
pub held_at : (es : List EntityChange) (stored : Stored) (id : List ℕ) → IsHeld es stored → is_eq (slice_cmp nat_cmp stored.entity.id id) ≡ true → find id_cmp id es ≡ Some stored
held_at es stored id held tie =
    ap (λ q. find id_cmp q es) (sym (slice_cmp-IsAntisymmetric nat_cmp-IsAntisymmetric stored.entity.id id (equal_so (slice_cmp nat_cmp stored.entity.id id) tie))) ∙ held
