-- Lists one after another in one list.
use Rattle.std.proofs.Common.{◌≡◌, ℕ, zero, suc, ◌+◌, ◌-◌, ◌<◌, ◌≤◌, List, [], ◌∷◌, ◌++◌, length, map, take, drop, slice_get, slice_index, slice_range, unwrap_or, append-nil, append_assoc, zero-add, refl, sym, ap, subst, ◌∙◌, inl, inr, arith}
use Rattle.std.specs.List.{range_with_len}
use Rattle.std.proofs.lemmas.Bool.{cases_lt}
use Rattle.std.proofs.lemmas.List.{get_or_append_left, get_or_push, length_push, length-append, length-drop, take_all, take-append-le, drop-append-le, drop_at}
use Rattle.std.proofs.lemmas.List.FromFn.{get_or-map-range_with_len, length-map-range_with_len, map-range_with_len_more}
use Rattle.std.proofs.lemmas.Option.{slice_get_past, unwrap_or-slice_get}
use Rattle.order.specs.Order.{ordered}
use Rattle.stop_index.specs.declared.trip_departure.TripDeparture.{TripDeparture}
use Rattle.stop_index.specs.Index.{departure_cmp}
use Rattle.stop_index.specs.Flat.{list_in, lists_in, AreOffsets}

module _ {X : Type 0} where
  -- the list of a number
  pub list_is : (offsets : List ℕ) (items : List X) (number : ℕ) → number + 1 < length offsets → unwrap_or (slice_get (lists_in offsets items) number) [] ≡ list_in offsets items number
  list_is offsets items number h =
      unwrap_or-slice_get (lists_in offsets items) number []
      ∙ get_or-map-range_with_len (list_in offsets items) 0 (length offsets - 1) number number [] (omega arith) (zero-add number)

  pub no_list : (offsets : List ℕ) (items : List X) (number : ℕ) → length offsets ≤ number + 1 → unwrap_or (slice_get (lists_in offsets items) number) [] ≡ []
  no_list offsets items number h =
      ap (λ o. unwrap_or o []) (slice_get_past (lists_in offsets items) number (omega (arith, length-map-range_with_len (list_in offsets items) 0 (length offsets - 1))))

  -- ---- one list more

  module _ (offsets : List ℕ) (items more : List X) (n : ℕ) (are : AreOffsets offsets (length items)) (size : n ≡ length (items ++ more)) where
    grown : n ≡ length items + length more
    grown = size ∙ length-append items more

    old_offset : (i : ℕ) → i < length offsets → slice_index (offsets ++ n ∷ []) i ≡ slice_index offsets i
    old_offset i h = get_or_append_left offsets (n ∷ []) 0 i h

    new_offset : slice_index (offsets ++ n ∷ []) (length offsets) ≡ n
    new_offset = get_or_push offsets n 0 (length offsets) refl

    old_list : (i : ℕ) → i + 1 < length offsets → list_in (offsets ++ n ∷ []) (items ++ more) i ≡ list_in offsets items i
    old_list i h =
        let from = slice_index offsets i in
        let to = slice_index offsets (i + 1) in
        let rise : from ≤ to = are.rise i h in
        let within : to ≤ length items = are.within (i + 1) h in
        let kept : to - from ≤ length (drop from items) = omega (arith, length-drop from items) in
        ap (λ a. slice_range (items ++ more) a (slice_index (offsets ++ n ∷ []) (i + 1))) (old_offset i (omega arith))
        ∙ ap (λ b. slice_range (items ++ more) from b) (old_offset (i + 1) h)
        ∙ ap (take (to - from)) (drop-append-le from items more (omega arith))
        ∙ take-append-le (to - from) (drop from items) more kept

    new_list : (i : ℕ) → i + 1 ≡ length offsets → list_in (offsets ++ n ∷ []) (items ++ more) i ≡ more
    new_list i e =
        let start : slice_index offsets i ≡ length items = ap (slice_index offsets) (omega arith) ∙ are.last in
        ap (λ a. slice_range (items ++ more) a (slice_index (offsets ++ n ∷ []) (i + 1))) (old_offset i (omega arith) ∙ start)
        ∙ ap (λ b. slice_range (items ++ more) (length items) b) (ap (slice_index (offsets ++ n ∷ [])) e ∙ new_offset)
        ∙ ap (take (n - length items)) (drop_at items more (length items) refl)
        ∙ take_all (n - length items) more (omega (arith, grown))

    pub list_more : lists_in (offsets ++ n ∷ []) (items ++ more) ≡ lists_in offsets items ++ more ∷ []
    list_more =
        let some : 0 < length offsets = are.some in
        let one_more : length (offsets ++ n ∷ []) - 1 ≡ (length offsets - 1) + 1 = omega (arith, length_push offsets n) in
        ap (λ k. map (list_in (offsets ++ n ∷ []) (items ++ more)) (range_with_len 0 k)) one_more
        ∙ map-range_with_len_more (list_in (offsets ++ n ∷ []) (items ++ more)) 0 (length offsets - 1) (length offsets - 1) (zero-add (length offsets - 1))
        ∙ ap (λ l. map (list_in (offsets ++ n ∷ []) (items ++ more)) (range_with_len 0 (length offsets - 1)) ++ l ∷ []) (new_list (length offsets - 1) (omega arith))
        ∙ ap (λ ls. ls ++ more ∷ []) (same_front 0 (length offsets - 1) (λ i low high. old_list i (omega arith)))
      where
        same_front : (a k : ℕ) → ((i : ℕ) → a ≤ i → i < a + k → list_in (offsets ++ n ∷ []) (items ++ more) i ≡ list_in offsets items i)
            → map (list_in (offsets ++ n ∷ []) (items ++ more)) (range_with_len a k) ≡ map (list_in offsets items) (range_with_len a k)
        same_front a zero same = refl
        same_front a (suc k) same =
            ap (λ l. l ∷ map (list_in (offsets ++ n ∷ []) (items ++ more)) (range_with_len (a + 1) k)) (same a (omega arith) (omega arith))
            ∙ ap (λ ls. list_in offsets items a ∷ ls) (same_front (a + 1) k (λ i low high. same i (omega arith) (omega arith)))

    pub offsets_more : AreOffsets (offsets ++ n ∷ []) (length (items ++ more))
    offsets_more = record {
      some = omega (arith, length_push offsets n);
      rise = λ i h. elim (cases_lt (i + 1) (length offsets)) [
        | inl lt ↦ let before = are.rise i lt in omega (arith, old_offset i (omega arith), old_offset (i + 1) lt)
        | inr ge ↦
            let at : i + 1 ≡ length offsets = omega (arith, length_push offsets n) in
            let low = are.within i (omega arith) in
            omega (arith, old_offset i (omega arith), ap (slice_index (offsets ++ n ∷ [])) at ∙ new_offset, grown)
      ];
      within = λ i h. elim (cases_lt i (length offsets)) [
        | inl lt ↦ let low = are.within i lt in omega (arith, old_offset i lt, grown, size)
        | inr ge ↦ let at : i ≡ length offsets = omega (arith, length_push offsets n) in omega (arith, ap (slice_index (offsets ++ n ∷ [])) at ∙ new_offset, size)
      ];
      last = ap (slice_index (offsets ++ n ∷ [])) (omega (arith, length_push offsets n)) ∙ new_offset ∙ size;
    }

-- ---- all lists, each in order

pub record IsFlat (offsets : List ℕ) (departures : List TripDeparture) (left all : List (List TripDeparture)) : Type 0 where
  pub are : AreOffsets offsets (length departures)
  pub goes : lists_in offsets departures ++ map (ordered departure_cmp) left ≡ map (ordered departure_cmp) all

pub flat_none : (all : List (List TripDeparture)) → IsFlat (0 ∷ []) [] all all
flat_none all = record {
  are = record {
    some = omega arith;
    rise = λ i h. absurd (omega arith);
    within = within;
    last = refl;
  };
  goes = refl;
} where
  within : (i : ℕ) → i < 1 → slice_index (0 ∷ []) i ≤ 0
  within zero h = omega arith
  within (suc i) h = absurd (omega arith)

pub flat_more : (offsets : List ℕ) (departures list sorted : List TripDeparture) (left all : List (List TripDeparture)) (n : ℕ) → n ≡ length (departures ++ sorted) → sorted ≡ ordered departure_cmp list
    → IsFlat offsets departures (list ∷ left) all → IsFlat (offsets ++ n ∷ []) (departures ++ sorted) left all
flat_more offsets departures list sorted left all n size is flat = record {
  are = offsets_more offsets departures sorted n flat.are size;
  goes =
      ap (λ ls. ls ++ map (ordered departure_cmp) left) (list_more offsets departures sorted n flat.are size)
      ∙ append_assoc (lists_in offsets departures) (sorted ∷ []) (map (ordered departure_cmp) left)
      ∙ ap (λ l. lists_in offsets departures ++ l ∷ map (ordered departure_cmp) left) is
      ∙ flat.goes;
}

pub flat_begins : (offsets : List ℕ) (departures : List TripDeparture) (left all : List (List TripDeparture)) → offsets ≡ 0 ∷ [] → departures ≡ [] → left ≡ all → IsFlat offsets departures left all
flat_begins offsets departures left all first none same = rw (first, none, same) (flat_none all)

pub flat_step : (offsets offsets' : List ℕ) (departures departures' list sorted : List TripDeparture) (before left all : List (List TripDeparture)) (n : ℕ) → offsets' ≡ offsets ++ n ∷ [] → departures' ≡ departures ++ sorted
    → n ≡ length departures' → sorted ≡ ordered departure_cmp list → before ≡ list ∷ left → IsFlat offsets departures before all → IsFlat offsets' departures' left all
flat_step offsets offsets' departures departures' list sorted before left all n pushed extended size is here flat =
    let P : List (List TripDeparture) → Type 0 = λ ls. IsFlat offsets departures ls all in
    rw (pushed, extended) (flat_more offsets departures list sorted left all n (size ∙ ap length extended) is (subst P here flat))

pub flat_all : (offsets : List ℕ) (departures : List TripDeparture) (left all : List (List TripDeparture)) → left ≡ [] → IsFlat offsets departures left all → lists_in offsets departures ≡ map (ordered departure_cmp) all
flat_all offsets departures left all none flat =
    sym (append-nil (lists_in offsets departures)) ∙ ap (λ ls. lists_in offsets departures ++ map (ordered departure_cmp) ls) (sym none) ∙ flat.goes
