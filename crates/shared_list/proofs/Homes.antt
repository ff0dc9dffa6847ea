-- In which part of a list a key stands, and what a change of that part makes of the list.
use Rattle.std.proofs.Common.{◌≡◌, ℕ, zero, suc, ◌<◌, ◌≤◌, List, [], ◌∷◌, ◌++◌, length, take, drop, get_or, set, refl, sym, ap, ◌∙◌, subst, arith, append_assoc, Less}
use Rattle.std.specs.Prelude.{T, insert, remove}
use Rattle.std.specs.Cmp.{IsTotalOrder}
use Rattle.std.specs.List.{AllByRecursion}
use Rattle.std.specs.declared.cmp.Ordering.{Ordering}
use Rattle.std.specs.FinMap.{find, put, is_sorted}
use Rattle.std.specs.FinMap.Entries.{below_all}
use Rattle.std.proofs.lemmas.Grind.{flat_map-append}
use Rattle.std.proofs.lemmas.List.{take-append-drop, set_split}
use Rattle.shared_list.specs.Order.{entries, all_entries, without, entries_from, AllBelow, AllAbove, IsGap, IsAt, IsHome, Rises, AreParts}
use Rattle.shared_list.proofs.Middle.{put_middle, without_middle, find_middle, from_middle, above_less, below_less, below_equal, sorted_behind, sorted_before, sorted_back, sorted_front, below_back, second_so, first_so, both_so}
use Rattle.shared_list.proofs.Places.{split_here}
use Rattle.shared_list.proofs.Each.{each_back, each_at}

-- the key of the first item of a part; of an empty part any key
abbrev pub lead : {K X : Type 0} → (X → K) → K → List X → K
lead key any [] = any
lead key any (x ∷ xs) = key x

-- a part more after one that was changed
insert_next : {Y : Type 0} (ys : List Y) (i : ℕ) (y z : Y) → i < length ys → insert (set ys i y) (suc i) z ≡ take i ys ++ y ∷ z ∷ drop (suc i) ys
insert_next [] i y z h = absurd (omega arith)
insert_next (x ∷ ys) zero y z h = refl
insert_next (x ∷ ys) (suc i) y z h = ap (λ zs. x ∷ zs) (insert_next ys i y z (omega arith))

module _ {K X : Type 0} {cmp : K → K → Ordering} (o : IsTotalOrder cmp) (key : X → K) where
  all_entries_split : (parts : List (List X)) (i : ℕ) → all_entries key parts ≡ all_entries key (take i parts) ++ all_entries key (drop i parts)
  all_entries_split parts i = ap (all_entries key) (sym (take-append-drop i parts)) ∙ flat_map-append (entries key) (take i parts) (drop i parts)

  parts_back : (n : ℕ) (parts : List (List X)) → AreParts cmp key parts → AreParts cmp key (drop n parts)
  parts_back n parts are = record {
    sorted = sorted_back o (all_entries key (take n parts)) (all_entries key (drop n parts)) (subst (λ es. T (is_sorted cmp es)) (all_entries_split parts n) are.sorted);
    filled = each_back (λ part. 0 < length part) n parts are.filled;
  }

  -- ---- the first keys of parts

  module _ (any : K) where
    -- a key below the first keys of parts in order is below all of them
    above_parts : (k : K) (parts : List (List X)) → AreParts cmp key parts → AllAbove cmp k (entries (lead key any) parts) → AllAbove cmp k (all_entries key parts)
    above_parts k [] are above = tt
    above_parts k ([] ∷ parts) are above = let h = are.filled.0 in absurd (omega arith)
    above_parts k ((x ∷ xs) ∷ parts) are above = (above.0, above_less o k (key x) (entries key xs ++ all_entries key parts) above.0 (sorted_behind o (key x, x) (entries key xs ++ all_entries key parts) are.sorted))

    -- what stands before a part is below its first key
    below_lead : (front : List (K × X)) (parts : List (List X)) (part : List X) → T (is_sorted cmp (front ++ all_entries key (part ∷ parts))) → 0 < length part → AllBelow cmp (lead key any part) front
    below_lead front parts [] sorted h = absurd (omega arith)
    below_lead front parts (x ∷ xs) sorted h = sorted_before o front (key x, x) (entries key xs ++ all_entries key parts) sorted

    below_lead_at : (parts : List (List X)) (i : ℕ) (d : List X) → AreParts cmp key parts → i < length parts → AllBelow cmp (lead key any (get_or parts i d)) (all_entries key (take i parts))
    below_lead_at parts i d are h =
        below_lead (all_entries key (take i parts)) (drop (suc i) parts) (get_or parts i d)
        (subst (λ es. T (is_sorted cmp es)) (all_entries_split parts i ∙ ap (λ ps. all_entries key (take i parts) ++ all_entries key ps) (split_here parts i d h)) are.sorted)
        (each_at (λ part. 0 < length part) i parts d h are.filled)

    -- the part whose first key is the key
    pub home_at : (k : K) (parts : List (List X)) (i : ℕ) → AreParts cmp key parts → IsAt cmp (lead key any) k parts i → IsHome cmp key k parts i
    home_at k parts i are at = record {
      within = at.within;
      before = below_equal o k (lead key any (get_or parts i [])) (all_entries key (take i parts)) (at.here []) (below_lead_at parts i [] are at.within);
      behind = above_parts k (drop (suc i) parts) (parts_back (suc i) parts are) at.behind;
    }

    -- the part before the first whose first key is above the key
    pub home_before : (k : K) (parts : List (List X)) (i : ℕ) → AreParts cmp key parts → suc i ≤ length parts → IsGap cmp (lead key any) k parts (suc i) → IsHome cmp key k parts i
    home_before k parts i are h gap = record {
      within = omega arith;
      before = below_less o k (lead key any (get_or parts i [])) (all_entries key (take i parts)) (last_below parts i h gap.before) (below_lead_at parts i [] are (omega arith));
      behind = above_parts k (drop (suc i) parts) (parts_back (suc i) parts are) gap.behind;
    }
      where
        last_below : (ps : List (List X)) (n : ℕ) → suc n ≤ length ps → AllBelow cmp k (entries (lead key any) (take (suc n) ps)) → cmp (lead key any (get_or ps n [])) k ≡ Less
        last_below [] n h all = absurd (omega arith)
        last_below (p ∷ ps) zero h all = all.0
        last_below (p ∷ ps) (suc n) h all = last_below ps n (omega arith) all.1

    -- the first part, where the key is below all
    pub home_first : (k : K) (parts : List (List X)) → AreParts cmp key parts → 0 < length parts → IsGap cmp (lead key any) k parts 0 → IsHome cmp key k parts 0
    home_first k parts are h gap = record {
      within = h;
      before = tt;
      behind = above_parts k (drop 1 parts) (parts_back 1 parts are) (rest_above parts gap.behind);
    }
      where
        rest_above : (ps : List (List X)) → AllAbove cmp k (entries (lead key any) ps) → AllAbove cmp k (entries (lead key any) (drop 1 ps))
        rest_above [] all = tt
        rest_above (p ∷ ps) all = all.1

    -- first keys rise from part to part
    leads_above : (k : K) (parts : List (List X)) → AllByRecursion (λ part. 0 < length part) parts → T (below_all cmp k (all_entries key parts)) → T (below_all cmp k (entries (lead key any) parts))
    leads_above k [] all h = tt
    leads_above k ([] ∷ parts) all h = let empty = all.0 in absurd (omega arith)
    leads_above k ((x ∷ xs) ∷ parts) all h = both_so _ _ (first_so _ _ h) (leads_above k parts all.1 (below_back o k (entries key xs) (all_entries key parts) (second_so _ _ h)))

    leads_rise : (parts : List (List X)) → AllByRecursion (λ part. 0 < length part) parts → T (is_sorted cmp (all_entries key parts)) → T (is_sorted cmp (entries (lead key any) parts))
    leads_rise [] all h = tt
    leads_rise ([] ∷ parts) all h = let empty = all.0 in absurd (omega arith)
    leads_rise ((x ∷ xs) ∷ parts) all h =
        both_so _ _ (leads_above (key x) parts all.1 (below_back o (key x) (entries key xs) (all_entries key parts) (first_so _ _ h)))
        (leads_rise parts all.1 (sorted_back o (entries key (x ∷ xs)) (all_entries key parts) h))

    pub Rises-leads : (parts : List (List X)) → AreParts cmp key parts → Rises cmp (lead key any) parts
    Rises-leads parts are = record { sorted = leads_rise parts are.filled are.sorted }

  -- ---- what a change at its home makes of the list

  at_home : (parts : List (List X)) (i : ℕ) (d : List X) → i < length parts → all_entries key parts ≡ all_entries key (take i parts) ++ (entries key (get_or parts i d) ++ all_entries key (drop (suc i) parts))
  at_home parts i d h = all_entries_split parts i ∙ ap (λ ps. all_entries key (take i parts) ++ all_entries key ps) (split_here parts i d h)

  all_entries_set : (parts : List (List X)) (i : ℕ) (part : List X) → i < length parts → all_entries key (set parts i part) ≡ all_entries key (take i parts) ++ (entries key part ++ all_entries key (drop (suc i) parts))
  all_entries_set parts i part h = ap (all_entries key) (set_split parts i part h) ∙ flat_map-append (entries key) (take i parts) (part ∷ drop (suc i) parts)

  -- the part's list of entries is changed by a put, and so is the whole
  put_parts : (k : K) (v : X) (parts : List (List X)) (i : ℕ) (d : List X) (new : List (K × X)) → IsHome cmp key k parts i → new ≡ put cmp k v (entries key (get_or parts i d)) → all_entries key (take i parts) ++ (new ++ all_entries key (drop (suc i) parts)) ≡ put cmp k v (all_entries key parts)
  put_parts k v parts i d new home is =
      ap (λ es. all_entries key (take i parts) ++ (es ++ all_entries key (drop (suc i) parts))) is
      ∙ sym (put_middle o k v (all_entries key (take i parts)) (entries key (get_or parts i d)) (all_entries key (drop (suc i) parts)) home.before home.behind)
      ∙ ap (put cmp k v) (sym (at_home parts i d home.within))

  pub put_home : (k : K) (v : X) (parts : List (List X)) (i : ℕ) (d part : List X) → IsHome cmp key k parts i → entries key part ≡ put cmp k v (entries key (get_or parts i d)) → all_entries key (set parts i part) ≡ put cmp k v (all_entries key parts)
  put_home k v parts i d part home is = all_entries_set parts i part home.within ∙ put_parts k v parts i d (entries key part) home is

  pub put_home_split : (k : K) (v : X) (parts : List (List X)) (i j : ℕ) (d part rest : List X) → IsHome cmp key k parts i → j ≡ suc i → entries key part ++ entries key rest ≡ put cmp k v (entries key (get_or parts i d)) → all_entries key (insert (set parts i part) j rest) ≡ put cmp k v (all_entries key parts)
  put_home_split k v parts i j d part rest home next is =
      ap (λ n. all_entries key (insert (set parts i part) n rest)) next
      ∙ ap (all_entries key) (insert_next parts i part rest home.within)
      ∙ flat_map-append (entries key) (take i parts) (part ∷ rest ∷ drop (suc i) parts)
      ∙ ap (λ es. all_entries key (take i parts) ++ es) (sym (append_assoc (entries key part) (entries key rest) (all_entries key (drop (suc i) parts))))
      ∙ put_parts k v parts i d (entries key part ++ entries key rest) home is

  without_parts : (k : K) (parts : List (List X)) (i : ℕ) (d : List X) (new : List (K × X)) → IsHome cmp key k parts i → new ≡ without cmp k (entries key (get_or parts i d)) → all_entries key (take i parts) ++ (new ++ all_entries key (drop (suc i) parts)) ≡ without cmp k (all_entries key parts)
  without_parts k parts i d new home is =
      ap (λ es. all_entries key (take i parts) ++ (es ++ all_entries key (drop (suc i) parts))) is
      ∙ sym (without_middle o k (all_entries key (take i parts)) (entries key (get_or parts i d)) (all_entries key (drop (suc i) parts)) home.before home.behind)
      ∙ ap (without cmp k) (sym (at_home parts i d home.within))

  pub without_home : (k : K) (parts : List (List X)) (i : ℕ) (d part : List X) → IsHome cmp key k parts i → entries key part ≡ without cmp k (entries key (get_or parts i d)) → all_entries key (set parts i part) ≡ without cmp k (all_entries key parts)
  without_home k parts i d part home is = all_entries_set parts i part home.within ∙ without_parts k parts i d (entries key part) home is

  -- a part of which nothing is left goes
  pub without_home_all : (k : K) (parts : List (List X)) (i : ℕ) (d : List X) → IsHome cmp key k parts i → [] ≡ without cmp k (entries key (get_or parts i d)) → all_entries key (remove parts i) ≡ without cmp k (all_entries key parts)
  without_home_all k parts i d home is = flat_map-append (entries key) (take i parts) (drop (suc i) parts) ∙ without_parts k parts i d [] home is

  pub find_home : (k : K) (parts : List (List X)) (i : ℕ) (d : List X) → IsHome cmp key k parts i → find cmp k (all_entries key parts) ≡ find cmp k (entries key (get_or parts i d))
  find_home k parts i d home = ap (find cmp k) (at_home parts i d home.within) ∙ find_middle o k (all_entries key (take i parts)) (entries key (get_or parts i d)) (all_entries key (drop (suc i) parts)) home.before home.behind

  -- from the key on stands what its part has from it on, and then all later parts
  pub from_home : (k : K) (parts : List (List X)) (i : ℕ) (d : List X) → IsHome cmp key k parts i → entries_from cmp k (all_entries key parts) ≡ entries_from cmp k (entries key (get_or parts i d)) ++ all_entries key (drop (suc i) parts)
  from_home k parts i d home = ap (entries_from cmp k) (at_home parts i d home.within) ∙ from_middle o k (all_entries key (take i parts)) (entries key (get_or parts i d)) (all_entries key (drop (suc i) parts)) home.before home.behind

  -- a part is in order
  pub Rises-part : (parts : List (List X)) (i : ℕ) (d : List X) → AreParts cmp key parts → i < length parts → Rises cmp key (get_or parts i d)
  Rises-part parts i d are h = record {
    sorted = sorted_front o (entries key (get_or parts i d)) (all_entries key (drop (suc i) parts))
        (sorted_back o (all_entries key (take i parts)) _ (subst (λ es. T (is_sorted cmp es)) (at_home parts i d h) are.sorted));
  }
