-- The laws of parts at parts that are shared.
use Rattle.std.proofs.Common.{◌≡◌, ℕ, zero, suc, ◌+◌, ◌-◌, ◌<◌, ◌≤◌, List, [], ◌∷◌, ◌++◌, Ok, Err, length, map, take, drop, get_or, set, Option, refl, sym, ap, ◌∙◌, subst, arith, append-nil, Bool, false, nat_eq, Less, Equal, Greater}
use Rattle.std.specs.Prelude.{T, insert, remove}
use Rattle.std.specs.Cmp.{IsTotalOrder}
use Rattle.std.specs.FinMap.{find, put, is_sorted}
use Rattle.std.specs.List.{flat_map, HoldsAt, AllByRecursion}
use Rattle.std.specs.List.Sorted.{IsNonDecreasingBy, IsPartitionPoint}
use Rattle.std.specs.Ordering.{ordering_index}
use Rattle.std.specs.declared.cmp.Ordering.{Ordering}
use Rattle.std.specs.declared.sync.Arc.{Arc}
use Rattle.std.specs.declared.alloc.Global.{Global}
use Rattle.std.proofs.Math.Dec.{eqb-suc-zero}
use Rattle.std.proofs.lemmas.Grind.{flat_map-append}
use Rattle.std.proofs.lemmas.List.{length-map, map-append, map-set}
use Rattle.shared_list.specs.Order.{entries, all_entries, item_with, items_from, entries_from, without, at_first, IsGap, IsHome, Rises, AreParts}
use Rattle.shared_list.specs.Parts.{parts_of, items_in, AreSound, TellsLeft}
use Rattle.shared_list.proofs.Places.{searched, search_same, items_entries, IsAt-map, IsGap-map, Rises-map}
use Rattle.shared_list.proofs.Each.{each_at, each_set, each_insert, each_before, each_behind, remove_set}
use Rattle.shared_list.proofs.Homes.{lead, Rises-leads, Rises-part, home_at, home_before, home_first, put_home, put_home_split, without_home, without_home_all, find_home, from_home}

abbrev Share : Type 0 → Type 0
Share P = Arc P Global

-- ---- parts that are shared are a list of lists

joined_entries : {K X : Type 0} (key : X → K) (parts : List (List X)) → entries key (flat_map (λ part. part) parts) ≡ all_entries key parts
joined_entries key [] = refl
joined_entries key (part ∷ parts) = map-append (λ x. (key x, x)) part (flat_map (λ p. p) parts) ∙ ap (λ es. entries key part ++ es) (joined_entries key parts)

-- the items of all entries
joined_items : {K X : Type 0} (key : X → K) (parts : List (List X)) → map (λ e. e.1) (all_entries key parts) ≡ flat_map (λ part. part) parts
joined_items {K} {X} key parts = ap (map (λ (e : K × X). e.1)) (sym (joined_entries key parts)) ∙ items_entries key (flat_map (λ part. part) parts)

module _ {P X : Type 0} (items : P → List X) where
  take_parts : (n : ℕ) (shares : List (Share P)) → parts_of items (take n shares) ≡ take n (parts_of items shares)
  take_parts zero shares = refl
  take_parts (suc n) [] = refl
  take_parts (suc n) (share ∷ shares) = ap (λ parts. items share.value ∷ parts) (take_parts n shares)

  drop_parts : (n : ℕ) (shares : List (Share P)) → parts_of items (drop n shares) ≡ drop n (parts_of items shares)
  drop_parts zero shares = refl
  drop_parts (suc n) [] = refl
  drop_parts (suc n) (share ∷ shares) = drop_parts n shares

  set_parts : (shares : List (Share P)) (i : ℕ) (share : Share P) → parts_of items (set shares i share) ≡ set (parts_of items shares) i (items share.value)
  set_parts shares i share = map-set (λ s. items s.value) shares i share

  insert_parts : (shares : List (Share P)) (i : ℕ) (share : Share P) → parts_of items (insert shares i share) ≡ insert (parts_of items shares) i (items share.value)
  insert_parts shares i share =
      map-append (λ s. items s.value) (take i shares) (share ∷ drop i shares)
      ∙ ap (λ front. front ++ items share.value ∷ parts_of items (drop i shares)) (take_parts i shares)
      ∙ ap (λ back. take i (parts_of items shares) ++ items share.value ∷ back) (drop_parts i shares)

  remove_parts : (shares : List (Share P)) (i : ℕ) → parts_of items (remove shares i) ≡ remove (parts_of items shares) i
  remove_parts shares i =
      map-append (λ s. items s.value) (take i shares) (drop (suc i) shares)
      ∙ ap (λ front. front ++ parts_of items (drop (suc i) shares)) (take_parts i shares)
      ∙ ap (λ back. take i (parts_of items shares) ++ back) (drop_parts (suc i) shares)

  part_at : (shares : List (Share P)) (i : ℕ) (share : Share P) → i < length (parts_of items shares) → share ≡ get_or shares i share → items share.value ≡ get_or (parts_of items shares) i []
  part_at [] i share h is = absurd (omega arith)
  part_at (s ∷ shares) zero share h is = ap (λ x. items x.value) is
  part_at (s ∷ shares) (suc i) share h is = part_at shares i share (omega arith) is

  pub join_parts : (front back whole : List (Share P)) → front ++ back ≡ whole → items_in items front ++ items_in items back ≡ items_in items whole
  join_parts front back whole is =
      sym (flat_map-append (λ part. part) (parts_of items front) (parts_of items back))
      ∙ ap (flat_map (λ part. part)) (sym (map-append (λ s. items s.value) front back))
      ∙ ap (items_in items) is

-- ---- where the key stands

module _ {K P X : Type 0} {cmp : K → K → Ordering} (o : IsTotalOrder cmp) (key : X → K) (items : P → List X) (sound : P → Type 0) where
  filled_parts : (shares : List (Share P)) → AreSound items sound shares → AllByRecursion (λ part. 0 < length part) (parts_of items shares)
  filled_parts [] are = tt
  filled_parts (share ∷ shares) are = (are.0.1, filled_parts shares are.1)

  AreParts-shares : (shares : List (Share P)) → AreSound items sound shares → Rises cmp key (items_in items shares) → AreParts cmp key (parts_of items shares)
  AreParts-shares shares are up = record {
    sorted = subst (λ es. T (is_sorted cmp es)) (joined_entries key (parts_of items shares)) up.sorted;
    filled = filled_parts shares are;
  }

  -- parts that are not empty have a key
  a_key : (shares : List (Share P)) → AreSound items sound shares → 0 < length shares → K
  a_key [] are some = absurd (omega arith)
  a_key (share ∷ shares) are some = first (items share.value) are.0.1
    where
      first : (xs : List X) → 0 < length xs → K
      first [] h = absurd (omega arith)
      first (x ∷ xs) h = key x

  module _ (lead_cmp : P → K → Ordering) (leads : (k : K) (part : P) → sound part → lead_cmp part k ≡ at_first (λ x. cmp (key x) k) (items part)) (k : K) (shares : List (Share P)) (are : AreSound items sound shares) (up : Rises cmp key (items_in items shares)) where
    module _ (any : K) where
      parts : AreParts cmp key (parts_of items shares)
      parts = AreParts-shares shares are up

      leads_up : Rises cmp (λ share. lead key any (items share.value)) shares
      leads_up = Rises-map cmp (lead key any) (λ share. items share.value) shares (Rises-leads o key any (parts_of items shares) parts)

      -- a part stands to the key as its first key does
      by_leads : (ss : List (Share P)) → AreSound items sound ss → AllByRecursion (λ share. lead_cmp share.value k ≡ cmp (lead key any (items share.value)) k) ss
      by_leads [] are = tt
      by_leads (s ∷ ss) are = (leads k s.value are.0.0 ∙ first (items s.value) are.0.1, by_leads ss are.1)
        where
          first : (xs : List X) → 0 < length xs → at_first (λ x. cmp (key x) k) xs ≡ cmp (lead key any xs) k
          first [] h = absurd (omega arith)
          first (x ∷ xs) h = refl

      found_by : (i : ℕ) → i < length shares → HoldsAt (λ share. lead_cmp share.value k ≡ Equal) shares i → IsHome cmp key k (parts_of items shares) i
      found_by i h found =
          home_at o key any k (parts_of items shares) i parts
          (IsAt-map cmp (lead key any) (λ share. items share.value) k shares i
          (searched o (λ share. lead key any (items share.value)) shares leads_up k (Ok i) h
          (search_same (λ share. lead_cmp share.value k) (λ share. cmp (lead key any (items share.value)) k) shares (by_leads shares are) (Ok i) h found)))

      missed_by : (i at : ℕ) → at ≡ i - 1 → 0 < length shares → i ≤ length shares → (IsNonDecreasingBy (λ share. ordering_index (lead_cmp share.value k)) shares → IsPartitionPoint (λ share. lead_cmp share.value k ≡ Less) (λ share. lead_cmp share.value k ≡ Greater) shares i) → IsHome cmp key k (parts_of items shares) at
      missed_by i at is some h split =
          by_place i is
          (IsGap-map cmp (lead key any) (λ share. items share.value) k shares i
          (searched o (λ share. lead key any (items share.value)) shares leads_up k (Err i) h
          (search_same (λ share. lead_cmp share.value k) (λ share. cmp (lead key any (items share.value)) k) shares (by_leads shares are) (Err i) h split)))
        where
          long : length (parts_of items shares) ≡ length shares
          long = length-map shares (λ share. items share.value)

          by_place : (n : ℕ) → at ≡ n - 1 → IsGap cmp (lead key any) k (parts_of items shares) n → IsHome cmp key k (parts_of items shares) at
          by_place zero e gap = let first : at ≡ 0 = omega arith in let l = long in subst (λ m. IsHome cmp key k (parts_of items shares) m) (sym first) (home_first o key any k (parts_of items shares) parts (omega arith) gap)
          by_place (suc n) e gap = let before : at ≡ n = omega arith in subst (λ m. IsHome cmp key k (parts_of items shares) m) (sym before) (home_before o key any k (parts_of items shares) n parts gap.within gap)

    -- the part whose first key is the key
    pub home_found : (i : ℕ) → i < length shares → HoldsAt (λ share. lead_cmp share.value k ≡ Equal) shares i → IsHome cmp key k (parts_of items shares) i
    home_found i h found = found_by (a_key shares are (omega arith)) i h found

    -- else the one before the first whose first key is above it
    pub home_missed : (i at : ℕ) → at ≡ i - 1 → 0 < length shares → i ≤ length shares → (IsNonDecreasingBy (λ share. ordering_index (lead_cmp share.value k)) shares → IsPartitionPoint (λ share. lead_cmp share.value k ≡ Less) (λ share. lead_cmp share.value k ≡ Greater) shares i) → IsHome cmp key k (parts_of items shares) at
    home_missed i at is some h split = missed_by (a_key shares are some) i at is some h split

  -- ---- the part at its home, and what a change of it makes of all

  module _ (k : K) (shares : List (Share P)) (i : ℕ) (here : Share P) (home : IsHome cmp key k (parts_of items shares) i) (seen : here ≡ get_or shares i here) where
    pub good_here : AreSound items sound shares → (sound here.value) × (0 < length (items here.value))
    good_here are =
        let long : length (parts_of items shares) ≡ length shares = length-map shares (λ share. items share.value) in
        let h = home.within in
        let good : Share P → Type 0 = λ share. (sound share.value) × (0 < length (items share.value)) in
        subst good (sym seen) (each_at good i shares here (omega arith) are)

    pub Rises-here : AreSound items sound shares → Rises cmp key (items_in items shares) → Rises cmp key (items here.value)
    Rises-here are up =
        subst (λ xs. Rises cmp key xs) (sym (part_at items shares i here home.within seen))
        (Rises-part o key (parts_of items shares) i [] (AreParts-shares shares are up) home.within)

    pub find_here : item_with cmp key k (items here.value) ≡ item_with cmp key k (items_in items shares)
    find_here =
        ap (λ xs. find cmp k (entries key xs)) (part_at items shares i here home.within seen)
        ∙ sym (find_home o key k (parts_of items shares) i [] home)
        ∙ ap (find cmp k) (sym (joined_entries key (parts_of items shares)))

    -- what has the key in it has the key in all
    pub item_here : (had : Option X) → had ≡ item_with cmp key k (items here.value) → had ≡ item_with cmp key k (items_in items shares)
    item_here had is = is ∙ find_here

    -- what stands from the key on
    pub from_here : (j : ℕ) → j ≡ i + 1 → items_from cmp key k (items_in items shares) ≡ items_from cmp key k (items here.value) ++ items_in items (drop j shares)
    from_here j next =
        ap (λ (es : List (K × X)). map (λ e. e.1) (entries_from cmp k es)) (joined_entries key (parts_of items shares))
        ∙ ap (map (λ (e : K × X). e.1)) (from_home o key k (parts_of items shares) i [] home)
        ∙ map-append (λ (e : K × X). e.1) (entries_from cmp k (entries key (get_or (parts_of items shares) i []))) (all_entries key (drop (suc i) (parts_of items shares)))
        ∙ ap (λ xs. items_from cmp key k xs ++ map (λ e. e.1) (all_entries key (drop (suc i) (parts_of items shares)))) (sym (part_at items shares i here home.within seen))
        ∙ ap (λ xs. items_from cmp key k (items here.value) ++ xs) (joined_items key (drop (suc i) (parts_of items shares)))
        ∙ ap (λ parts. items_from cmp key k (items here.value) ++ flat_map (λ part. part) parts) (sym (drop_parts items (suc i) shares))
        ∙ ap (λ n. items_from cmp key k (items here.value) ++ items_in items (drop n shares)) (sym later)
      where
        later : j ≡ suc i
        later = omega arith

    -- an item more, or another in its place
    pub put_kept : (x : X) (after : Share P) → entries key (items after.value ++ []) ≡ put cmp k x (entries key (items here.value)) → entries key (items_in items (set shares i after)) ≡ put cmp k x (entries key (items_in items shares))
    put_kept x after is =
        joined_entries key (parts_of items (set shares i after))
        ∙ ap (all_entries key) (set_parts items shares i after)
        ∙ put_home o key k x (parts_of items shares) i [] (items after.value) home
        (ap (entries key) (sym (append-nil (items after.value))) ∙ is ∙ ap (λ xs. put cmp k x (entries key xs)) (part_at items shares i here home.within seen))
        ∙ ap (put cmp k x) (sym (joined_entries key (parts_of items shares)))

    -- the same, and the back of the part is cut off
    pub put_cut : (x : X) (after behind : Share P) (rest : P) (j : ℕ) → j ≡ i + 1 → behind.value ≡ rest → entries key (items after.value ++ items rest) ≡ put cmp k x (entries key (items here.value)) → entries key (items_in items (insert (set shares i after) j behind)) ≡ put cmp k x (entries key (items_in items shares))
    put_cut x after behind rest j next held is =
        joined_entries key (parts_of items (insert (set shares i after) j behind))
        ∙ ap (all_entries key) (insert_parts items (set shares i after) j behind)
        ∙ ap (λ parts. all_entries key (insert parts j (items behind.value))) (set_parts items shares i after)
        ∙ put_home_split o key k x (parts_of items shares) i j [] (items after.value) (items behind.value) home (omega arith)
        (sym (map-append (λ y. (key y, y)) (items after.value) (items behind.value))
        ∙ ap (λ part. entries key (items after.value ++ items part)) held
        ∙ is
        ∙ ap (λ xs. put cmp k x (entries key xs)) (part_at items shares i here home.within seen))
        ∙ ap (put cmp k x) (sym (joined_entries key (parts_of items shares)))

    taken_there : (after : Share P) → entries key (items after.value) ≡ without cmp k (entries key (items here.value)) → entries key (items after.value) ≡ without cmp k (entries key (get_or (parts_of items shares) i []))
    taken_there after is = is ∙ ap (λ xs. without cmp k (entries key xs)) (part_at items shares i here home.within seen)

    -- an item less
    pub without_kept : (after : Share P) → entries key (items after.value) ≡ without cmp k (entries key (items here.value)) → entries key (items_in items (set shares i after)) ≡ without cmp k (entries key (items_in items shares))
    without_kept after is =
        joined_entries key (parts_of items (set shares i after))
        ∙ ap (all_entries key) (set_parts items shares i after)
        ∙ without_home o key k (parts_of items shares) i [] (items after.value) home (taken_there after is)
        ∙ ap (without cmp k) (sym (joined_entries key (parts_of items shares)))

    -- the same, and the part in which nothing is left goes
    pub without_gone : (after : Share P) (rest : List (Share P)) → rest ≡ remove (set shares i after) i → items after.value ≡ [] → entries key (items after.value) ≡ without cmp k (entries key (items here.value)) → entries key (items_in items rest) ≡ without cmp k (entries key (items_in items shares))
    without_gone after rest gone none is =
        ap (λ ss. entries key (items_in items ss)) (gone ∙ remove_set shares i after)
        ∙ joined_entries key (parts_of items (remove shares i))
        ∙ ap (all_entries key) (remove_parts items shares i)
        ∙ without_home_all o key k (parts_of items shares) i [] home (ap (entries key) (sym none) ∙ taken_there after is)
        ∙ ap (without cmp k) (sym (joined_entries key (parts_of items shares)))

-- ---- parts stay sound

module _ {P X : Type 0} (items : P → List X) (sound : P → Type 0) where
  abbrev pub Good : Share P → Type 0
  Good share = (sound share.value) × (0 < length (items share.value))

  pub sound_set : (shares : List (Share P)) (i : ℕ) (share : Share P) → AreSound items sound shares → sound share.value → 0 < length (items share.value) → AreSound items sound (set shares i share)
  sound_set shares i share are good some = each_set Good shares i share are (good, some)

  pub sound_cut : (shares : List (Share P)) (i j : ℕ) (share behind : Share P) (rest : P) → AreSound items sound shares → sound share.value → 0 < length (items share.value) → behind.value ≡ rest → sound rest → 0 < length (items rest) → AreSound items sound (insert (set shares i share) j behind)
  sound_cut shares i j share behind rest are good some held good_rest some_rest =
      each_insert Good (set shares i share) j behind (sound_set shares i share are good some)
      (subst (λ part. sound part) (sym held) good_rest, subst (λ part. 0 < length (items part)) (sym held) some_rest)

  pub sound_front : (front back whole : List (Share P)) → front ++ back ≡ whole → AreSound items sound whole → AreSound items sound front
  sound_front front back whole is are = each_before Good front back (subst (λ ss. AreSound items sound ss) (sym is) are)

  pub sound_back : (front back whole : List (Share P)) → front ++ back ≡ whole → AreSound items sound whole → AreSound items sound back
  sound_back front back whole is are = each_behind Good front back (subst (λ ss. AreSound items sound ss) (sym is) are)

  -- parts have items
  pub some_items : (shares : List (Share P)) → AreSound items sound shares → 0 < length shares → 0 < length (items_in items shares)
  some_items [] are some = absurd (omega arith)
  some_items (share ∷ shares) are some = before (items share.value) (items_in items shares) are.0.1
    where
      before : (front back : List X) → 0 < length front → 0 < length (front ++ back)
      before [] back h = absurd (omega arith)
      before (x ∷ xs) back h = omega arith

  -- parts have a part
  pub some_parts : (shares : List (Share P)) → 0 < length (items_in items shares) → 0 < length shares
  some_parts [] some = some
  some_parts (share ∷ shares) some = omega arith

  -- a node that was cut, where `whole` is what stands in it and `made` what was to come
  pub put_halves : {K : Type 0} (key : X → K) (made : List (K × X)) (front back whole : List (Share P)) → front ++ back ≡ whole → entries key (items_in items whole) ≡ made → entries key (items_in items front ++ items_in items back) ≡ made
  put_halves key made front back whole cut is = ap (entries key) (join_parts items front back whole cut) ∙ is

  pub put_whole : {K : Type 0} (key : X → K) (made : List (K × X)) (kept whole : List (Share P)) → kept ++ [] ≡ whole → entries key (items_in items whole) ≡ made → entries key (items_in items kept ++ []) ≡ made
  put_whole key made kept whole cut is = ap (entries key) (append-nil (items_in items kept) ∙ ap (items_in items) (sym (append-nil kept) ∙ cut)) ∙ is

  -- whether parts are left tells whether items are
  pub tells_left : (shares : List (Share P)) (n : ℕ) (b : Bool) → AreSound items sound shares → n ≡ length shares → b ≡ nat_eq n 0 → TellsLeft b (items_in items shares)
  tells_left [] n b are long is = subst (λ t. TellsLeft t (items_in items [])) (sym (is ∙ ap (λ m. nat_eq m 0) long)) refl
  tells_left (share ∷ shares) n b are long is = subst (λ t. TellsLeft t (items_in items (share ∷ shares))) (sym (is ∙ ap (λ m. nat_eq m 0) long ∙ other (length shares))) (some_items (share ∷ shares) are (omega arith))
    where
      other : (m : ℕ) → nat_eq (suc m) 0 ≡ false
      other m = eqb-suc-zero m

  -- a list with one item more than none
  pub only_item : {K : Type 0} (cmp : K → K → Ordering) (key : X → K) (x : X) (old new : List (Share P)) → old ≡ [] → entries key (items_in items new) ≡ put cmp (key x) x (entries key (items_in items old)) → items_in items new ≡ x ∷ []
  only_item {K} cmp key x old new none is =
      sym (items_entries key (items_in items new))
      ∙ ap (map (λ (e : K × X). e.1)) (is ∙ ap (λ shares. put cmp (key x) x (entries key (items_in items shares))) none)

  -- ---- shares of the same values

  pub items_same : (new old : List (Share P)) → map (λ share. share.value) new ≡ map (λ share. share.value) old → items_in items new ≡ items_in items old
  items_same new old same = by_values new ∙ ap (flat_map items) same ∙ sym (by_values old)
    where
      by_values : (ss : List (Share P)) → items_in items ss ≡ flat_map items (map (λ share. share.value) ss)
      by_values [] = refl
      by_values (s ∷ ss) = ap (λ xs. items s.value ++ xs) (by_values ss)

  pub sound_same : (new old : List (Share P)) → map (λ share. share.value) new ≡ map (λ share. share.value) old → AreSound items sound old → AreSound items sound new
  sound_same new old same are = to_shares new (subst (λ parts. AllByRecursion (λ part. (sound part) × (0 < length (items part))) parts) (sym same) (to_values old are))
    where
      to_values : (ss : List (Share P)) → AreSound items sound ss → AllByRecursion (λ part. (sound part) × (0 < length (items part))) (map (λ share. share.value) ss)
      to_values [] are = tt
      to_values (s ∷ ss) are = (are.0, to_values ss are.1)

      to_shares : (ss : List (Share P)) → AllByRecursion (λ part. (sound part) × (0 < length (items part))) (map (λ share. share.value) ss) → AreSound items sound ss
      to_shares [] are = tt
      to_shares (s ∷ ss) are = (are.0, to_shares ss are.1)
