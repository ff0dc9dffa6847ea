-- Items that are appended one after another, and the rows that they become.
use Rattle.std.proofs.Common.{◌≡◌, ℕ, ◌+◌, ◌<◌, ◌≤◌, length, drop, get_or, Option, Some, None, List, [], ◌∷◌, ◌++◌, map, refl, sym, ap, subst, ◌∙◌, append-nil, append_assoc}
use Rattle.std.specs.Prelude.{IfSome}
use Rattle.std.specs.List.{enumerate_from, filter_map, flat_map}
use Rattle.std.specs.Option.{option_map, option_to_list}
use Rattle.std.proofs.lemmas.List.{map-append, drop_all, drop_more}
use Rattle.std.proofs.lemmas.List.Elements.{All-nil, All-cons, All-append}
use Rattle.board_defs.specs.Rows.{BoardRow}
use Rattle.board_parts.specs.Appended.{Become, Adds}
use Rattle.order.proofs.Lists.{cons_is}

module _ {X : Type 0} (row_of : X → BoardRow) (IsThere : X → Type 0) where
  become_none : Become row_of IsThere [] []
  become_none = record { become = refl; there = All-nil IsThere }

  -- the same items are those that became them
  pub become_same : (slice items : List X) (rows : List BoardRow) → slice ≡ items → Become row_of IsThere items rows → Become row_of IsThere slice rows
  become_same slice items rows same are = let P : List X → Type 0 = λ xs. Become row_of IsThere xs rows in subst P (sym same) are

  pub adds_none : (old : List X) → Adds row_of IsThere old old []
  adds_none old = record { more = []; whole = sym (append-nil old); are = become_none }

  pub adds_on : (old mid new : List X) (rows more : List BoardRow) → Adds row_of IsThere old mid rows → Adds row_of IsThere mid new more → Adds row_of IsThere old new (rows ++ more)
  adds_on old mid new rows more a b = record {
    more = a.more ++ b.more;
    whole = b.whole ∙ ap (λ xs. xs ++ b.more) a.whole ∙ append_assoc old a.more b.more;
    are = record {
      become = map-append row_of a.more b.more ∙ ap (λ xs. xs ++ map row_of b.more) a.are.become ∙ ap (λ xs. rows ++ xs) b.are.become;
      there = All-append IsThere a.more b.more a.are.there b.are.there;
    };
  }

  -- all were appended to none
  pub adds_all : (all : List X) (rows : List BoardRow) → Adds row_of IsThere [] all rows → Become row_of IsThere all rows
  adds_all all rows adds = become_same all adds.more rows adds.whole adds.are

  -- the rows that were appended, and those that are left
  pub record IsLeft (old now : List X) (left all : List BoardRow) : Type 0 where
    pub rows : List BoardRow
    pub adds : Adds row_of IsThere old now rows
    pub goes : rows ++ left ≡ all

  pub begins : (old : List X) (all : List BoardRow) → IsLeft old old all all
  begins old all = record { rows = []; adds = adds_none old; goes = refl }

  pub goes_on : (old mid new : List X) (more left all both : List BoardRow) → IsLeft old mid both all → Adds row_of IsThere mid new more → both ≡ more ++ left → IsLeft old new left all
  goes_on old mid new more left all both l a e = record {
    rows = l.rows ++ more;
    adds = adds_on old mid new l.rows more l.adds a;
    goes = append_assoc l.rows more left ∙ ap (λ xs. l.rows ++ xs) (sym e) ∙ l.goes;
  }

  pub ends : (old now : List X) (left all : List BoardRow) → IsLeft old now left all → left ≡ [] → Adds row_of IsThere old now all
  ends old now left all l none =
      let rows : l.rows ≡ all = sym (append-nil l.rows) ∙ ap (λ xs. l.rows ++ xs) (sym none) ∙ l.goes in
      let P : List BoardRow → Type 0 = λ xs. Adds row_of IsThere old now xs in
      subst P rows l.adds

  -- one item, if there is one
  adds_option : (old new : List X) (item : Option X) (row : Option BoardRow) → new ≡ old ++ option_to_list item → option_map row_of item ≡ row → IfSome item IsThere → Adds row_of IsThere old new (option_to_list row)
  adds_option old new None row whole is there = record { more = []; whole = whole; are = record { become = ap option_to_list is; there = All-nil IsThere } }
  adds_option old new (Some x) row whole is there = record { more = x ∷ []; whole = whole; are = record { become = ap option_to_list is; there = All-cons IsThere x [] there (All-nil IsThere) } }

  -- the item of one more of some numbered things, if it gives one
  pub goes_numbered : {A : Type 0} (each : ℕ × A → Option BoardRow) (xs : List A) (i : ℕ) (none : A) (old mid new : List X) (all : List BoardRow) (item : Option X) → i < length xs
      → IsLeft old mid (filter_map each (enumerate_from i (drop i xs))) all
      → option_map row_of item ≡ each (i, get_or xs i none) → IfSome item IsThere → new ≡ mid ++ option_to_list item
      → IsLeft old new (filter_map each (enumerate_from (i + 1) (drop (i + 1) xs))) all
  goes_numbered each xs i none old mid new all item h left is there whole =
      let row = each (i, get_or xs i none) in
      let rest = filter_map each (enumerate_from (i + 1) (drop (i + 1) xs)) in
      goes_on old mid new (option_to_list row) rest all (filter_map each (enumerate_from i (drop i xs))) left
      (adds_option mid new item row whole is there)
      (ap (λ ys. filter_map each (enumerate_from i ys)) (drop_more xs i none h) ∙ cons_is row rest)

  -- the items of one thing more
  pub goes_item : {A : Type 0} (each : A → List BoardRow) (xs : List A) (i : ℕ) (x none : A) (old mid new : List X) (all : List BoardRow) → i < length xs → x ≡ get_or xs i none
      → IsLeft old mid (flat_map each (drop i xs)) all → Adds row_of IsThere mid new (each x)
      → IsLeft old new (flat_map each (drop (i + 1) xs)) all
  goes_item each xs i x none old mid new all h at left more =
      let rest = flat_map each (drop (i + 1) xs) in
      goes_on old mid new (each x) rest all (flat_map each (drop i xs)) left more
      (ap (flat_map each) (drop_more xs i none h) ∙ ap (λ y. each y ++ rest) (sym at))

  -- those of all things
  pub all_gone : {A : Type 0} (each : A → List BoardRow) (xs : List A) (i : ℕ) (old now : List X) → length xs ≤ i
      → IsLeft old now (flat_map each (drop i xs)) (flat_map each xs) → Adds row_of IsThere old now (flat_map each xs)
  all_gone each xs i old now h left = ends old now (flat_map each (drop i xs)) (flat_map each xs) left (ap (flat_map each) (drop_all i xs h))
