-- The desk and the keys as their callers see them.
use Rattle.std.specs.Prelude.{ℕ, ◌≡◌, ◌<◌, List, [], length, map, true}
use Rattle.std.specs.List.{range_with_len}
use Rattle.atomic_table.specs.Seated.{TableId}
use Rattle.atomic_table.specs.Table.{Me}
use Rattle.feed_permits.specs.declared.view.View.{View}

-- a desk: which table it is at, how many keys it handed out, and its count for each number
pub record DeskSeen : Type 0 where
  pub table : TableId
  pub made : ℕ
  pub counts : List ℕ

-- a key: which desk's it is, its number, and how often it was granted
pub record KeySeen : Type 0 where
  pub table : TableId
  pub number : ℕ
  pub granted : ℕ

-- the key of a number that was never granted
abbrev pub fresh_key : TableId → ℕ → KeySeen
fresh_key table number = record { table = table; number = number; granted = 0 }

-- the keys of the first numbers
abbrev pub fresh_keys : TableId → ℕ → List KeySeen
fresh_keys table count = map (fresh_key table) (range_with_len 0 count)

-- what is true of a desk's seat at its table
pub record IsDesk (table seated : TableId) (me : Me (Unit {0}) View) : Type 0 where
  pub own : seated ≡ table
  pub words : table.words ≡ 64
  pub deals : me.0.deals ≡ true
  pub empty : me.1 ≡ []
  pub wide : length me.0.counts ≡ 64

-- and of a key's
pub record IsKey (number : ℕ) (me : Me (Unit {0}) View) : Type 0 where
  pub grants : me.0.grants ≡ true
  pub numbered : me.0.number ≡ number
  pub small : number < 64
  pub empty : me.1 ≡ []
