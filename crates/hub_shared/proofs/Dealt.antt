-- Keys and seats in the order of their feeds.
use Rattle.std.proofs.Common.{◌≡◌, ℕ, ◌+◌, ◌<◌, List, [], ◌∷◌, ◌++◌, length, map, Result, Ok, Err, ap, ◌∙◌, arith}
use Rattle.std.specs.Prelude.{IfOk, slice_index_or}
use Rattle.std.specs.List.{range_with_len}
use Rattle.atomic_table.specs.Seated.{TableId}
use Rattle.feed_defs.specs.declared.history.Entry.{Entry}
use Rattle.feed_permits.specs.Seen.{KeySeen, fresh_key}
use Rattle.hub_history.specs.Told.{Told, history_of}
use Rattle.hub_history.specs.declared.item.LogItem.TheVariants.{Accepted}
use Rattle.hub_history.specs.declared.item.LogItem.TheVariants.{Ended}
use Rattle.hub_history.proofs.Logs.{entries_append, entries_closed}
use Rattle.feed_defs.specs.History.{IsLegal}
use Rattle.snapshot_cell.specs.Seen.{PassSeen, Publishing}
use Rattle.hub_shared.specs.Seats.{Ties, IsOf, SeatSeen}
use Rattle.hub_shared.specs.Calls.{Ends, IsFresh}

-- the first of the keys that are left, and the others
pub first_key : (table : TableId) (a : ℕ) (key : KeySeen) (keys : List KeySeen) → key ∷ keys ≡ map (fresh_key table) (range_with_len a (length (key ∷ keys)))
    → (key ≡ fresh_key table a) × (keys ≡ map (fresh_key table) (range_with_len (a + 1) (length keys)))
first_key table a key keys e = (cc, cc)

-- a receipt of a history with one message more
pub published : {E : Type 0} (r : Result Told E) (line : Told) (e named : Entry) → IfOk r (λ t. t ≡ record line { log = line.log ++ Accepted e ∷ [] }) → e ≡ named
    → IfOk r (λ t. history_of t ≡ history_of line ++ named ∷ [])
published r line e named is same = grind (arith, entries_append)

-- the end adds no message
ended : (seat : SeatSeen) (line t : Told) → Ends seat line → t ≡ record line { log = line.log ++ Ended ∷ [] } → Ends seat t
ended seat line t ends is = grind (arith, entries_closed)

pub closes : {E : Type 0} (r : Result Told E) (p p' : Publishing) (seats : List SeatSeen) → IfOk r (λ t. t ≡ record p'.line { log = p'.line.log ++ Ended ∷ [] }) → p' ≡ p
    → ((i : ℕ) (none : SeatSeen) → i < length seats → Ends (slice_index_or seats i none) p.line)
    → IfOk r (λ t. (i : ℕ) (none : SeatSeen) → i < length seats → Ends (slice_index_or seats i none) t)
closes (Ok t) p p' seats is same ends =
    λ i none within. ended (slice_index_or seats i none) p.line t (ends i none within) (is ∙ ap (λ (q : Publishing). record q.line { log = q.line.log ++ Ended ∷ [] }) same)
closes (Err x) p p' seats is same ends = tt

-- a seat with a fresh pass and a key of the hub is of the hub
pub ties_are : (hub : Ties) (pass : PassSeen) (key : KeySeen) → IsFresh hub pass → key.table ≡ hub.table
    → ◌≡◌ {A = Ties} (record { book = pass.line.book; table = key.table; plans = pass.shown.plans }) hub
ties_are hub pass key fresh table = λ i. record { book = fresh.of.book i; table = table i; plans = (fresh.shown i).plans }

-- the ended history is of the hub that published it
pub closes_hub : {E : Type 0} (r : Result Told E) (p p' : Publishing) (hub : Ties) → IfOk r (λ t. t ≡ record p'.line { log = p'.line.log ++ Ended ∷ [] }) → p' ≡ p → IsOf p.line hub → IfOk r (λ t. IsOf t hub)
closes_hub r p p' hub is same of = grind arith

-- the ended history is legal where what was published is
pub closes_legal : {E : Type 0} (r : Result Told E) (p p' : Publishing) → IfOk r (λ t. t ≡ record p'.line { log = p'.line.log ++ Ended ∷ [] }) → p' ≡ p → IsLegal p.line.feeds (history_of p.line)
    → IfOk r (λ t. IsLegal t.feeds (history_of t))
closes_legal r p p' is same legal = grind (arith, entries_closed)
