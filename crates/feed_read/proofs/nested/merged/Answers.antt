use Rattle.std.proofs.Common.{◌≡◌, [], ◌∷◌, refl}
use Rattle.feed_defs.specs.Rows.{value}
use Rattle.field_read.proofs.Faults.{fails_whole, reads_passed}
use Rattle.feed_read.proofs.Fields.{merged_as, merged_none, merged_stops}
use Rattle.feed_read.proofs.nested.merged.Goals as goal

pub returns-in_err-bytes : goal.returns-in_err-bytes
returns-in_err-bytes g c =
    reads_passed _ _ _ c.from_residual.ensures.1 (fails_whole _ _ _ (merged_stops g.M.Message.table _) c.in_err-bytes.ensures)

pub returns-in_err-read_one-in-Some : goal.returns-in_err-read_one-in-Some
returns-in_err-read_one-in-Some g c =
    let joined = rw c.in-Some.is at c.in_ok-bytes.ensures in
    reads_passed _ _ _ c.from_residual-in_err-read_one-in-Some.ensures.1
    (fails_whole (value g.M.Message.table (c.in-Some.bytes.items ∷ [])) _ _
    (λ f fault. rw (merged_as g.M.Message.table c.args.payloads c.in-Some.bytes.items joined.0 joined.1, fault) refl)
    (rw c.as_slice.ensures.value at c.in_err-read_one-in-Some.ensures))

pub returns-in-None : goal.returns-in-None
returns-in-None g c =
    let none : c.args.payloads ≡ [] = rw c.in-None.is at c.in_ok-bytes.ensures in
    merged_none g.M.Message.table _ none

pub returns-in_ok-read_one-in-Some : goal.returns-in_ok-read_one-in-Some
returns-in_ok-read_one-in-Some g c =
    let joined = rw c.in-Some.is at c.in_ok-bytes.ensures in
    let read = rw c.as_slice.ensures.value at c.in_ok-read_one-in-Some.ensures in
    rw (merged_as g.M.Message.table c.args.payloads c.in-Some.bytes.items joined.0 joined.1, read) refl
