-- The lines of the feeds, one after another.
use Rattle.std.proofs.Common.{◌≡◌, ℕ, zero, suc, ◌+◌, ◌<◌, List, [], ◌∷◌, ◌++◌, length, take, slice_index_or, sym, ap, ◌∙◌, append_assoc, append-nil, arith}
use Rattle.sched_types.specs.declared.plans.NamedFeed.{NamedFeed}
use Rattle.hub_shared.specs.Seats.{SeatSeen}
use Rattle.hub_shared.specs.declared.report.PortReport.{PortReport}
use Rattle.serve_lines.specs.Lines.{feed_line}
use Rattle.serve_lines.specs.declared.lines.FeedNumbers.{FeedNumbers}
use Rattle.hub_serve.specs.Runs.{feed_lines, numbers_of}
use Rattle.hub_serve.specs.Steps.{lasts_of}

-- the lines of so many feeds and of one more
pub lines_on : (i : ℕ) (feeds : List NamedFeed) (reports : List PortReport) (seats : List SeatSeen) (feed : NamedFeed) (report : PortReport) (seat : SeatSeen)
    → i < length feeds → i < length reports → i < length seats
    → feed_lines (take (suc i) feeds) (take (suc i) reports) (lasts_of (take (suc i) seats))
    ≡ feed_lines (take i feeds) (take i reports) (lasts_of (take i seats))
    ++ feed_line (slice_index_or feeds i feed).name (numbers_of (slice_index_or reports i report) (slice_index_or seats i seat).last)
lines_on i [] reports seats feed report seat f r s = absurd (omega (arith, f))
lines_on i (x ∷ feeds) [] seats feed report seat f r s = absurd (omega (arith, r))
lines_on i (x ∷ feeds) (y ∷ reports) [] feed report seat f r s = absurd (omega (arith, s))
lines_on zero (x ∷ feeds) (y ∷ reports) (z ∷ seats) feed report seat f r s = append-nil (feed_line x.name (numbers_of y z.last))
lines_on (suc i) (x ∷ feeds) (y ∷ reports) (z ∷ seats) feed report seat f r s =
    ap (λ (bytes : List ℕ). feed_line x.name (numbers_of y z.last) ++ bytes) (lines_on i feeds reports seats feed report seat (omega (arith, f)) (omega (arith, r)) (omega (arith, s)))
    ∙ sym (append_assoc (feed_line x.name (numbers_of y z.last)) (feed_lines (take i feeds) (take i reports) (lasts_of (take i seats))) (feed_line (slice_index_or feeds i feed).name (numbers_of (slice_index_or reports i report) (slice_index_or seats i seat).last)))

-- the same of a feed, a report and a seat that are known to stand there
pub lines_more : (i : ℕ) (feeds : List NamedFeed) (reports : List PortReport) (seats : List SeatSeen) (feed : NamedFeed) (report : PortReport) (seat : SeatSeen) (name : List ℕ) (numbers : FeedNumbers)
    → i < length feeds → i < length reports → i < length seats
    → feed ≡ slice_index_or feeds i feed → seat ≡ slice_index_or seats i seat → name ≡ feed.name → numbers ≡ numbers_of (slice_index_or reports i report) seat.last
    → (text : List ℕ) → (text ++ feed_lines (take i feeds) (take i reports) (lasts_of (take i seats))) ++ feed_line name numbers
    ≡ text ++ feed_lines (take (i + 1) feeds) (take (i + 1) reports) (lasts_of (take (i + 1) seats))
lines_more i feeds reports seats feed report seat name numbers f r s at_feed at_seat named numbered text =
    append_assoc text (feed_lines (take i feeds) (take i reports) (lasts_of (take i seats))) (feed_line name numbers)
    ∙ ap (λ (bytes : List ℕ). text ++ (feed_lines (take i feeds) (take i reports) (lasts_of (take i seats)) ++ bytes))
    ((λ k. feed_line (named k) (numbered k)) ∙ (λ k. feed_line (at_feed k).name (numbers_of (slice_index_or reports i report) (at_seat k).last)))
    ∙ ap (λ (bytes : List ℕ). text ++ bytes) (sym (lines_on i feeds reports seats feed report seat f r s))
    ∙ ap (λ (n : ℕ). text ++ feed_lines (take n feeds) (take n reports) (lasts_of (take n seats))) next
  where
    next : suc i ≡ i + 1
    next = omega arith
