-- By what the lists of an overlay are ordered.
use Rattle.std.specs.Prelude.{ℕ, Option, Some, List}
use Rattle.std.specs.Cmp.Lexicographic.{slice_cmp}
use Rattle.std.specs.Option.{option_cmp}
use Rattle.std.specs.Ordering.{int_cmp, nat_cmp, ordering_then}
use Rattle.std.specs.declared.cmp.Ordering.{Ordering}
use Rattle.feed_defs.specs.declared.history.Stored.{Stored}
use Rattle.sched_types.specs.declared.rows.Run.{Run}
use Rattle.run_overlay.specs.declared.candidate.Candidate.{Candidate}
use Rattle.run_overlay.specs.declared.link.Link.{Link}
use Rattle.run_overlay.specs.declared.live_run.LiveRun.{LiveRun}
use Rattle.run_overlay.specs.declared.row.LiveRow.{LiveRow}
use Rattle.run_overlay.specs.declared.row.RowKey.{RowKey}

-- by the bytes of an entity's id
abbrev pub id_cmp : List ℕ → List ℕ → Ordering
id_cmp = slice_cmp nat_cmp

abbrev pub link_key : Link → List ℕ
link_key link = link.id

abbrev pub stored_key : Stored → List ℕ
stored_key stored = stored.entity.id

-- by the trip and then by the day
abbrev pub run_cmp : Run → Run → Ordering
run_cmp a b = ordering_then (nat_cmp a.trip b.trip) (nat_cmp a.day b.day)

abbrev pub live_run_key : LiveRun → Run
live_run_key live = live.run

-- Updates about runs go by the run, and those of one run as they count, the one that counts most
-- first: by the later stamp, and then by the greater id. A run without an update goes before them.
abbrev pub CandidateKey : Type 0
CandidateKey = Run × Option (ℕ × List ℕ)

abbrev pub weight_cmp : ℕ × List ℕ → ℕ × List ℕ → Ordering
weight_cmp a b = ordering_then (nat_cmp b.0 a.0) (slice_cmp nat_cmp b.1 a.1)

abbrev pub candidate_key : Candidate → CandidateKey
candidate_key candidate =
    (candidate.mention.run, Some (candidate.mention.stamp, candidate.id))

abbrev pub candidate_cmp : CandidateKey → CandidateKey → Ordering
candidate_cmp a b = ordering_then (run_cmp a.0 b.0) (option_cmp weight_cmp a.1 b.1)

-- by the stop, the expected instant, the trip, the day and the place
abbrev pub row_key : LiveRow → RowKey
row_key row = record {
  stop = row.stop;
  at = row.slot.at;
  trip = row.slot.run.trip;
  day = row.slot.run.day;
  place = row.slot.place;
}

abbrev pub row_cmp : RowKey → RowKey → Ordering
row_cmp a b =
    ordering_then (nat_cmp a.stop b.stop)
    (ordering_then (int_cmp a.at b.at)
    (ordering_then (nat_cmp a.trip b.trip)
    (ordering_then (nat_cmp a.day b.day) (nat_cmp a.place b.place))))
