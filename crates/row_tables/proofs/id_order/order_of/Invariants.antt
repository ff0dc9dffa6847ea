use Rattle.std.proofs.Common.{◌≡◌}
use Rattle.row_tables.specs.Order.{same_id, texts_seen}
use Rattle.row_tables.proofs.Faults.{Judged}
use Rattle.row_tables.proofs.Places.{places_taken}
use Rattle.row_tables.proofs.id_order.order_of.Given as goal

abbrev pub invariant-loop-place : goal.invariant-loop-place
invariant-loop-place g l = record {
  judged : Judged g.R.FileRow.name (g.J.Judge.unknown_of l.judge) (same_id g.R.IdRow.id_of) l.rows l.place;
  places : texts_seen l.places.entries ≡ places_taken g.R.IdRow.id_of l.rows l.place;
}
