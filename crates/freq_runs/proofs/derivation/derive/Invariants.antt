use Rattle.std.proofs.Common.{◌≡◌, ◌≤◌}
use Rattle.freq_runs.specs.Faults.{most_places, places_in, ids_of}
use Rattle.freq_runs.specs.Known.{AreKeys, AreIn}
use Rattle.freq_runs.proofs.RowByRow.{Derives}
use Rattle.freq_runs.proofs.derivation.derive.Given as goal

abbrev pub invariant-loop-row : goal.invariant-loop-row
invariant-loop-row l = record {
  known : AreKeys l.others l.taken;
  ids : AreIn l.ids (ids_of l.derived.items);
  places : l.places ≡ places_in l.derived.items;
  few : l.places ≤ most_places;
  derives : Derives l.patterns l.taken l.rows l.derived.items l.row-index;
}
