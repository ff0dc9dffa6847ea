use Rattle.std.proofs.Common.{◌≡◌, ◌∙◌, ap, arith, map, sym, take}
use Rattle.std.proofs.Math.ListN.{length-set}
use Rattle.std.proofs.lemmas.List.{take_all}
use Rattle.csv.specs.Records.{fields_of}
use Rattle.gtfs_rows.specs.Names.{all_columns}
use Rattle.gtfs_rows.specs.Files.{place_of}
use Rattle.gtfs_rows.proofs.CellLemmas.{next_place}
use Rattle.gtfs_rows.proofs.cells.place_columns.Goals as goal

pub loop-slot-preserved : goal.loop-slot-preserved
loop-slot-preserved c =
    let inv = c.loop-slot.invariant in
    let next = next_place (place_of (fields_of c.args.header.now)) all_columns c.loop-slot.places c.loop-slot.slot c.place_in.result _ c.loop-slot-test.true (omega (arith, inv.0)) c.place_in.ensures inv.1 in
    (length-set c.loop-slot.places c.loop-slot.slot c.place_in.result ∙ inv.0, next)

pub returns : goal.returns
returns c =
    let inv = c.loop-slot.invariant in
    let done : c.loop-slot.slot ≡ 32 = omega arith in
    sym (take_all c.loop-slot.slot c.loop-slot.places (omega (arith, inv.0))) ∙ inv.1 ∙ ap (λ n. map (place_of (fields_of c.args.header.now)) (take n all_columns)) done
