-- What the read of `csv` says, at the records that are left.
use Rattle.gtfs_rows.proofs.AdvanceLemmas.{advanced}
use Rattle.gtfs_rows.proofs.records.advance.Goals as goal

pub returns-clause-ok : goal.returns-clause-ok
returns-clause-ok c =
    advanced c.args.reader.now c.read_byte_record.new.self c.in-Ok.found _ c.requires c.in-Ok.ensures.flexible (c.in-Ok.ensures.ready c.requires.trim)
    (c.in-Ok.ensures.reads c.requires.trim c.requires.ready)
