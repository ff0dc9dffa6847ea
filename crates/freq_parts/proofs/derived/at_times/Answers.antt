use Rattle.std.proofs.Common.{◌++◌, ◌∙◌, sym, ap, map}
use Rattle.std.proofs.lemmas.List.{append-nil}
use Rattle.std.proofs.lemmas.Slice.Zip.{either_empty_from_Zip}
use Rattle.sched_load_defs.specs.Frequencies.{at_time}
use Rattle.freq_parts.proofs.Zipped.{zip_ends}
use Rattle.freq_parts.proofs.derived.at_times.Goals as goal

pub returns : goal.returns
returns c =
    let list = c.loop-place.list.items in
    sym (append-nil list)
    ∙ ap (λ left. list ++ map at_time left) (sym (zip_ends _ _ (either_empty_from_Zip c.loop-place.place-iterator c.next.new.self _ c.in-None.is c.next.ensures.steps)))
    ∙ c.loop-place.invariant
