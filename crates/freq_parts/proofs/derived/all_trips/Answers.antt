use Rattle.std.proofs.Common.{List, subst, rules}
use Rattle.std.specs.Prelude.{IsPermutation}
use Rattle.std.specs.Ordering.{is_lt}
use Rattle.std.proofs.lemmas.Cmp.{nat_list_cmp_total}
use Rattle.std.proofs.lemmas.List.Sorted.{answers_always, ranks_by}
use Rattle.sched_load_defs.specs.Frequencies.{TimedTrip, id_of}
use Rattle.freq_parts.specs.Differ.{text_cmp}
use Rattle.freq_parts.specs.Joined.{joined}
use Rattle.freq_parts.proofs.Sorting.{sorted_is, text_same}
use Rattle.freq_parts.proofs.derived.all_trips.Goals as goal

pub returns : goal.returns
returns c =
    let listed = c.sort_by.new.self.items in
    let P : List TimedTrip → Type 0 = λ rows. IsPermutation rows listed in
    sorted_is nat_list_cmp_total text_same id_of (joined c.args.patterns.now c.args.others.items c.args.derived.now) listed c.requires
    (subst P c.in_ok-all.ensures c.sort_by.ensures.permutation)
    (c.in_ok-sort_by.ensures.sorted (λ a b. is_lt (text_cmp (id_of a) (id_of b))) (ranks_by nat_list_cmp_total id_of) (answers_always _ _ _ (λ f a r g h. search rules)))
