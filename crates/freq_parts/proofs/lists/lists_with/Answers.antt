use Rattle.std.proofs.Common.{List, ◌∙◌, sym, ap, subst, length, arith}
use Rattle.std.proofs.lemmas.List.Sorted.{length_permutation}
use Rattle.sched_load_defs.specs.Frequencies.{TimedTrip, id_of}
use Rattle.freq_parts.specs.Differ.{IsListed, text_cmp}
use Rattle.freq_parts.specs.Joined.{joined, all_of}
use Rattle.freq_parts.proofs.Listed.{deriveds_listed, deriveds_are}
use Rattle.freq_parts.proofs.lists.lists_with.Goals as goal

pub plan_deriveds-requires-clause-few : goal.plan_deriveds-requires-clause-few
plan_deriveds-requires-clause-few c =
    let others = c.args.parted.others.items in
    let derived = c.args.derived.now in
    omega (
      arith,
      c.requires.few,
      ap length c.as_slice-2.ensures.value,
      length_permutation _ _ c.in_ok-all.ensures.same,
      ap (λ ps. length (joined ps others derived)) c.as_slice.ensures.value,
    )

pub returns-clause-listed : goal.returns-clause-listed
returns-clause-listed c =
    let patterns = c.args.parted.patterns.items in
    let others = c.args.parted.others.items in
    let derived = c.args.derived.now in
    let P : List TimedTrip → Type 0 = λ ps. IsListed text_cmp id_of (joined ps others derived) c.in_ok-all.all.items in
    let Q : List TimedTrip → Type 0 = λ all. IsListed text_cmp id_of (joined patterns others derived) all in
    let listed = subst P c.as_slice.ensures.value c.in_ok-all.ensures in
    record {
      trips = subst Q (sym listed.is) listed;
      derived = deriveds_listed (all_of patterns others derived) _ derived _ (c.as_slice-2.ensures.value ∙ sym listed.is) c.in_ok-derived.ensures;
    }

pub returns-clause-derived : goal.returns-clause-derived
returns-clause-derived c =
    let patterns = c.args.parted.patterns.items in
    let others = c.args.parted.others.items in
    let derived = c.args.derived.now in
    let P : List TimedTrip → Type 0 = λ ps. IsListed text_cmp id_of (joined ps others derived) c.in_ok-all.all.items in
    let listed = subst P c.as_slice.ensures.value c.in_ok-all.ensures in
    deriveds_are (all_of patterns others derived) _ derived _ (c.as_slice-2.ensures.value ∙ sym listed.is) c.in_ok-derived.ensures
