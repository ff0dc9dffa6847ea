-- A request that is whole once more was read.
use Rattle.std.proofs.Common.{◌≡◌, ◌≤◌, ◌-◌, length, take, sym, ap, ◌∙◌, arith}
use Rattle.std.proofs.lemmas.List.{with_items_is}
use Rattle.std.proofs.lemmas.Slice.{between_is}
use Rattle.http_req.proofs.HoldLemmas.{shifted, begins_at}
use Rattle.http_req.proofs.reader.RequestReader.read_on.Goals as goal

pub returns-in-Ok-clause-answers_what_the_bytes_begin_with :
    goal.returns-in-Ok-clause-answers_what_the_bytes_begin_with
returns-in-Ok-clause-answers_what_the_bytes_begin_with g c =
    let old = c.self.inside in
    let buffer = c.copy_within.new.self in
    let lent = ap length c.deref_mut.ensures.value in
    let lent_headers = ap length c.deref_mut-2.ensures.value in
    let full : length buffer.items ≡ buffer.len = sym buffer.ok.0 in
    let room : length old.headers.items ≡ old.headers.len = sym old.headers.ok.0 in
    let same : length c.next_head.new.buf ≡ buffer.len = omega arith in
    let same_room : length c.next_head.new.headers ≡ old.headers.len = omega arith in
    let within : old.filled ≤ length old.buffer.items = omega (arith, old.buffer.ok.0) in
    let items = with_items_is buffer c.next_head.new.buf same in
    begins_at c.args.self.now _ c.next_head.new.buf c.deref.result.now _ c.in-Head.filled c.next_head.new.headers c.deref-in-Head.result.now _ _ c.in-Head.spans c.in-Ok.request _
    (ap (take (old.filled - old.start)) (c.deref_mut.ensures.value ∙ c.copy_within.ensures.items)
    ∙ shifted old.buffer.items old.start old.filled c.self.invariant.within within ∙ c.self.view_is)
    (c.deref.ensures.value ∙ items) items
    (c.deref-in-Head.ensures.value ∙ with_items_is old.headers c.next_head.new.headers same_room)
    c.in-Head.ensures.comes.0 c.in-Head.ensures.comes.1 c.in-Ok.ensures (between_is _ c.in-Head.spans.len c.in-Head.filled)
