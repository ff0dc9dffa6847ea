-- A request that is whole already.
use Rattle.std.proofs.Common.{◌≡◌, ◌-◌, length, take, drop, sym, ap, ◌∙◌, arith}
use Rattle.std.proofs.lemmas.List.{with_items_is}
use Rattle.http_req.proofs.HoldLemmas.{moved_on, begins_held}
use Rattle.http_req.proofs.reader.RequestReader.take.Goals as goal

pub returns-clause-answers_what_the_bytes_begin_with : goal.returns-clause-answers_what_the_bytes_begin_with
returns-clause-answers_what_the_bytes_begin_with g c =
    let old = c.self.inside in
    let lent = ap length c.deref_mut.ensures.value in
    let room : length old.headers.items ≡ old.headers.len = sym old.headers.ok.0 in
    let same_room : length c.head_in.new.headers ≡ old.headers.len = omega arith in
    begins_held c.args.self.now _ c.head_in.new.headers c.deref-2.result.now _ c.in-Some.spans c.in-Ok.request _
    (ap (λ xs. take (old.filled - old.start) (drop old.start xs)) c.deref.ensures.value ∙ c.self.view_is)
    (c.deref-2.ensures.value ∙ with_items_is old.headers c.head_in.new.headers same_room)
    c.in-Some.ensures.found c.in-Ok.ensures
    (moved_on old.buffer.items old.start old.filled c.in-Some.spans.len ∙ ap (drop c.in-Some.spans.len) c.self.view_is)
