-- The head is put right before the body.
use Rattle.std.proofs.Common.{◌≡◌, ◌≤◌, ◌-◌, length, drop, length-drop, refl, ap, ◌∙◌, arith, rules}
use Rattle.std.proofs.lemmas.List.{length-take-le, with_items_is}
use Rattle.http_defs.specs.Responses.{response}
use Rattle.http_routes.proofs.HeadLength.{put_in, put_length, put_before}
use Rattle.http_routes.proofs.responses.put_head.Goals as goal

pub copy_from_slice-requires : goal.copy_from_slice-requires
copy_from_slice-requires c =
    let n = c.len-start.result in
    let bytes = c.deref_mut.result.now in
    let counted : n ≡ length c.in_ok-head.head.items = search rules in
    let low : n ≤ 224 = omega (arith, c.in_ok-head.ensures.short) in
    let room : 224 ≤ length bytes = omega (arith, ap length c.deref_mut.ensures.value) in
    length-take-le (224 - (224 - n)) (drop (224 - n) bytes) (omega (arith, length-drop (224 - n) bytes))
    ∙ omega (arith, ap length c.as_slice.ensures.value)

pub returns-clause-makes_the_response : goal.returns-clause-makes_the_response
unfolding response
returns-clause-makes_the_response c =
    let n = c.len-start.result in
    let items = c.args.bytes.now.items in
    let bytes = c.deref_mut.result.now in
    let head = c.copy_from_slice.new.self in
    let is : head ≡ c.in_ok-head.head.items = c.copy_from_slice.ensures.after ∙ c.as_slice.ensures.value in
    let counted : n ≡ length head = omega (arith, ap length is) in
    let low : n ≤ 224 = omega (arith, c.in_ok-head.ensures.short) in
    let room : 224 ≤ length bytes = omega (arith, ap length c.deref_mut.ensures.value) in
    let long : length (put_in 224 n bytes head) ≡ c.args.bytes.now.len = put_length 224 n bytes head counted low room ∙ omega (arith, ap length c.deref_mut.ensures.value) in
    let sized : c.len.result - 224 ≡ length (drop 224 items) = omega (arith, length-drop 224 items) in
    ap (drop (224 - n)) (with_items_is c.args.bytes.now (put_in 224 n bytes head) long)
    ∙ put_before 224 n bytes head counted low room
    ∙ rw (is, c.in_ok-head.ensures.written, c.status_of.ensures, c.deref_mut.ensures.value, sized) refl
