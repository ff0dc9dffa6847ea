-- Each thread reads its entities.
use Rattle.std.proofs.Common.{◌≡◌, [], ◌∷◌, ap, ◌∙◌}
use Rattle.std.specs.Prelude.{IfOk, Ok}
use Rattle.rayon.proofs.ToStd.{slice-AllZip}
use Rattle.feed_defs.specs.Rows.{value}
use Rattle.feed_defs.specs.Table.{entity}
use Rattle.feed_read.proofs.Together.{each_read}
use Rattle.feed_read.proofs.on_threads.read_each.Goals as goal

pub returns : goal.returns
returns g c =
    let slice = ap (λ it. it.base.slice.now) c.map.ensures.base ∙ ap (λ it. it.slice.now) c.with_min_len.ensures.base ∙ c.par_iter.ensures in
    let made = c.in_ok-entities.ensures in
    each_read (λ bytes one. value entity (bytes.now ∷ []) ≡ Ok one) c.args.payloads.now made.0
    (slice-AllZip made.1.0 c.args.payloads.now (made.1.1 ∙ slice) (λ x r. IfOk r (λ one. value entity (x.now ∷ []) ≡ Ok one)) made.0 made.1.2)
    c.in_ok-entities.entities made.2
