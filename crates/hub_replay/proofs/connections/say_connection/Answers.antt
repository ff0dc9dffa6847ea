use Rattle.std.proofs.Common.{ℕ, List, length, sym, ap, ◌∙◌, ◌++◌, append_assoc}
use Rattle.std.specs.Prelude.{codes}
use Rattle.std.specs.Fmt.{decimal}
use Rattle.text_defs.specs.Cleaned.{line_feed}
use Rattle.hub_replay.proofs.Serving.{says_nothing, says_behind}
use Rattle.hub_replay.proofs.connections.say_connection.Goals as goal

pub returns-in_err-line : goal.returns-in_err-line
returns-in_err-line c = says_nothing c.from_residual.result c.args.said.now.items _ _ c.from_residual.ensures.1

pub returns : goal.returns
returns c =
    let line : List ℕ = codes "connection " ++ decimal (length c.args.written.now) ++ codes " " ++ c.args.word.now ++ line_feed in
    says_behind c.say-3.result c.args.said.now.items c.say.new.said.items c.say-2.new.said.items c.say-3.new.said.items _ c.args.written.now line_feed
    (line ++ c.args.written.now ++ line_feed) c.in_ok-say.ensures c.in_ok-say-2.ensures c.say-3.ensures
    (ap (λ (xs : List ℕ). xs ++ (c.args.written.now ++ line_feed)) (c.as_bytes.ensures.value ∙ c.in_ok-line.ensures) ∙ sym (append_assoc line c.args.written.now line_feed))
