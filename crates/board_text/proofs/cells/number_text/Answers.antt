-- A number has digits alone, and maybe a sign.
use Rattle.std.proofs.Common.{w64, SFits, sym, ap, subst, ◌∙◌, rules}
use Rattle.std.specs.Fmt.{signed_decimal}
use Rattle.std.proofs.lemmas.Int.{to_z-of_z}
use Rattle.board_text.specs.Fields.{IsPlain}
use Rattle.board_text.proofs.Plain.{plain_signed}
use Rattle.board_text.proofs.cells.number_text.Goals as goal

pub returns-in-Some-clause-plain : goal.returns-in-Some-clause-plain
returns-in-Some-clause-plain c =
    let fits : SFits w64 c.in-Some.number = search rules in
    subst IsPlain (sym (c.format.ensures.text ∙ ap signed_decimal (to_z-of_z w64 c.in-Some.number fits))) (plain_signed c.in-Some.number fits)
