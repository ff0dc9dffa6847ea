-- A number has digits alone, and maybe a sign.
use Rattle.std.proofs.Common.{w64, SFits, sym, ap, subst, ◌∙◌, rules}
use Rattle.std.specs.Fmt.{signed_decimal}
use Rattle.std.proofs.lemmas.Int.{to_z-of_z}
use Rattle.board_text.specs.Fields.{IsPlain}
use Rattle.board_text.proofs.Plain.{plain_signed}
use Rattle.board_text.proofs.as_text.push_row.Goals as goal

pub push_cells-requires-clause-expected : goal.push_cells-requires-clause-expected
push_cells-requires-clause-expected c =
    let fits : SFits w64 c.args.row.now.expected = search rules in
    subst IsPlain (sym (c.format.ensures.text ∙ ap signed_decimal (to_z-of_z w64 c.args.row.now.expected fits))) (plain_signed c.args.row.now.expected fits)
