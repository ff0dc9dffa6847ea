use Rattle.std.proofs.Common.{◌∙◌, ap, sym, Some, option_map, string_bytes}
use Rattle.hub_config.proofs.Judging.{unknown_view}
use Rattle.hub_config.proofs.judge.unknown_in.Goals as goal

pub returns-in-Some : goal.returns-in-Some
returns-in-Some c =
    ap Some c.as_str.ensures.value ∙ ap (option_map string_bytes) c.in-Some.ensures
    ∙ sym (unknown_view c.args.keys.now c.args.table.now.entries)

pub returns-in-None : goal.returns-in-None
returns-in-None c = ap (option_map string_bytes) c.in-None.ensures ∙ sym (unknown_view c.args.keys.now c.args.table.now.entries)
