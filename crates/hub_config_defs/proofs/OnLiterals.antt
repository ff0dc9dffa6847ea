use Rattle.std.specs.Prelude.{⊤}
use Rattle.std.specs.Fmt.{digits}
use Rattle.std.specs.Str.{chars, is_utf8}
use lib.Utf8.{encode}
use Rattle.text_defs.specs.Dates.{is_day, date_in}
use Rattle.text_defs.specs.Names.{is_name}
use Rattle.toml.proofs.OnLiterals.{toml_on_literals}
use Rattle.hub_config_defs.specs.Rules.{rule_of, keys_of}
use Rattle.hub_config_defs.specs.Values.{date_of, port_of, is_poll_place, host_of, path_of, number_of, is_text_for, text_of, is_array_for, tables_of, number_at, text_at, tables_at}
use Rattle.hub_config_defs.specs.Faults.{name_fault, is_held, value_fault, key_fault, is_known, unknown_in, wrong_in, first_wrong}
use Rattle.hub_config_defs.specs.Conf.{schedule_of, index_of, feed_of, schedule_row, feed_row, added, rows_from, hub_of, conf_in, conf_of}
use Rattle.hub_config_defs.specs.Lines.{line_of}

-- what an answer unfolds to compute this crate's specs on a literal
unfoldable pub conf_on_literals : ⊤
unfolding toml_on_literals digits chars is_utf8 encode is_day date_in is_name rule_of keys_of date_of port_of is_poll_place host_of path_of number_of is_text_for text_of is_array_for tables_of number_at text_at tables_at name_fault is_held value_fault key_fault is_known unknown_in wrong_in first_wrong schedule_of index_of feed_of schedule_row feed_row added rows_from hub_of conf_in conf_of line_of
conf_on_literals = tt
