-- What is told of a command's output, where files and input are told.
use Rattle.std.proofs.Common.{◌≡◌, ℕ, List, length, Option, Some, None, Err, refl}
use Rattle.std.specs.Prelude.{codes}
use Rattle.hub_config_defs.specs.Conf.{conf_of}
use Rattle.http_serve_defs.specs.Connections.{Served}
use Rattle.hub_main_defs.specs.Words.{Command, command_of}
use Rattle.hub_main_defs.specs.Words.Command.{Replay, ReplayWith, Check, Board, Gen}
use Rattle.hub_main_defs.specs.Checks.{conf_in, conf_or_line}
use Rattle.hub_main_defs.specs.Commands.{offline, output_by, output_where_told}

told_by_case : (served : List Served) (command : Option Command) (files : List (List ℕ × List ℕ)) (input : List ℕ)
    → output_where_told served command (Some files) (Some input) ≡ Some (output_by served command files input)
told_by_case served None files input = refl
told_by_case served (Some Replay) files input = refl
told_by_case served (Some (ReplayWith path)) files input = refl
told_by_case served (Some (Check path)) files input = refl
told_by_case served (Some (Board path asked)) files input = refl
told_by_case served (Some (Gen seed trips messages)) files input = refl

-- it is the whole offline output
pub offline_is_told : (served : List Served) (words : List (List ℕ)) (files : List (List ℕ × List ℕ)) (input : List ℕ)
    → output_where_told served (command_of words) (Some files) (Some input) ≡ Some (offline served words files input)
unfolding offline
offline_is_told served words files input = told_by_case served (command_of words) files input

-- a configuration may have 1,048,576 bytes, and not one more
pub longest_conf_is_read : (bytes : List ℕ) → length bytes ≡ 1048576 → conf_in (Some bytes) ≡ conf_or_line (conf_of bytes)
longest_conf_is_read bytes h = rw h refl

pub longer_conf_is_refused : (bytes : List ℕ) → length bytes ≡ 1048577 → conf_in (Some bytes) ≡ Err (codes "hub: config long")
longer_conf_is_refused bytes h = rw h refl
