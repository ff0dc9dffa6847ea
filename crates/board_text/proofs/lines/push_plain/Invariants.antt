-- The fields that were gone over stand there, each before its tab.
use Rattle.std.proofs.Common.{◌≡◌, ◌++◌, map, take}
use Rattle.std.specs.Io.{StartsWith}
use Rattle.std.specs.List.{flat_map}
use Rattle.board_text.specs.Fields.{before_tab}
use Rattle.board_text.proofs.lines.push_plain.Given as goal

abbrev pub invariant-loop-field : goal.invariant-loop-field
invariant-loop-field l = record {
  written : l.out.items ≡ l.initial.out.items ++ flat_map before_tab (map (λ field. field.now) (take l.field-index l.fields));
  begins : StartsWith l.out.items l.initial.out.items;
}
