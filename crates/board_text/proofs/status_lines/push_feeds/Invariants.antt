-- The lines of the feeds that were gone over, and those of the feeds that are left, are all.
use Rattle.std.proofs.Common.{◌≡◌, ◌++◌}
use Rattle.std.specs.Io.{StartsWith}
use Rattle.std.specs.List.{flat_map}
use Rattle.board_text_defs.specs.Status.{status_line}
use Rattle.board_text.proofs.status_lines.push_feeds.Given as goal

abbrev pub invariant-loop-feed : goal.invariant-loop-feed
invariant-loop-feed l = record {
  written : l.out.items ++ flat_map status_line l.feed-iterator ≡ l.initial.out.items ++ flat_map status_line l.initial.feed-iterator;
  begins : StartsWith l.out.items l.initial.out.items;
}
