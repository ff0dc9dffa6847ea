-- The keys of the numbers so far are handed out, and no count was raised.
use Rattle.std.proofs.Common.{◌≡◌, replicate}
use Rattle.feed_permits.specs.Seen.{fresh_keys}
use Rattle.feed_permits.proofs.dealing.permits.Given as goal

abbrev pub invariant-loop-number : goal.invariant-loop-number
invariant-loop-number l = record {
  made : l.desk.made ≡ l.number;
  counts : l.desk.counts ≡ replicate 64 0;
  keys : l.keys.items ≡ fresh_keys l.desk.table l.number;
}
