-- The digits that are left go on from the number so far, which has as many digits as were read.
use Rattle.std.proofs.Common.{◌≡◌, ◌^◌, ◌<◌, drop}
use Rattle.text_defs.specs.Numbers.{digits_after}
use Rattle.texts.proofs.numbers.digits_of.Given as goal

abbrev pub invariant-loop-byte : goal.invariant-loop-byte
invariant-loop-byte l =
    (digits_after l.value (drop l.byte-index l.bytes) ≡ digits_after 0 l.fn.bytes)
    × (l.value < 10 ^ l.byte-index)
