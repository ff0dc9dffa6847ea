-- The bytes that were gone over stand there, cleaned.
use Rattle.std.proofs.Common.{◌≡◌, ◌++◌, take}
use Rattle.text_defs.specs.Cleaned.{cleaned_text}
use Rattle.texts.proofs.cleaned.push_cleaned.Given as goal

abbrev pub invariant-loop-byte : goal.invariant-loop-byte
invariant-loop-byte l =
    l.line.items ≡ l.initial.line.items ++ cleaned_text (take l.byte-index l.text)
