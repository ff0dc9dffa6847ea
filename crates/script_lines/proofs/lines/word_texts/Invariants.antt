use Rattle.std.proofs.Common.{ℕ, List, Bor, drop}
use Rattle.script_lines.proofs.Texts.{Reading, bytes_of}
use Rattle.script_lines.proofs.lines.word_texts.Given as goal

abbrev pub invariant-loop-word : goal.invariant-loop-word
invariant-loop-word l = let raw : List (Bor (List ℕ)) = l.raw in Reading (bytes_of raw) l.words.items (bytes_of (drop l.word-index raw))
