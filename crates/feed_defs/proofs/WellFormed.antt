-- Which bytes are well-formed, by what reading them gives, and what hinders the others.
use Rattle.std.proofs.Common.{◌≡◌, ◌<◌, ◌≤◌, ℕ, List, length, Err, ap, ◌∙◌, arith}
use Rattle.std.proofs.lemmas.Bool.Decides.{nat_tests}
use Rattle.feed_defs.specs.Rows.{Fault}
use Rattle.feed_defs.specs.Table.{read}
use Rattle.feed_defs.specs.History.{well_formed, if_read, longest_message}
use Rattle.feed_defs.specs.History.Refusal.{TooLong, Malformed}

pub too_long : (bytes : List ℕ) → longest_message < length bytes → well_formed bytes ≡ Err (TooLong (length bytes))
unfolding well_formed
too_long bytes h = grind (arith, nat_tests)

within : (bytes : List ℕ) → length bytes ≤ longest_message → well_formed bytes ≡ if_read (read bytes)
unfolding well_formed
within bytes h = grind (arith, nat_tests)

pub of_fault : (bytes : List ℕ) (f : Fault) → length bytes ≤ longest_message → read bytes ≡ Err f → well_formed bytes ≡ Err (Malformed f)
of_fault bytes f h r = within bytes h ∙ ap if_read r
