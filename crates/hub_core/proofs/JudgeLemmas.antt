-- What reading gives decides what is judged of the bytes.
use Rattle.std.proofs.Common.{◌≡◌, ℕ, List, length, true, false, ap, sym, subst}
use Rattle.std.specs.Prelude.{nat_lt, if◌then◌else◌, Result, Err}
use Rattle.rt_types.specs.declared.message.FeedMessage.{FeedMessage}
use Rattle.feed_defs.specs.Table.{read}
use Rattle.feed_defs.specs.History.{well_formed, if_read, longest_message}
use Rattle.feed_defs.specs.History.Refusal.{TooLong}
use Rattle.hub_core.specs.declared.refusal.Refusal.{Refusal}
use Rattle.answer_defs.specs.Defined.{AsDefined}
use Rattle.hub_core.specs.Answers.{cause_of}

-- whether bytes are too many decides
by_length : (bytes : List ℕ) {b : _} → nat_lt longest_message (length bytes) ≡ b → well_formed bytes ≡ (if b then Err (TooLong (length bytes)) else if_read (read bytes))
unfolding well_formed
by_length bytes h = ap (λ b. if b then Err (TooLong (length bytes)) else if_read (read bytes)) h

pub judged_long : (bytes : List ℕ) → nat_lt longest_message (length bytes) ≡ true → well_formed bytes ≡ Err (TooLong (length bytes))
judged_long bytes h = by_length bytes h

pub judged_read : (bytes : List ℕ) (r : Result FeedMessage Refusal) → nat_lt longest_message (length bytes) ≡ false → AsDefined (λ m. m) cause_of (if_read (read bytes)) r → AsDefined (λ m. m) cause_of (well_formed bytes) r
judged_read bytes r h judgement = subst (λ told. AsDefined (λ m. m) cause_of told r) (sym (by_length bytes h)) judgement
