-- Reading a whole reply: its head, and then its message.
use Rattle.std.proofs.Common.{◌≡◌, ℕ, List, ◌++◌, Option, None, Some, sym, subst}
use Rattle.std.specs.Prelude.{IfSome}
use Rattle.std.specs.Io.KnownBytes.{Consumes}
use Rattle.poll_port.specs.declared.extent.Extent.{Extent}
use Rattle.poll_port.specs.declared.messages.Reply.{Reply}
use Rattle.poll_port.specs.declared.messages.Reply.TheVariants.{Message, TooLong, Unfit, Failed}
use Rattle.poll_port.specs.declared.faults.ReplyFault.TheVariants.{Cut}
use Rattle.poll_port.specs.Reading.{IsUnfit, ReadsMessage, ReadsReply}
use Rattle.poll_port.specs.Replies.{IsGood, message_in, IsOver, IsReply, IsLongReply}
use Rattle.poll_port.proofs.FoundLemmas.{good_on}
use Rattle.poll_port.proofs.ReplyLaws.{cut_short}

module _ (extent : Extent) (whole front : List ℕ) (good : IsGood whole extent front) where
  -- what holds of the bytes behind the head holds of all of them, by what of these is a good reply
  on_whole : (P Q : List ℕ → Type 0) → ((more : List ℕ) → IsGood (whole ++ more) extent (front ++ more) → P (front ++ more) → Q (whole ++ more))
      → (first left : Option (List ℕ)) → Consumes first left whole → IfSome left (λ bytes. P (front ++ bytes)) → IfSome first Q
  on_whole P Q step None left read holds = tt
  on_whole P Q step (Some xs) None read holds = absurd read
  on_whole P Q step (Some xs) (Some ys) read holds =
      subst Q (sym read) (step ys (good_on whole ys extent front good) holds)

  pub reply_read : (reply : Reply) (first left : Option (List ℕ)) (held : List ℕ) → Consumes first left whole → ReadsMessage reply extent front left held
      → ReadsReply reply first held
  reply_read Message first left held read (fits, told) =
      (fits, on_whole (λ bytes. message_in extent bytes ≡ Some held) (λ bytes. IsReply bytes held) (λ more at is. (extent, front ++ more, at, is)) first left read told)
  reply_read (TooLong n) first left held read (above, told) =
      (above, on_whole (λ bytes. IsOver extent bytes n) (λ bytes. IsLongReply bytes n) (λ more at is. (extent, front ++ more, at, is)) first left read told)
  reply_read (Unfit why) first left held read (cut, told) =
      subst (λ f. IfSome first (IsUnfit f)) (sym cut)
      (on_whole (λ bytes. message_in extent bytes ≡ None) (IsUnfit Cut) (λ more at is. cut_short (whole ++ more) extent (front ++ more) at is) first left read told)
  reply_read Failed first left held read told = tt
