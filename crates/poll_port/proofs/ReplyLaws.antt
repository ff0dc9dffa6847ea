-- The message of a good reply is the one that is found, and where none is found there is none.
use Rattle.std.proofs.Common.{◌≡◌, ℕ, List, length, drop, Option, Some, None, refl, sym, ap, ◌∙◌}
use Rattle.std.specs.Option.{option_and_then}
use Rattle.std.proofs.lemmas.Option.{none-some}
use Rattle.httparse.specs.Grammar.{ResponseHead, print_response}
use Rattle.poll_port.specs.Fields.{extent_behind}
use Rattle.poll_port.specs.declared.faults.ReplyFault.TheVariants as fault
use Rattle.poll_port.specs.Heads.{head_in, message_behind, reply_in, head_fault, cut_fault, fault_behind, fault_by, fault_in}
use Rattle.poll_port.specs.Reading.{IsUnfit}
use Rattle.poll_port.specs.Replies.{BeginsWith, NoHead, IsGood, message_in, IsReply, NoReply}
use Rattle.poll_port.specs.declared.extent.Extent.{Extent}
use Rattle.poll_port.proofs.HeadLaws.{head_is_found, found_is_head, rest_is}

-- by a head in front
behind_head : (bytes : List ℕ) (head : ResponseHead) (rest : List ℕ) → BeginsWith bytes head rest
    → reply_in bytes ≡ option_and_then (λ extent. message_in extent rest) (extent_behind head)
unfolding reply_in
behind_head bytes head rest b =
    ap (option_and_then (message_behind bytes)) (head_is_found bytes head rest b)
    ∙ ap (λ xs. option_and_then (λ extent. message_in extent xs) (extent_behind head)) (rest_is bytes head rest b)

-- by the head of a good reply
pub good_reply : (bytes : List ℕ) (extent : Extent) (rest : List ℕ) → IsGood bytes extent rest → reply_in bytes ≡ message_in extent rest
good_reply bytes extent rest g =
    behind_head bytes g.head rest g.begins ∙ ap (option_and_then (λ e. message_in e rest)) g.told

pub reply_is_found : (bytes message : List ℕ) → IsReply bytes message → reply_in bytes ≡ Some message
reply_is_found bytes message (extent, rest, good, is) = good_reply bytes extent rest good ∙ is

-- where no message is found there is no good reply
none_found : (bytes : List ℕ) → reply_in bytes ≡ None → NoReply bytes
none_found bytes none message reply = absurd (none-some message (sym none ∙ reply_is_found bytes message reply))

pub no_head : (bytes : List ℕ) → NoHead bytes → NoReply bytes
no_head bytes none message (extent, rest, good, is) = none good.head rest good.begins

pub no_extent : (bytes : List ℕ) (head : ResponseHead) (rest : List ℕ) → BeginsWith bytes head rest → extent_behind head ≡ None → NoReply bytes
no_extent bytes head rest b none =
    none_found bytes (behind_head bytes head rest b ∙ ap (option_and_then (λ extent. message_in extent rest)) none)

pub no_message : (bytes : List ℕ) (extent : Extent) (rest : List ℕ) → IsGood bytes extent rest → message_in extent rest ≡ None → NoReply bytes
no_message bytes extent rest good none = none_found bytes (good_reply bytes extent rest good ∙ none)

-- and the other way round
pub no_reply_found : (bytes : List ℕ) → NoReply bytes → reply_in bytes ≡ None
unfolding reply_in
no_reply_found bytes none = by_head (head_in bytes) refl
  where
    by_message : (head : ResponseHead) → head_in bytes ≡ Some head → (extent : Option Extent) → extent_behind head ≡ extent
        → option_and_then (λ e. message_in e (drop (length (print_response head)) bytes)) extent ≡ None
    by_message head found None told = refl
    by_message head found (Some extent) told = by (message_in extent (drop (length (print_response head)) bytes)) refl
      where
        by : (m : Option (List ℕ)) → message_in extent (drop (length (print_response head)) bytes) ≡ m → m ≡ None
        by None is = refl
        by (Some message) is =
            absurd (none message (extent, drop (length (print_response head)) bytes, record { head = head; begins = found_is_head bytes head found; told = told }, is))

    by_head : (found : Option ResponseHead) → head_in bytes ≡ found → option_and_then (message_behind bytes) found ≡ None
    by_head None e = refl
    by_head (Some head) e = by_message head e (extent_behind head) refl

-- ---- what is wrong

-- by a head in front
fault_at : (bytes : List ℕ) (head : ResponseHead) (rest : List ℕ) → BeginsWith bytes head rest → fault_in bytes ≡ fault_behind rest head (extent_behind head)
unfolding fault_in
fault_at bytes head rest b =
    ap (fault_by bytes) (head_is_found bytes head rest b)
    ∙ ap (λ xs. fault_behind xs head (extent_behind head)) (rest_is bytes head rest b)

-- no head is in front
pub headless : (bytes : List ℕ) → NoHead bytes → IsUnfit fault.Head bytes
unfolding fault_in
headless bytes none = (no_head bytes none, by (head_in bytes) refl)
  where
    by : (found : Option ResponseHead) → head_in bytes ≡ found → fault_by bytes found ≡ Some fault.Head
    by None e = refl
    by (Some head) e = absurd (none head (drop (length (print_response head)) bytes) (found_is_head bytes head e))

-- the head has a fault
pub bad_head : (bytes : List ℕ) (head : ResponseHead) (rest : List ℕ) → BeginsWith bytes head rest → extent_behind head ≡ None
    → IsUnfit (head_fault head) bytes
bad_head bytes head rest b none =
    (no_extent bytes head rest b none, fault_at bytes head rest b ∙ ap (fault_behind rest head) none)

-- the message is cut
pub cut_short : (bytes : List ℕ) (extent : Extent) (rest : List ℕ) → IsGood bytes extent rest → message_in extent rest ≡ None → IsUnfit fault.Cut bytes
cut_short bytes extent rest good none = (
  no_message bytes extent rest good none,
  fault_at bytes good.head rest good.begins ∙ ap (fault_behind rest good.head) good.told ∙ ap cut_fault none,
)
