-- Reading the message of a reply.
use Rattle.std.proofs.Common.{◌≡◌, ℕ, ◌+◌, ◌-◌, ◌≤◌, ◌<◌, nat_lt, nat_le, true, false, List, [], ◌++◌, length, take, Option, None, Some, refl, sym, ap, ◌∙◌, subst, arith, length-append, append_assoc, append-nil}
use Rattle.std.specs.Prelude.{IfSome, is_some}
use Rattle.std.specs.Io.KnownBytes.{Consumes, Keeps, IsAtEnd}
use Rattle.std.proofs.KnownBytes.{Consumes-nil, Consumes-trans, Consumes-kept}
use Rattle.std.proofs.lemmas.Bool.Decides.{nat_tests}
use Rattle.std.proofs.lemmas.List.{take-append-le}
use Rattle.std.proofs.Math.Seq.{take-append_seam}
use Rattle.feed_defs.specs.History.{longest_message}
use Rattle.hub_outside.specs.Buffer.{BufferContents, room_of}
use Rattle.hub_outside.specs.Source.{ReadsBehind}
use Rattle.hub_outside.specs.declared.sources.ReadAnswer.TheVariants.{Got, End}
use Rattle.poll_port.specs.declared.extent.Extent.TheVariants.{ToEnd, Bytes}
use Rattle.poll_port.specs.declared.messages.Filled.TheVariants.{Whole, Ended}
use Rattle.poll_port.specs.declared.messages.Reply.{Reply}
use Rattle.poll_port.specs.declared.messages.Reply.TheVariants.{Message, TooLong, Unfit, Failed}
use Rattle.poll_port.specs.Reading.{FillsUp, MeetsEnd, ReadsMessage}
use Rattle.poll_port.specs.Replies.{message_in, IsOver}

abbrev Known : Type 0
Known = Option (List ℕ)

-- ---- filling the buffer

-- the buffer holds what it had at first and then what the source gave so far, no more than is asked
-- for, and lost no room
pub record Filling (start : List ℕ) (first now : Known) (faults faults' size room : ℕ) (into : BufferContents) : Type 0 where
  pub bytes : List ℕ
  pub held : into.bytes ≡ start ++ bytes
  pub taken : Consumes first now bytes
  pub within : length into.bytes ≤ size
  pub kept : room_of into ≡ room
  pub told : is_some now ≡ is_some first
  pub counted : faults ≤ faults'

pub begins : (left : Known) (faults size : ℕ) (into : BufferContents) → length into.bytes ≤ size
    → Filling into.bytes left left faults faults size (room_of into) into
begins left faults size into fits = record {
  bytes = [];
  held = sym (append-nil into.bytes);
  taken = Consumes-nil left;
  within = fits;
  kept = refl;
  told = refl;
  counted = omega arith;
}

pub goes_on : (start : List ℕ) (first now next : Known) (faults faults' faults'' size room n : ℕ) (into into' : BufferContents)
    → Filling start first now faults faults' size room into → ReadsBehind (Got n) now next into.bytes into'.bytes → n ≤ size - length into.bytes
    → room_of into' ≡ room_of into → is_some next ≡ is_some now → faults' ≤ faults'' → Filling start first next faults faults'' size room into'
goes_on start first now next faults faults' faults'' size room n into into' filling (more, long, grown, given) most same told counted = record {
  bytes = filling.bytes ++ more;
  held = grown ∙ ap (λ xs. xs ++ more) filling.held ∙ append_assoc start filling.bytes more;
  taken = Consumes-trans first now next filling.bytes more filling.taken given;
  within = let w = filling.within in omega (arith, ap length grown ∙ length-append into.bytes more, long, most, w);
  kept = same ∙ filling.kept;
  told = told ∙ filling.told;
  counted = let c = filling.counted in omega (arith, c, counted);
}

-- a read leaves less to be read
pub less_left : (now next : Known) (size n : ℕ) (old new : List ℕ) → ReadsBehind (Got n) now next old new → 1 ≤ n → length old < size
    → size - length new < size - length old
less_left now next size n old new (bytes, long, grown, given) some within =
    omega (arith, ap length grown ∙ length-append old bytes, long, some, within)

pub filled : (start : List ℕ) (first now : Known) (faults faults' size room : ℕ) (into : BufferContents)
    → Filling start first now faults faults' size room into → size ≤ length into.bytes → FillsUp Whole first now start into.bytes size
filled start first now faults faults' size room into f enough =
    (f.bytes, f.held, let w = f.within in omega (arith, w, enough), f.taken)

pub ended : (start : List ℕ) (first now next : Known) (faults faults' size room : ℕ) (into into' : BufferContents)
    → Filling start first now faults faults' size room into → length into.bytes < size → ReadsBehind End now next into.bytes into'.bytes
    → FillsUp Ended first next start into'.bytes size
ended start first now next faults faults' size room into into' f few (same, kept, over) =
    (f.bytes, same ∙ f.held, omega (arith, ap length same, few), Consumes-kept first now next f.bytes f.taken kept, over)

-- ---- messages of a length

over_size : (n : ℕ) (rest : List ℕ) → n ≤ longest_message → nat_le n (length rest) ≡ true → message_in (Bytes n) rest ≡ Some (take n rest)
unfolding message_in
over_size n rest within enough =
    let below : nat_lt longest_message n ≡ false = grind (arith, nat_tests) in rw (below, enough) refl

-- the bytes that are there have the length
pub sized : (n : ℕ) (held rest bytes : List ℕ) → n ≤ longest_message → length held ≡ n → bytes ≡ held ++ rest → message_in (Bytes n) bytes ≡ Some held
sized n held rest bytes within long is =
    let enough : nat_le n (length bytes) ≡ true = let l = ap length is ∙ length-append held rest in grind (arith, nat_tests) in
    over_size n bytes within enough
    ∙ ap Some (ap (take n) is ∙ subst (λ m. take m (held ++ rest) ≡ held) long (take-append_seam held rest))

-- they have fewer
pub too_few : (n : ℕ) (bytes : List ℕ) → n ≤ longest_message → length bytes < n → message_in (Bytes n) bytes ≡ None
unfolding message_in
too_few n bytes within few =
    let below : nat_lt longest_message n ≡ false = grind (arith, nat_tests) in
    let short : nat_le n (length bytes) ≡ false = grind (arith, nat_tests) in
    rw (below, short) refl

-- the message stands in the bytes that came with the head
pub in_front : (n : ℕ) (front : List ℕ) (left : Known) → n ≤ longest_message → n ≤ length front
    → IfSome left (λ bytes. message_in (Bytes n) (front ++ bytes) ≡ Some (take n front))
in_front n front None within enough = tt
in_front n front (Some ys) within enough =
    let all : nat_le n (length (front ++ ys)) ≡ true = let l = length-append front ys in grind (arith, nat_tests) in
    over_size n (front ++ ys) within all ∙ ap Some (take-append-le n front ys enough)

-- it was read behind them
pub sized_filled : (n : ℕ) (front held : List ℕ) (left next : Known) → n ≤ longest_message → FillsUp Whole left next front held n
    → IfSome left (λ bytes. message_in (Bytes n) (front ++ bytes) ≡ Some held)
sized_filled n front held None next within fills = tt
sized_filled n front held (Some xs) None within (bytes, is, long, read) = absurd read
sized_filled n front held (Some xs) (Some ys) within (bytes, is, long, read) =
    sized n held ys (front ++ xs) within long
    (ap (λ bs. front ++ bs) read ∙ sym (append_assoc front bytes ys) ∙ ap (λ bs. bs ++ ys) (sym is))

-- all that there is of the bytes was read
whole_read : (front held bytes xs ys : List ℕ) → held ≡ front ++ bytes → xs ≡ bytes ++ ys → ys ≡ [] → front ++ xs ≡ held
whole_read front held bytes xs ys is read none =
    ap (λ bs. front ++ bs) (read ∙ ap (λ bs. bytes ++ bs) none ∙ append-nil bytes) ∙ sym is

-- the source ended before
pub sized_ended : (n : ℕ) (front held : List ℕ) (left next : Known) → n ≤ longest_message → FillsUp Ended left next front held n
    → IfSome left (λ bytes. message_in (Bytes n) (front ++ bytes) ≡ None)
sized_ended n front held None next within fills = tt
sized_ended n front held (Some xs) None within (bytes, is, few, read, over) = absurd read
sized_ended n front held (Some xs) (Some ys) within (bytes, is, few, read, over) =
    let whole = whole_read front held bytes xs ys is read over in
    ap (message_in (Bytes n)) whole ∙ too_few n held within few

-- ---- messages that go to the end

pub end_met : (front held : List ℕ) (left next : Known) → FillsUp Ended left next front held longest_message
    → IfSome left (λ bytes. message_in ToEnd (front ++ bytes) ≡ Some held)
unfolding message_in
end_met front held None next fills = tt
end_met front held (Some xs) None (bytes, is, few, read, over) = absurd read
end_met front held (Some xs) (Some ys) (bytes, is, few, read, over) = ap Some (whole_read front held bytes xs ys is read over)

-- the longest message, and then the end
pub longest_met : (front held : List ℕ) (left mid next : Known) → FillsUp Whole left mid front held longest_message → Keeps mid next → IsAtEnd next
    → IfSome left (λ bytes. message_in ToEnd (front ++ bytes) ≡ Some held)
unfolding message_in
longest_met front held None mid next fills kept over = tt
longest_met front held (Some xs) None next (bytes, is, long, read) kept over = absurd read
longest_met front held (Some xs) (Some ys) None (bytes, is, long, read) kept over = absurd kept
longest_met front held (Some xs) (Some ys) (Some zs) (bytes, is, long, read) kept over =
    ap Some (whole_read front held bytes xs ys is read (sym kept ∙ over))

-- and then a further byte
pub longest_passed : (front held more : List ℕ) (left mid next : Known) → FillsUp Whole left mid front held longest_message
    → Consumes mid next more → 1 ≤ length more → IfSome left (λ bytes. IsOver ToEnd (front ++ bytes) (longest_message + 1))
longest_passed front held more None mid next fills given some = tt
longest_passed front held more (Some xs) None next (bytes, is, long, read) given some = absurd read
longest_passed front held more (Some xs) (Some ys) None (bytes, is, long, read) given some = absurd given
longest_passed front held more (Some xs) (Some ys) (Some zs) (bytes, is, long, read) given some =
    let whole : length (front ++ xs) ≡ length front + (length bytes + (length more + length zs)) =
    length-append front xs
    ∙ ap (λ m. length front + m) (ap length read ∙ length-append bytes ys ∙ ap (λ m. length bytes + m) (ap length given ∙ length-append more zs)) in
    let held_is = ap length is ∙ length-append front bytes in
    (omega (arith, whole, held_is, long, some), refl)

-- what came behind the longest message
pub met : (reply : Reply) (front held : List ℕ) (left mid next : Known) → FillsUp Whole left mid front held longest_message → MeetsEnd reply mid next
    → ReadsMessage reply ToEnd front left held
met Message front held left mid next fills (kept, over) =
    (let long = fills.2 in omega (arith, long), longest_met front held left mid next fills kept over)
met (TooLong n) front held left mid next fills (is, more, some, given) = (
  omega (arith, is),
  subst (λ k. IfSome left (λ bytes. IsOver ToEnd (front ++ bytes) k)) (sym is) (longest_passed front held more left mid next fills given some),
)
met (Unfit why) front held left mid next fills never = absurd never
met Failed front held left mid next fills ends = tt
