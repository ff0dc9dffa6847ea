-- What reading the message in front of a source comes to, case by case.
use Rattle.std.proofs.Common.{◌≡◌, ℕ, ◌+◌, ◌<◌, ◌≤◌, List, [], ◌∷◌, ◌++◌, Option, Some, None, length, refl, sym, ap, ◌∙◌, arith, length-append, inr}
use Rattle.std.specs.Prelude.{replicate, IfSome, ◌⊎◌}
use Rattle.std.specs.Option.{option_map}
use Rattle.std.specs.Int.{from_be_bytes, w32}
use Rattle.std.specs.Io.KnownBytes.{Consumes, IsAtEnd}
use Rattle.std.proofs.lemmas.List.{length-replicate}
use Rattle.feed_defs.specs.History.{longest_message}
use Rattle.feed_port.specs.Frames.{frame_at, frame_of, messages_in}
use Rattle.feed_port.specs.Frames.Frame.{Whole as WholeFrame, Over as OverLimit, Nothing}
use Rattle.hub_outside.specs.Count.{Rose}
use Rattle.feed_port.specs.Ports.{Gives, IsDone, HasPortCause}
use Rattle.feed_port.specs.Streams.{EndsWithin, Fills, ReadsFrame, answer_of}
use Rattle.feed_port.specs.declared.filling.Filled.TheVariants.{Whole, Ended}
use Rattle.feed_port.specs.declared.port.PortAnswer.TheVariants.{Message, TooLong, End, Failed}
use Rattle.feed_port.specs.declared.stream.Stage.TheVariants.{Open, Over, Cut}
use Rattle.feed_port.proofs.Framing.{head_first, head_cut, over_limit, whole_message, message_cut, by_front}

abbrev pub Known : Type 0
Known = Option (List ℕ)

-- a fault of the port's own
own_fault : (faults faults' : ℕ) → faults ≤ faults' → HasPortCause Failed faults (faults' + 1)
own_fault faults faults' counted = (omega (arith, counted), (omega (arith, counted), λ same. absurd (omega (arith, counted, same))))

nothing_left : (left : Known) → IsAtEnd left → IsDone (option_map messages_in left)
unfolding frame_at
nothing_left None over = tt
nothing_left (Some ys) over = ap messages_in over ∙ by_front [] Nothing refl

-- the source was at its end
pub at_end : (left left' : Known) (faults faults' : ℕ) (held : List ℕ) → Fills Ended left left' held 4 → length held ≡ 0 → faults ≤ faults'
    → ReadsFrame End Open left left' faults faults' held
unfolding frame_at
at_end None left' faults faults' held (few, given, over) empty counted = (tt, refl, (tt, nothing_left left' over), omega (arith, counted))
at_end (Some xs) None faults faults' held (few, given, over) empty counted = absurd given
at_end (Some xs) (Some ys) faults faults' [] (few, given, over) empty counted =
    (inr (ap (λ b. answer_of (frame_at b)) (sym (given ∙ over))), refl, (ap messages_in given, nothing_left (Some ys) over), omega (arith, counted))
at_end (Some xs) (Some ys) faults faults' (b ∷ held) (few, given, over) empty counted = absurd (omega (arith, empty))

is_cut : (left : Known) (faults faults' : ℕ) → EndsWithin left
    → IfSome left (λ bytes. Rose faults faults' ⊎ (Failed ≡ answer_of (frame_at bytes)))
is_cut None faults faults' cut = tt
is_cut (Some xs) faults faults' cut = inr (ap answer_of (sym cut))

-- the source ended within a message
cut_read : (left left' : Known) (faults faults' : ℕ) (held : List ℕ) → EndsWithin left → faults ≤ faults'
    → ReadsFrame Failed Cut left left' faults faults' held
cut_read left left' faults faults' held cut counted =
    (is_cut left faults faults' cut, inr (refl, cut), tt, own_fault faults faults' counted)

-- it ended within the length
pub within_length : (left left' : Known) (faults faults' : ℕ) (held : List ℕ) → Fills Ended left left' held 4 → 0 < length held → faults ≤ faults'
    → ReadsFrame Failed Cut left left' faults faults' held
within_length left left' faults faults' held (few, given, over) some counted =
    cut_read left left' faults faults' held (cut left left' given over) counted
  where
    cut : (left left' : Known) → Consumes left left' held → IsAtEnd left' → EndsWithin left
    cut None left' given over = tt
    cut (Some xs) None given over = absurd given
    cut (Some xs) (Some ys) given over =
        let long = ap length given ∙ length-append held ys in
        let none = ap length over in
        head_cut xs (omega (arith, long, none, some)) (omega (arith, long, none, few))

-- the length is above the limit
pub above_limit : (left left' : Known) (faults faults' size : ℕ) (head held : List ℕ) → Fills Whole left left' head 4
    → size ≡ from_be_bytes w32 head → longest_message < size → faults ≤ faults' → ReadsFrame (TooLong size) Over left left' faults faults' held
above_limit left left' faults faults' size head held (four, given) is above counted =
    (exact left left' given, refl, (above, replicate size 0, omega (arith, above, length-replicate {A = ℕ} size 0), gives left left' given), omega (arith, counted))
  where
    frame : (xs ys : List ℕ) → xs ≡ head ++ ys → frame_at xs ≡ OverLimit size
    frame xs ys given = head_first head ys xs four given ∙ ap (λ n. frame_of n ys) (sym is) ∙ over_limit size ys above

    exact : (left left' : Known) → Consumes left left' head → IfSome left (λ bytes. Rose faults faults' ⊎ (TooLong size ≡ answer_of (frame_at bytes)))
    exact None left' given = tt
    exact (Some xs) None given = absurd given
    exact (Some xs) (Some ys) given = inr (ap answer_of (sym (frame xs ys given)))

    gives : (left left' : Known) → Consumes left left' head → Gives (option_map messages_in left) (option_map (λ bytes. []) left') (replicate size 0 ∷ [])
    gives None left' given = tt
    gives (Some xs) None given = tt
    gives (Some xs) (Some ys) given = by_front xs (OverLimit size) (frame xs ys given)

-- all of a message was there
pub message_there : (left mid left' : Known) (faults faults' size : ℕ) (head held : List ℕ) → Fills Whole left mid head 4
    → size ≡ from_be_bytes w32 head → size ≤ longest_message → Fills Whole mid left' held size → faults ≤ faults' → ReadsFrame Message Open left left' faults faults' held
message_there left mid left' faults faults' size head held (four, given) is within (long, rest) counted =
    (exact left mid left' given rest, refl, (omega (arith, long, within), gives left mid left' given rest), omega (arith, counted))
  where
    frame : (xs ms ys : List ℕ) → xs ≡ head ++ ms → ms ≡ held ++ ys → frame_at xs ≡ WholeFrame held ys
    frame xs ms ys given rest = head_first head ms xs four given ∙ ap (λ n. frame_of n ms) (sym is) ∙ whole_message size held ms ys within long rest

    exact : (left mid left' : Known) → Consumes left mid head → Consumes mid left' held → IfSome left (λ bytes. Rose faults faults' ⊎ (Message ≡ answer_of (frame_at bytes)))
    exact None mid left' given rest = tt
    exact (Some xs) None left' given rest = absurd given
    exact (Some xs) (Some ms) None given rest = absurd rest
    exact (Some xs) (Some ms) (Some ys) given rest = inr (ap answer_of (sym (frame xs ms ys given rest)))

    gives : (left mid left' : Known) → Consumes left mid head → Consumes mid left' held → Gives (option_map messages_in left) (option_map messages_in left') (held ∷ [])
    gives None mid left' given rest = tt
    gives (Some xs) None left' given rest = absurd given
    gives (Some xs) (Some ms) None given rest = absurd rest
    gives (Some xs) (Some ms) (Some ys) given rest = by_front xs (WholeFrame held ys) (frame xs ms ys given rest)

-- it ended behind the length, within the message
pub within_message : (left mid left' : Known) (faults faults' size : ℕ) (head held : List ℕ) → Fills Whole left mid head 4
    → size ≡ from_be_bytes w32 head → size ≤ longest_message → Fills Ended mid left' held size → faults ≤ faults' → ReadsFrame Failed Cut left left' faults faults' held
within_message left mid left' faults faults' size head held (four, given) is within (few, rest, over) counted =
    cut_read left left' faults faults' held (cut left mid left' given rest over) counted
  where
    cut : (left mid left' : Known) → Consumes left mid head → Consumes mid left' held → IsAtEnd left'
        → EndsWithin left
    cut None mid left' given rest over = tt
    cut (Some xs) None left' given rest over = absurd given
    cut (Some xs) (Some ms) None given rest over = absurd rest
    cut (Some xs) (Some ms) (Some ys) given rest over =
        let long = ap length rest ∙ length-append held ys in
        let none = ap length over in
        head_first head ms xs four given ∙ ap (λ n. frame_of n ms) (sym is) ∙ message_cut size ms within (omega (arith, long, none, few))
