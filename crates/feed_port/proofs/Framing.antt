-- The messages of a stream, by what stands in front of it.
use Rattle.std.proofs.Common.{◌≡◌, ℕ, zero, suc, ◌<◌, ◌≤◌, nat_lt, Bool, true, false, cond, List, [], ◌∷◌, ◌++◌, length, take, drop, refl, ap, ◌∙◌, subst, arith, length-append, length-drop}
use Rattle.std.specs.Int.{from_be_bytes, w32}
use Rattle.std.proofs.lemmas.Bool.Decides.{nat_tests}
use Rattle.std.proofs.Math.Seq.{take-append_seam, drop-append_seam}
use Rattle.feed_defs.specs.History.{longest_message}
use Rattle.feed_port.specs.Frames.{Frame, frame_of, cut_or_nothing, frame_at, messages_by, messages_within, messages_in}
use Rattle.feed_port.specs.Frames.Frame.{Whole, Over, Cut, Nothing}

-- ---- what stands in front

-- four bytes, and what stands behind them
pub head_first : (head rest bytes : List ℕ) → length head ≡ 4 → bytes ≡ head ++ rest → frame_at bytes ≡ frame_of (from_be_bytes w32 head) rest
unfolding frame_at
head_first head rest bytes four is =
    let long : nat_lt (length bytes) 4 ≡ false = let l = ap length is ∙ length-append head rest in grind (arith, nat_tests) in
    let front : take 4 bytes ≡ head = ap (take 4) is ∙ subst (λ n. take n (head ++ rest) ≡ head) four (take-append_seam head rest) in
    let back : drop 4 bytes ≡ rest = ap (drop 4) is ∙ subst (λ n. drop n (head ++ rest) ≡ rest) four (drop-append_seam head rest) in
    rw (long, front, back) refl

-- fewer than four, but some
pub head_cut : (bytes : List ℕ) → 0 < length bytes → length bytes < 4 → frame_at bytes ≡ Cut
unfolding frame_at
head_cut [] some few = absurd (omega arith)
head_cut (b ∷ bytes) some few = let short : nat_lt (length (b ∷ bytes)) 4 ≡ true = grind (arith, nat_tests) in rw short refl

pub over_limit : (size : ℕ) (rest : List ℕ) → longest_message < size → frame_of size rest ≡ Over size
over_limit size rest above = let test : nat_lt longest_message size ≡ true = grind (arith, nat_tests) in rw test refl

pub whole_message : (size : ℕ) (message rest behind : List ℕ) → size ≤ longest_message → length message ≡ size → rest ≡ message ++ behind
    → frame_of size rest ≡ Whole message behind
whole_message size message rest behind within long is =
    let below : nat_lt longest_message size ≡ false = grind (arith, nat_tests) in
    let all : nat_lt (length rest) size ≡ false = let l = ap length is ∙ length-append message behind in grind (arith, nat_tests) in
    let front : take size rest ≡ message = ap (take size) is ∙ subst (λ n. take n (message ++ behind) ≡ message) long (take-append_seam message behind) in
    let back : drop size rest ≡ behind = ap (drop size) is ∙ subst (λ n. drop n (message ++ behind) ≡ behind) long (drop-append_seam message behind) in
    rw (below, all, front, back) refl

pub message_cut : (size : ℕ) (rest : List ℕ) → size ≤ longest_message → length rest < size → frame_of size rest ≡ Cut
message_cut size rest within few =
    let below : nat_lt longest_message size ≡ false = grind (arith, nat_tests) in
    let short : nat_lt (length rest) size ≡ true = grind (arith, nat_tests) in
    rw (below, short) refl

-- ---- the messages

not_whole : (bytes message rest : List ℕ) → cut_or_nothing bytes ≡ Whole message rest → length rest < length bytes
not_whole [] message rest e = cc
not_whole (b ∷ bytes) message rest e = cc

behind_size : (size : ℕ) (bytes message rest : List ℕ) (over short : Bool)
    → cond over (Over size) (cond short Cut (Whole (take size bytes) (drop size bytes))) ≡ Whole message rest → length rest ≤ length bytes
behind_size size bytes message rest true short e = cc
behind_size size bytes message rest false true e = cc
behind_size size bytes message rest false false e = let same : drop size bytes ≡ rest = cc in omega (arith, ap length same, length-drop size bytes)

-- what follows a message is shorter
rest_shorter : (bytes message rest : List ℕ) → frame_at bytes ≡ Whole message rest → length rest < length bytes
unfolding frame_at
rest_shorter bytes message rest e = by_head (nat_lt (length bytes) 4) refl e
  where
    by_head : (short : Bool) → nat_lt (length bytes) 4 ≡ short
        → cond short (cut_or_nothing bytes) (frame_of (from_be_bytes w32 (take 4 bytes)) (drop 4 bytes)) ≡ Whole message rest → length rest < length bytes
    by_head true test is = not_whole bytes message rest is
    by_head false test is =
        let four : 4 ≤ length bytes = grind (arith, nat_tests) in
        omega (arith, four, length-drop 4 bytes, behind_size (from_be_bytes w32 (take 4 bytes)) (drop 4 bytes) message rest _ _ is)

by_frame : (frame : Frame) (one other : List ℕ → List (List ℕ)) → ((message rest : List ℕ) → frame ≡ Whole message rest → one rest ≡ other rest)
    → messages_by frame one ≡ messages_by frame other
by_frame (Whole message rest) one other same = ap (λ ms. message ∷ ms) (same message rest refl)
by_frame (Over size) one other same = refl
by_frame Cut one other same = refl
by_frame Nothing one other same = refl

-- with steps enough the number of steps is of no meaning
enough : (s t : ℕ) (bytes : List ℕ) → length bytes < s → length bytes < t → messages_within s bytes ≡ messages_within t bytes
unfolding messages_within
enough zero t bytes h k = absurd (omega arith)
enough (suc s) zero bytes h k = absurd (omega arith)
enough (suc s) (suc t) bytes h k =
    by_frame (frame_at bytes) (messages_within s) (messages_within t)
    (λ message rest e. let less = rest_shorter bytes message rest e in enough s t rest (omega (arith, less, h)) (omega (arith, less, k)))

-- the messages are those of the frame in front
pub by_front : (bytes : List ℕ) (frame : Frame) → frame_at bytes ≡ frame → messages_in bytes ≡ messages_by frame messages_in
unfolding messages_in messages_within
by_front bytes frame e =
    by_frame (frame_at bytes) (messages_within (length bytes)) messages_in
    (λ message rest is. let less = rest_shorter bytes message rest is in enough (length bytes) (suc (length rest)) rest less (omega arith))
    ∙ ap (λ f. messages_by f messages_in) e
