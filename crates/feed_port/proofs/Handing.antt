-- The next message of a list.
use Rattle.std.proofs.Common.{◌≡◌, ℕ, zero, suc, ◌<◌, ◌≤◌, List, [], ◌∷◌, Some, Vec, Global, length, drop, map, get_or, sym, ap, ◌∙◌, subst, arith, false}
use Rattle.feed_defs.specs.History.{longest_message}
use Rattle.feed_port.specs.declared.port.PortAnswer.{PortAnswer}
use Rattle.feed_port.specs.declared.port.PortAnswer.TheVariants.{Message, TooLong, End, Failed}
use Rattle.hub_outside.specs.Calls.{CallCounts, is_failing, with_call}
use Rattle.feed_port.specs.Memory.{MessagesState, IsHandedIn, after_ask}
use Rattle.feed_port.specs.Ports.{Answers}

here_first : (messages : List (Vec ℕ Global)) (at : ℕ) (here : Vec ℕ Global) → at < length messages → here ≡ get_or messages at here
    → drop at (map (λ m. m.items) messages) ≡ here.items ∷ drop (suc at) (map (λ m. m.items) messages)
here_first [] at here within is = absurd (omega arith)
here_first (m ∷ ms) zero here within is = ap (λ v. v.items ∷ map (λ m. m.items) ms) (sym is)
here_first (m ∷ ms) (suc at) here within is = here_first ms at here (omega arith) is

-- the messages from a place on are the one there and those behind it
pub next_ahead : (messages : List (Vec ℕ Global)) (at next : ℕ) (here : Vec ℕ Global) (message : List ℕ) → at < length messages → here ≡ get_or messages at here
    → message ≡ here.items → next ≡ suc at → drop at (map (λ m. m.items) messages) ≡ message ∷ drop next (map (λ m. m.items) messages)
next_ahead messages at next here message within is held behind =
    here_first messages at here within is ∙ ap (λ m. m ∷ drop (suc at) (map (λ m. m.items) messages)) (sym held)
    ∙ ap (λ n. message ∷ drop n (map (λ m. m.items) messages)) (sym behind)

-- the first of the messages was handed in
pub handed_in : (answer : PortAnswer) (message held : List ℕ) (all rest : List (List ℕ)) → all ≡ message ∷ rest → IsHandedIn answer message held
    → Answers answer (Some all) (Some rest) held
handed_in Message message held all rest is (within, same) = (subst (λ xs. length xs ≤ longest_message) (sym same) within, is ∙ ap (λ m. m ∷ rest) (sym same))
handed_in (TooLong n) message held all rest is (above, told) = (subst (λ m. longest_message < m) (sym told) above, message, above, is)
handed_in End message held all rest is never = absurd never
handed_in Failed message held all rest is never = absurd never

-- a call that doesn't fail drops the first message
pub after_handed : (state : MessagesState) (rest : List (List ℕ)) (calls : CallCounts) → is_failing state.calls ≡ false → calls ≡ with_call state.calls
    → rest ≡ drop 1 state.ahead → record { ahead = rest; calls = calls } ≡ after_ask state
after_handed state rest calls well is same =
    rw well (ap (λ xs. record { ahead = xs; calls = calls }) same ∙ ap (λ cs. record { ahead = drop 1 state.ahead; calls = cs }) is)
