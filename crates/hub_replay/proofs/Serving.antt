-- A connection, by its input.
use Rattle.std.proofs.Common.{◌≡◌, ℕ, ◌+◌, ◌≤◌, List, [], ◌∷◌, ◌++◌, length, take, drop, Some, Result, true, false, refl, ◌∙◌, arith, append-nil, append_assoc, length-drop}
use Rattle.std.specs.Prelude.{slice_get, ◌==◌}
use Rattle.std.specs.Result.{IsErrAnd}
use Rattle.std.specs.Str.{bytes_eq}
use Rattle.std.proofs.lemmas.List.Elements.{All-cons, All-nil}
use Rattle.std.proofs.lemmas.Option.{slice_get_within}
use Rattle.std.proofs.lemmas.Slice.Eq.{bytes_eq-Decides}
use Rattle.http_serve_defs.specs.Connections.{Served, IsServed, connection_bytes}
use Rattle.hub_replay_defs.specs.Lines.Head.{Connection}
use Rattle.hub_replay_defs.specs.Record.{Hub, connection_of, connection_reply, folds_in}
use Rattle.hub_replay_defs.proofs.Connections.{first_is_served}
use Rattle.hub_replay_defs.proofs.Opens.{input_short}
use Rattle.hub_replay_defs.proofs.Payloads.{no_payload}
use Rattle.hub_replay.specs.declared.records.Step.TheVariants.{Whole, Short, Refused}
use Rattle.hub_replay.specs.Records.{Acts, Said, Says}
use Rattle.hub_replay.proofs.Offering.{there}

same_bytes : (xs ys : List ℕ) → xs ≡ ys → bytes_eq xs ys ≡ true
same_bytes xs ys e = (bytes_eq-Decides xs ys).1 e

-- a connection whose input is there was served
pub connection_done : (hub new : Hub) (moment n behind : ℕ) (bytes input said said' : List ℕ) → behind ≤ length bytes
    → slice_get bytes (behind + n) ≡ Some 10 → input ≡ take n (drop behind bytes) → Said hub new moment input said said'
    → Acts (Connection moment n) behind (Whole (behind + n + 1)) hub new bytes said said'
connection_done hub new moment n behind bytes input said said' within at is s =
    let inside = slice_get_within bytes (behind + n) 10 at in
    let equal = same_bytes s.served.input (take n (drop behind bytes)) (s.of_input ∙ is) in
    let found : (later : List Served) → connection_of (take n (drop behind bytes)) (s.served ∷ later) ≡ (s.served, later) =
    λ later. first_is_served s.served (take n (drop behind bytes)) later equal
    in
    record {
      reply = connection_reply (connection_bytes hub.plans moment (length hub.history) (folds_in hub) s.served) s.served.finish;
      says = s.says;
      within = omega arith;
      served = s.served ∷ [];
      are_served = All-cons IsServed s.served [] s.is_served (All-nil IsServed);
      is = λ later more. rw (there n behind bytes more 10 within at, found later, s.hub) refl;
    }

-- an input with no LF behind it
pub no_line_feed_behind : (hub : Hub) (moment n behind : ℕ) (bytes said : List ℕ) (b : ℕ) → behind ≤ length bytes
    → slice_get bytes (behind + n) ≡ Some b → (b == 10) ≡ false → Acts (Connection moment n) behind Refused hub hub bytes said said
no_line_feed_behind hub moment n behind bytes said b within at other =
    (refl, λ later more. rw (there n behind bytes more b within at, other) refl)

-- an input that isn't whole yet
pub input_waits : (hub : Hub) (moment n behind : ℕ) (bytes said : List ℕ) → behind ≤ length bytes → length bytes ≤ behind + n
    → Acts (Connection moment n) behind Short hub hub bytes said said
input_waits hub moment n behind bytes said within short =
    grind (arith, length-drop, append-nil, no_payload, input_short)

-- nothing was said
pub says_nothing : {A E : Type 0} (r : Result A E) (said text : List ℕ) (P : E → Type 0) → IsErrAnd r P → Says r said said text
says_nothing r said text P e = grind (arith, append-nil)

-- something was said behind two texts
pub says_behind : {A E : Type 0} (r : Result A E) (said first second third line bytes last text : List ℕ) → first ≡ said ++ line → second ≡ first ++ bytes
    → Says r second third last → line ++ (bytes ++ last) ≡ text → Says r said third text
says_behind r said first second third line bytes last text one two three all =
    grind (arith, append_assoc)
