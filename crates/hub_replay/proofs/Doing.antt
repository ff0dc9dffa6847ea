-- Doing a record, by its line.
use Rattle.std.proofs.Common.{◌≡◌, ℕ, ◌≤◌, length, Bool, true, List, [], ◌++◌, drop, Option, Some, None, refl, sym, ◌∙◌, append-nil, arith}
use Rattle.std.proofs.lemmas.List.Elements.{All-nil}
use Rattle.board_text_defs.specs.Answers.{feed_number}
use Rattle.hub_replay_defs.specs.Optional.{◌>>=◌}
use Rattle.hub_replay_defs.specs.Lines.{Head, line_within, longest_line, head_of}
use Rattle.http_serve_defs.specs.Connections.{Served, IsServed}
use Rattle.hub_replay_defs.specs.Record.{Hub, turn, act, payload_at, payload_waits, offered_turn, waits, serving, with_feed, may_declare}
use Rattle.hub_replay_defs.specs.Lines.Head.{Feed, Message}
use Rattle.hub_replay_defs.proofs.Options.{bind_at, bind_none}
use Rattle.hub_replay_defs.proofs.Turns.{turn_line, no_line_here, no_line_turn}
use Rattle.hub_replay_defs.proofs.Opens.{waits_by_line, short_waits}
use Rattle.hub_replay.specs.declared.records.Step.{Step}
use Rattle.hub_replay.specs.declared.records.Step.TheVariants.{Whole}
use Rattle.hub_replay.specs.Records.{Turned, Does, Turns, Acts, LacksLine, numbered_turn}

-- what is done follows the records that the bytes give
pub does_same : (f g : Turned) (u v : List Served → List ℕ → Bool) → ((later : List Served) (more : List ℕ) → f later more ≡ g later more)
    → ((later : List Served) (more : List ℕ) → u later more ≡ v later more)
    → (step : Step) (old new : Hub) (bytes said said' : List ℕ) → Does g v step old new bytes said said' → Does f u step old new bytes said said'
does_same f g u v same alike later old new bytes said said' h = grind arith

-- the record in front is that of its line
pub turns_of_line : (hub new : Hub) (bytes line : List ℕ) (behind : ℕ) (head : Head) (step : Step) (said said' : List ℕ) → line_within longest_line bytes ≡ Some (line, drop behind bytes) → head_of line ≡ Some head
    → Acts head behind step hub new bytes said said' → Turns step hub new bytes said said'
turns_of_line hub new bytes line behind head step said said' there is h =
    let same : (later : List Served) (more : List ℕ) → turn (serving later hub) (bytes ++ more) ≡ act (serving later hub) head (drop behind bytes ++ more) =
    λ later more. turn_line (serving later hub) bytes more line (drop behind bytes) there ∙ bind_at (head_of line) _ head is in
    let waiting : (later : List Served) (more : List ℕ) → waits (serving later hub) (bytes ++ more) ≡ payload_waits (serving later hub) head (drop behind bytes ++ more) =
    λ later more. waits_by_line (serving later hub) bytes more line (drop behind bytes) head there is in
    does_same (λ later more. turn (serving later hub) (bytes ++ more)) (λ later more. act (serving later hub) head (drop behind bytes ++ more))
    (λ later more. waits (serving later hub) (bytes ++ more)) (λ later more. payload_waits (serving later hub) head (drop behind bytes ++ more)) same waiting step hub new bytes said said' h

-- a line that says nothing is no record
pub no_head : (hub : Hub) (bytes line rest : List ℕ) → line_within longest_line bytes ≡ Some (line, rest) → head_of line ≡ None
    → (later : List Served) (more : List ℕ) → turn (serving later hub) (bytes ++ more) ≡ None
no_head hub bytes line rest there is later more = turn_line (serving later hub) bytes more line rest there ∙ bind_none (head_of line) _ is

pub no_line_yet : (hub : Hub) (bytes : List ℕ) → line_within longest_line bytes ≡ None → turn hub (bytes ++ []) ≡ None
no_line_yet hub bytes h = rw (append-nil bytes) (no_line_here hub bytes h)

message_of_found : (hub : Hub) (feed : ℕ) (found : Option (List ℕ × List ℕ)) → (found >>= λ f. Some (offered_turn hub feed f)) ≡ numbered_turn hub feed found
message_of_found hub feed found = grind arith

-- what a message for a feed that is there does, by that feed's number
pub acts_of_number : (hub : Hub) (bytes name : List ℕ) (feed size behind : ℕ) → feed_number hub.plans name ≡ Some feed
    → (more : List ℕ) → act hub (Message name size) (drop behind bytes ++ more) ≡ numbered_turn hub feed (payload_at size (drop behind bytes ++ more))
acts_of_number hub bytes name feed size behind is more = grind (arith, bind_at, message_of_found)

-- bytes without a line among them wait, or are no record
pub lacks_line : (hub : Hub) (bytes said : List ℕ) (step : Step) → line_within longest_line bytes ≡ None → LacksLine (length bytes) step → Turns step hub hub bytes said said
lacks_line hub bytes said step none few =
    grind (arith, no_line_yet, append-nil, short_waits, no_line_turn)

-- a feed was declared
pub feed_declared : (hub new : Hub) (name : List ℕ) (behind : ℕ) (bytes said : List ℕ) → behind ≤ length bytes → may_declare hub name ≡ true
    → new ≡ record hub { plans = with_feed hub.plans name } → Acts (Feed name) behind (Whole behind) hub new bytes said said
feed_declared hub new name behind bytes said within may is = record {
  reply = [];
  says = sym (append-nil said);
  within = within;
  served = [];
  are_served = All-nil IsServed;
  is = λ later more. rw (may, is) refl;
}
