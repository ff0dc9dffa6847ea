-- What a connection in memory comes to that is served at one moment.
use Rattle.std.specs.Prelude.{◌≡◌, ℕ, List, length}
use Rattle.feed_defs.specs.declared.history.Entry.{Entry}
use Rattle.sched_types.specs.Schedules.{Schedules}
use Rattle.board_defs.specs.Fold.{fold_of}
use Rattle.hub_outside.specs.Memory.{bytes_written}
use Rattle.http_defs.specs.Requests.{Finish as DefinedFinish, ended, closed, bad}
use Rattle.http_serve_defs.specs.Connections.{Served, IsServed, connection_bytes}
use Rattle.http_serve.specs.declared.session.End.{End}
use Rattle.http_serve.specs.declared.session.End.TheVariants as ends
use Rattle.http_serve.specs.declared.transcript.Finish.{Finish}
use Rattle.http_serve.specs.declared.transcript.Finish.TheVariants.{Ended, Closed, Bad}
use Rattle.http_serve.specs.declared.transcript.Transcript.{Transcript}

-- why there is no further request, in the words of requests
abbrev pub finish_seen : Finish → DefinedFinish
finish_seen Ended = ended
finish_seen Closed = closed
finish_seen Bad = bad

-- how serving ended, where the whole input was answered
abbrev pub Finishes : End → Finish → Type 0
Finishes ends.Ended finish = finish ≡ Ended
Finishes ends.Closed finish = finish ≡ Closed
Finishes ends.Bad finish = finish ≡ Bad
Finishes ends.ReadFault finish = ⊥
Finishes ends.WriteFault finish = ⊥
Finishes ends.NoMemory finish = ⊥

-- The items are those of the input, with their finish. What was written are the responses to all of
-- them, each at the moment and of the whole history.
pub record IsTranscript
    (plans : Schedules) (history : List Entry) (moment : ℕ) (input : List ℕ)
    (transcript : Transcript) : Type 0 where
  pub served : Served
  pub is_served : IsServed served
  pub of_input : served.input ≡ input
  pub finish : served.finish ≡ finish_seen transcript.finish
  pub written : bytes_written transcript.written
      ≡ connection_bytes plans moment (length history) (fold_of (length plans.feeds) history) served
