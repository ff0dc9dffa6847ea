use Rattle.std.proofs.Common.{Some, ap, refl, ◌∙◌}
use Rattle.hub_outside.specs.Memory.{SinkState, SourceState, bytes_left, bytes_written}
use Rattle.http_serve.proofs.Standing.{is_transcript}
use Rattle.http_serve.proofs.server.ConnectionServer.serve_bytes.Goals as goal

pub returns-clause-transcript : goal.returns-clause-transcript
returns-clause-transcript g c = λ still.
    is_transcript c.serve-session.result.end (record { written = c.serve-session.new.sink; finish = c.in_ok-finish.finish })
    _ _ _ _ _ _ c.args.moment c.args.input.now _ _
    (ap (λ (s : SourceState). Some (bytes_left s)) c.new-source.ensures ∙ ap Some c.in_ok-bytes.ensures.items)
    (ap (λ (s : SinkState). Some (bytes_written s)) c.new-written.ensures)
    (ap Some (c.new-clock.ensures ∙ c.in_ok-vec.ensures.items))
    still refl refl c.in_ok-finish.ensures c.serve-session.ensures.serves.1
