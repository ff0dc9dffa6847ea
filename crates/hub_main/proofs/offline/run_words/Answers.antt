use Rattle.exit_status.specs.Codes.{code_of}
use Rattle.hub_outside.specs.Outside.{file_store, outside, stream}
use Rattle.hub_main_defs.specs.Words.{command_of}
use Rattle.std.proofs.Common.{◌≡◌, Some, subst}
use Rattle.board_text_defs.specs.Asked.{asked_seen}
use Rattle.hub_words.specs.Answer.{seen}
use Rattle.hub_words.specs.declared.read.Command.TheVariants.{Board, Gen}
use Rattle.hub_main.proofs.Asked.{asked_range, sample_range}
use Rattle.hub_replay_defs.specs.Record.{start}
use Rattle.hub_main.proofs.Commands.{short_outcome}
use Rattle.hub_main.proofs.Exits.{configured_input, replay_input}
use Rattle.hub_main.proofs.offline.run_words.Goals as goal

pub returns-in-Err-NoMemory-clause-outcome : goal.returns-in-Err-NoMemory-clause-outcome
returns-in-Err-NoMemory-clause-outcome g c =
    short_outcome (command_of c.args.words.now) (outside
    (file_store (g.F.Files.contents c.args.files.now) (g.F.Files.faults c.args.files.now) (g.F.Files.last_fault c.args.files.now))
    (stream (g.S.Source.left c.args.input.now) (g.S.Source.faults c.args.input.now))
    (stream (g.K.Sink.written c.args.out.now) (g.K.Sink.faults c.args.out.now)))

pub run_board-requires : goal.run_board-requires
run_board-requires g c =
    let words = c.args.words.now in
    let is : command_of words ≡ Some (seen (Board c.in-Ok-Board.config c.in-Ok-Board.asked)) =
    subst (λ command. command_of words ≡ Some (seen command)) c.in-Ok-Board.field-0-is c.in-Ok-Board.ensures in
    asked_range words c.in-Ok-Board.config.now (asked_seen c.in-Ok-Board.asked) is

pub run_gen-requires : goal.run_gen-requires
run_gen-requires g c =
    let words = c.args.words.now in
    let is : command_of words ≡ Some (seen (Gen c.in-Ok-Gen.seed c.in-Ok-Gen.trips c.in-Ok-Gen.messages)) =
    subst (λ command. command_of words ≡ Some (seen command)) c.in-Ok-Gen.field-0-is c.in-Ok-Gen.ensures in
    sample_range words c.in-Ok-Gen.seed c.in-Ok-Gen.trips c.in-Ok-Gen.messages is

pub returns-in-Ok-Replay-clause-input_count : goal.returns-in-Ok-Replay-clause-input_count
returns-in-Ok-Replay-clause-input_count g c =
    replay_input start (stream (g.S.Source.left c.args.input.now) (g.S.Source.faults c.args.input.now)) (stream (g.S.Source.left c.replay.new.input) (g.S.Source.faults c.replay.new.input))
    (stream (g.K.Sink.written c.args.out.now) (g.K.Sink.faults c.args.out.now)) (stream (g.K.Sink.written c.replay.new.out) (g.K.Sink.faults c.replay.new.out)) (code_of c.replay.result) c.replay.ensures

pub returns-in-Ok-ReplayWith-clause-input_count : goal.returns-in-Ok-ReplayWith-clause-input_count
returns-in-Ok-ReplayWith-clause-input_count g c =
    configured_input _
    (outside (file_store (g.F.Files.contents c.args.files.now) (g.F.Files.faults c.args.files.now) (g.F.Files.last_fault c.args.files.now)) (stream (g.S.Source.left c.args.input.now) (g.S.Source.faults c.args.input.now))
    (stream (g.K.Sink.written c.args.out.now) (g.K.Sink.faults c.args.out.now)))
    (outside (file_store (g.F.Files.contents c.run_replay.new.files) (g.F.Files.faults c.run_replay.new.files) (g.F.Files.last_fault c.run_replay.new.files)) (stream (g.S.Source.left c.run_replay.new.input) (g.S.Source.faults c.run_replay.new.input))
    (stream (g.K.Sink.written c.run_replay.new.out) (g.K.Sink.faults c.run_replay.new.out)))
    (code_of c.run_replay.result) c.run_replay.ensures.outcome
