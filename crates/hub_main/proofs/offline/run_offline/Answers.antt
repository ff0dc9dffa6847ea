use Rattle.exit_status.specs.Codes.{code_of}
use Rattle.hub_outside.specs.Outside.{file_store, outside, stream}
use Rattle.hub_main_defs.specs.Words.{command_of}
use Rattle.hub_main.proofs.Commands.{told_whole}
use Rattle.hub_main.proofs.Exits.{command_exit, command_output, command_usage}
use Rattle.hub_main.proofs.offline.run_offline.Goals as goal

pub returns-clause-outcome : goal.returns-clause-outcome
returns-clause-outcome g c = rw c.code.ensures c.run_words.ensures.outcome

pub returns-clause-status : goal.returns-clause-status
returns-clause-status g c =
    rw c.code.ensures
    (command_exit (command_of c.args.words.now)
    (outside (file_store (g.F.Files.contents c.args.files.now) (g.F.Files.faults c.args.files.now) (g.F.Files.last_fault c.args.files.now)) (stream (g.S.Source.left c.args.input.now) (g.S.Source.faults c.args.input.now))
    (stream (g.K.Sink.written c.args.out.now) (g.K.Sink.faults c.args.out.now)))
    (outside (file_store (g.F.Files.contents c.run_words.new.files) (g.F.Files.faults c.run_words.new.files) (g.F.Files.last_fault c.run_words.new.files)) (stream (g.S.Source.left c.run_words.new.input) (g.S.Source.faults c.run_words.new.input))
    (stream (g.K.Sink.written c.run_words.new.out) (g.K.Sink.faults c.run_words.new.out)))
    (code_of c.run_words.result) c.run_words.ensures.outcome)

pub returns-clause-whole : goal.returns-clause-whole
returns-clause-whole g c =
    rw c.code.ensures
    (told_whole (command_of c.args.words.now)
    (outside (file_store (g.F.Files.contents c.args.files.now) (g.F.Files.faults c.args.files.now) (g.F.Files.last_fault c.args.files.now)) (stream (g.S.Source.left c.args.input.now) (g.S.Source.faults c.args.input.now))
    (stream (g.K.Sink.written c.args.out.now) (g.K.Sink.faults c.args.out.now)))
    (outside (file_store (g.F.Files.contents c.run_words.new.files) (g.F.Files.faults c.run_words.new.files) (g.F.Files.last_fault c.run_words.new.files)) (stream (g.S.Source.left c.run_words.new.input) (g.S.Source.faults c.run_words.new.input))
    (stream (g.K.Sink.written c.run_words.new.out) (g.K.Sink.faults c.run_words.new.out)))
    (code_of c.run_words.result) c.run_words.ensures.outcome)

pub returns-clause-usage : goal.returns-clause-usage
returns-clause-usage g c =
    rw c.code.ensures
    (command_usage (command_of c.args.words.now)
    (outside (file_store (g.F.Files.contents c.args.files.now) (g.F.Files.faults c.args.files.now) (g.F.Files.last_fault c.args.files.now)) (stream (g.S.Source.left c.args.input.now) (g.S.Source.faults c.args.input.now))
    (stream (g.K.Sink.written c.args.out.now) (g.K.Sink.faults c.args.out.now)))
    (outside (file_store (g.F.Files.contents c.run_words.new.files) (g.F.Files.faults c.run_words.new.files) (g.F.Files.last_fault c.run_words.new.files)) (stream (g.S.Source.left c.run_words.new.input) (g.S.Source.faults c.run_words.new.input))
    (stream (g.K.Sink.written c.run_words.new.out) (g.K.Sink.faults c.run_words.new.out)))
    (code_of c.run_words.result) c.run_words.ensures.outcome)

pub returns-clause-output_count : goal.returns-clause-output_count
returns-clause-output_count g c =
    command_output (command_of c.args.words.now)
    (outside (file_store (g.F.Files.contents c.args.files.now) (g.F.Files.faults c.args.files.now) (g.F.Files.last_fault c.args.files.now)) (stream (g.S.Source.left c.args.input.now) (g.S.Source.faults c.args.input.now))
    (stream (g.K.Sink.written c.args.out.now) (g.K.Sink.faults c.args.out.now)))
    (outside (file_store (g.F.Files.contents c.run_words.new.files) (g.F.Files.faults c.run_words.new.files) (g.F.Files.last_fault c.run_words.new.files)) (stream (g.S.Source.left c.run_words.new.input) (g.S.Source.faults c.run_words.new.input))
    (stream (g.K.Sink.written c.run_words.new.out) (g.K.Sink.faults c.run_words.new.out)))
    (code_of c.run_words.result) c.run_words.ensures.outcome
