-- What a clause reads of an adapter: the object of std behind it, and its count of faults.
use Rattle.std.specs.Prelude.{ℕ, Bool, Option, is_some}
use Rattle.std.specs.declared.io.ErrorKind.{ErrorKind}
use Rattle.hub_outside.specs.declared.adapters.source.StdSource.{StdSource}
use Rattle.hub_outside.specs.declared.adapters.sink.StdSink.{StdSink}
use Rattle.hub_outside.specs.declared.adapters.files.StdFiles.{StdFiles}
use Rattle.hub_outside.specs.declared.adapters.clock.SystemClock.{SystemClock}
use Rattle.hub_outside.specs.declared.adapters.door.TcpDoor.{TcpDoor}
use Rattle.hub_outside.specs.declared.adapters.link.TcpSource.{TcpSource}
use Rattle.hub_outside.specs.declared.adapters.link.TcpSink.{TcpSink}

-- the reader behind a source
abbrev pub reader_of : {R : Type 0} → StdSource R → R
reader_of source = source.reader

-- the faults that a source over a reader met
abbrev pub reader_faults : {R : Type 0} → StdSource R → ℕ
reader_faults source = source.faults

-- the writer behind a sink
abbrev pub writer_of : {W : Type 0} → StdSink W → W
writer_of sink = sink.writer

-- the faults that a sink over a writer met
abbrev pub writer_faults : {W : Type 0} → StdSink W → ℕ
writer_faults sink = sink.faults

-- the runtime behind the files of the system
abbrev pub files_system : {R : Type 0} → StdFiles R → R
files_system files = files.system

-- the faults that the files of the system met
abbrev pub files_faults : {R : Type 0} → StdFiles R → ℕ
files_faults files = files.faults

-- why the call that failed last failed, as the files of the system tell it
abbrev pub files_cause : {R : Type 0} → StdFiles R → Option ErrorKind
files_cause files = files.cause

-- the runtime behind the system's clock
abbrev pub clock_system : {C : Type 0} → SystemClock C → C
clock_system clock = clock.system

-- the faults that a door over a listener met
abbrev pub tcp_faults : {L C : Type 0} → TcpDoor L C → ℕ
tcp_faults door = door.faults

-- how many connections it is to hand out, of which 0 sets no end
abbrev pub tcp_most : {L C : Type 0} → TcpDoor L C → ℕ
tcp_most door = door.most

-- how many connections it handed out
abbrev pub tcp_taken : {L C : Type 0} → TcpDoor L C → ℕ
tcp_taken door = door.taken

-- whether it has a listener
abbrev pub tcp_listens : {L C : Type 0} → TcpDoor L C → Bool
tcp_listens door = is_some door.listener

-- the faults that the source of a connection met
abbrev pub tcp_source_faults : {C : Type 0} → TcpSource C → ℕ
tcp_source_faults source = source.faults

-- the faults that the sink of a connection met
abbrev pub tcp_sink_faults : {C : Type 0} → TcpSink C → ℕ
tcp_sink_faults sink = sink.faults
