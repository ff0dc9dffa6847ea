-- What the adapters make of the answers of std.
use Rattle.std.specs.Prelude.{◌≡◌, ℕ, ◌-◌, ◌/◌, ◌==◌, ◌&&◌, nat_le, nat_lt, min, Bool, true, false, Option, Some, None, Result, Ok, Err, if◌then◌else◌}
use Rattle.std.specs.Duration.{as_nanos}
use Rattle.std.specs.IoError.{error_kind}
use Rattle.std.specs.declared.io.Error.{Error}
use Rattle.std.specs.declared.io.ErrorKind.{ErrorKind}
use Rattle.std.specs.declared.io.ErrorKind.TheVariants.{NotFound, NotADirectory, Interrupted, ConnectionAborted, ConnectionReset, HostUnreachable, NetworkDown, NetworkUnreachable, OutOfMemory, PermissionDenied, TimedOut, Uncategorized, Unsupported, WouldBlock}
use Rattle.std.specs.declared.time.Duration.{Duration}
use Rattle.text_defs.specs.Moments.{last_moment}
use Rattle.hub_outside.specs.Count.{last_count, one_more}
use Rattle.hub_outside.specs.declared.doors.DoorAnswer.{DoorAnswer}
use Rattle.hub_outside.specs.declared.doors.DoorAnswer.TheVariants.{Link, End as DoorEnd, Failed as DoorFailed}
use Rattle.hub_outside.specs.declared.file_stores.FileAnswer.{FileAnswer}
use Rattle.hub_outside.specs.declared.file_stores.FileAnswer.TheVariants.{Absent}
use Rattle.hub_outside.specs.declared.sinks.WriteAnswer.{WriteAnswer}
use Rattle.hub_outside.specs.declared.sinks.WriteAnswer.TheVariants.{Took, Failed as WriteFailed}
use Rattle.hub_outside.specs.declared.sources.ReadAnswer.{ReadAnswer}
use Rattle.hub_outside.specs.declared.sources.ReadAnswer.TheVariants.{Got, End, Failed as ReadFailed}

-- a signal cut the call short before it did anything (EINTR of POSIX)
abbrev pub is_interruption : ErrorKind → Bool
is_interruption Interrupted = true
is_interruption _ = false

-- whether a call is to be made again
abbrev pub is_cut_short : Result ℕ Error → Bool
is_cut_short (Ok count) = false
is_cut_short (Err e) = is_interruption (error_kind e)

-- what a read of so many bytes answers: none is the end, and an error a fault
abbrev pub answer_of_read : Result ℕ Error → ReadAnswer
answer_of_read (Ok count) = if count == 0 then End else Got count
answer_of_read (Err e) = ReadFailed

-- what a write of so many bytes answers: none is a fault, as an error is
abbrev pub answer_of_write : Result ℕ Error → WriteAnswer
answer_of_write (Ok count) = if count == 0 then WriteFailed else Took count
answer_of_write (Err e) = WriteFailed

-- What a file is that can't be opened, or why it can't be read. Nothing stands at its path where no
-- file has that name, or where one of the path's folders is a plain file (ENOENT and ENOTDIR of
-- POSIX).
abbrev pub answer_unopened : ErrorKind → Result FileAnswer ErrorKind
answer_unopened NotFound = Ok Absent
answer_unopened NotADirectory = Ok Absent
answer_unopened cause = Err cause

-- the moment that a clock shows: its whole seconds since 1970, up to the last moment, and 0 where
-- it can't be read
abbrev pub moment_of : Result Duration Error → ℕ
moment_of (Ok time) = min (as_nanos time / 1_000_000_000) last_moment
moment_of (Err e) = 0

-- the moment of a clock that never goes back, in whole milliseconds, and none where it can't be
-- read
abbrev pub milliseconds_of : Result Duration Error → Option ℕ
milliseconds_of (Ok time) = Some (min (as_nanos time / 1_000_000) last_count)
milliseconds_of (Err e) = None

-- how much is left of a limit that began at a moment, and none once it has passed; a moment that is
-- still to come has used none of it
abbrev pub time_left : ℕ → ℕ → ℕ → Option ℕ
time_left limit since now =
    if nat_le limit (now - since) then None else Some (limit - (now - since))

-- Whether a connection that could not be accepted tells nothing of those that come next: it is gone
-- already, a firewall forbids it, it can't do what was asked of it, the network or memory is
-- wanting, or too many files are open (ECONNABORTED, EPERM, EOPNOTSUPP, EMFILE, ENFILE and the like
-- of POSIX; those that std has no kind for among them). All else tells of the listener itself.
abbrev pub is_passing : ErrorKind → Bool
is_passing ConnectionAborted = true
is_passing ConnectionReset = true
is_passing HostUnreachable = true
is_passing Interrupted = true
is_passing NetworkDown = true
is_passing NetworkUnreachable = true
is_passing OutOfMemory = true
is_passing PermissionDenied = true
is_passing TimedOut = true
is_passing Uncategorized = true
is_passing Unsupported = true
is_passing WouldBlock = true
is_passing _ = false

-- whether so many connections are all that a door is to hand out, of which 0 sets no end
abbrev pub are_all : ℕ → ℕ → Bool
are_all most taken = nat_lt 0 most && nat_le most taken

-- what a door over a listener answers by how many connections it handed out, and how many they are
-- then: it ends once they are all, and each that it hands out counts
abbrev pub CountsLinks : {I O : Type 0} → DoorAnswer I O → ℕ → ℕ → ℕ → Type 0
CountsLinks (Link input output) most before after =
    (are_all most before ≡ false) × (after ≡ one_more before)
CountsLinks DoorEnd most before after = (are_all most before ≡ true) × (after ≡ before)
CountsLinks DoorFailed most before after = (are_all most before ≡ false) × (after ≡ before)
