-- The lines on standard error.
use Rattle.std.specs.Prelude.{ℕ, ◌≤◌, nat_eq, if◌then◌else◌, List, ◌++◌, length, take, codes, Option}
use Rattle.std.specs.Fmt.{decimal}
use Rattle.std.specs.Io.KnownBytes.{Appends}
use Rattle.std.specs.Net.Text.{socket_text}
use Rattle.std.specs.declared.io.ErrorKind.{ErrorKind}
use Rattle.std.specs.declared.io.ErrorKind.TheVariants.{AddrInUse, AddrNotAvailable, ConnectionAborted, ConnectionRefused, ConnectionReset, HostUnreachable, InvalidInput, IsADirectory, NetworkDown, NetworkUnreachable, NotFound, OutOfMemory, PermissionDenied, TimedOut, Uncategorized}
use Rattle.std.specs.declared.net.SocketAddr.{SocketAddr}
use Rattle.text_defs.specs.Cleaned.{cleaned_text}
use Rattle.poll_port.specs.declared.faults.PollFault.{PollFault}
use Rattle.poll_port.specs.declared.faults.PollFault.TheVariants.{Unfit, Link}
use Rattle.poll_port.specs.declared.faults.ReplyFault.{ReplyFault}
use Rattle.poll_port.specs.declared.faults.ReplyFault.TheVariants as fault
use Rattle.hub_ports.specs.declared.told.FeedNews.{FeedNews}
use Rattle.hub_ports.specs.declared.told.FeedNews.TheVariants as news

-- a cause in a few words
abbrev pub cause_text : ErrorKind → List ℕ
cause_text AddrInUse = codes "address in use"
cause_text AddrNotAvailable = codes "not an address of this machine"
cause_text ConnectionAborted = codes "broken off"
cause_text ConnectionRefused = codes "refused"
cause_text ConnectionReset = codes "reset"
cause_text HostUnreachable = codes "host not reachable"
cause_text InvalidInput = codes "not an address with a port"
cause_text NetworkDown = codes "network down"
cause_text NetworkUnreachable = codes "network not reachable"
cause_text NotFound = codes "no such host"
cause_text OutOfMemory = codes "out of memory"
cause_text PermissionDenied = codes "not permitted"
cause_text TimedOut = codes "no answer in time"
cause_text _ = codes "a fault of the system"

-- why a place has no addresses: the system has no kind of its own for a name that nobody knows
abbrev pub cause_of_name : ErrorKind → ErrorKind
cause_of_name Uncategorized = NotFound
cause_of_name kind = kind

-- `hub: listening on <address>`
abbrev pub listening_line : SocketAddr → List ℕ
listening_line address = codes "hub: listening on " ++ socket_text address ++ codes "\n"

-- what has happened so often since it was told last, in words of the last time
abbrev pub counted : ℕ → List ℕ → List ℕ
counted count words =
    if nat_eq count 1 then words else decimal count ++ codes " times, the last one: " ++ words

-- what can't be done, the address with a space for each control character, and why
abbrev pub fault_line : List ℕ → List ℕ → List ℕ → List ℕ
fault_line front address words =
    front ++ cleaned_text address ++ codes ": " ++ words ++ codes "\n"

-- `hub: can't listen on <address>: <cause>`
abbrev pub no_listener_line : List ℕ → ErrorKind → List ℕ
no_listener_line address cause =
    fault_line (codes "hub: can't listen on ") address (cause_text cause)

abbrev pub connecting_text : List ℕ → List ℕ
connecting_text feed = codes "hub: feed " ++ feed ++ codes " can't connect to "

-- `hub: feed <feed> can't connect to <place>: <cause>`, or of more than one,
-- `hub: feed <feed> can't connect to <place>: <count> times, the last one: <cause>`
abbrev pub no_connection_line : List ℕ → List ℕ → ℕ → ErrorKind → List ℕ
no_connection_line feed place count cause =
    fault_line (connecting_text feed) place (counted count (cause_text cause))

-- why a connection can't be accepted: the system has no kind of its own for too many open files
-- (EMFILE and ENFILE of POSIX), and an input that is invalid is the listener (EINVAL)
abbrev pub accept_text : ErrorKind → List ℕ
accept_text InvalidInput = codes "the listener has failed"
accept_text Uncategorized = codes "too many open files, or another fault of the system"
accept_text kind = cause_text kind

abbrev pub accept_line : List ℕ → List ℕ
accept_line words = codes "hub: can't accept a connection: " ++ words ++ codes "\n"

-- `hub: can't accept a connection: <cause>`, or of more than one,
-- `hub: can't accept a connection: <count> times, the last one: <cause>`
abbrev pub no_accept_line : ℕ → ErrorKind → List ℕ
no_accept_line count cause = accept_line (counted count (accept_text cause))

-- why a file can't be read, in a few words: an input that is invalid is its path (EINVAL of POSIX)
abbrev pub file_text : ErrorKind → List ℕ
file_text IsADirectory = codes "it is a folder"
file_text InvalidInput = codes "not a path"
file_text kind = cause_text kind

abbrev pub reading_text : List ℕ → List ℕ
reading_text feed = codes "hub: feed " ++ feed ++ codes " can't read "

-- `hub: feed <feed> can't read <path>: <cause>`
abbrev pub unread_line : List ℕ → List ℕ → ErrorKind → List ℕ
unread_line feed path cause = fault_line (reading_text feed) path (file_text cause)

-- what is wrong with a reply, in a few words
abbrev pub reply_text : ReplyFault → List ℕ
reply_text fault.Head = codes "it has no whole head"
reply_text (fault.Status code) = codes "its status is " ++ decimal code
reply_text fault.Length = codes "its length isn't told"
reply_text fault.Cut = codes "it is cut short"

-- why a poll failed, in a few words
abbrev pub fault_text : PollFault → List ℕ
fault_text (Unfit why) = reply_text why
fault_text Link = codes "the connection has failed"

abbrev pub reply_line : List ℕ → List ℕ → List ℕ
reply_line feed words =
    codes "hub: feed " ++ feed ++ codes " got no good reply: " ++ words ++ codes "\n"

-- `hub: feed <feed> got no good reply: <fault>`, or of more than one,
-- `hub: feed <feed> got no good reply: <count> times, the last one: <fault>`
abbrev pub bad_reply_line : List ℕ → ℕ → PollFault → List ℕ
bad_reply_line feed count why = reply_line feed (counted count (fault_text why))

-- what is told of a feed, in a few words
abbrev pub news_text : FeedNews → List ℕ
news_text news.TooLong = codes "has sent a message of more than 16777216 bytes"
news_text news.Ended = codes "has ended"
news_text news.Failed = codes "has failed"

abbrev pub feed_line : List ℕ → List ℕ → List ℕ
feed_line feed words = codes "hub: feed " ++ feed ++ codes " " ++ words ++ codes "\n"

-- `hub: feed <feed> <news>`
abbrev pub news_line : List ℕ → FeedNews → List ℕ
news_line feed given = feed_line feed (news_text given)

-- `hub: feed <feed>: <count> refused, the last one: <cause>`
abbrev pub refused_line : List ℕ → ℕ → List ℕ → List ℕ
refused_line feed count cause =
    codes "hub: feed " ++ feed ++ codes ": " ++ decimal count ++ codes " refused, the last one: "
    ++ cause ++ codes "\n"

-- `hub: feed <feed>: <count> refused`
abbrev pub rest_line : List ℕ → ℕ → List ℕ
rest_line feed count =
    codes "hub: feed " ++ feed ++ codes ": " ++ decimal count ++ codes " refused\n"

-- `hub: feed <feed>: <count> without memory`
abbrev pub starved_line : List ℕ → ℕ → List ℕ
starved_line feed count =
    codes "hub: feed " ++ feed ++ codes ": " ++ decimal count ++ codes " without memory\n"

-- the output has so many bytes of the line behind what it had, from its first on
abbrev pub Tells : Option (List ℕ) → Option (List ℕ) → List ℕ → Type 0
Tells before after line = (n : ℕ) × (n ≤ length line) × Appends before after (take n line)
