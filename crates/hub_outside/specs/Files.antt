-- What reading one whole file answers and leaves.
use Rattle.std.specs.Prelude.{◌≡◌, ℕ, ◌<◌, ◌≤◌, true, List, [], length, Option, Some, None, is_some, IfSome, IsSomeAnd}
use Rattle.std.specs.List.{find}
use Rattle.std.specs.Option.{option_map}
use Rattle.std.specs.Str.{bytes_eq}
use Rattle.std.specs.Io.KnownBytes.{Consumes, IsAtEnd}
use Rattle.std.specs.declared.io.ErrorKind.{ErrorKind}
use Rattle.hub_outside.specs.declared.file_stores.FileAnswer.{FileAnswer}
use Rattle.hub_outside.specs.declared.file_stores.FileAnswer.TheVariants.{Read, Absent, TooLong, Failed, NoMemory}
use Rattle.hub_outside.specs.Count.{Rose}

-- the bytes of the first file of that path; a file is the pair of its path and its bytes
abbrev pub file_at : List (List ℕ × List ℕ) → List ℕ → Option (List ℕ)
file_at files path = option_map (λ file. file.1) (find (λ file. bytes_eq file.0 path) files)

-- the answer says what stands at the path: a file that was read is within the limit and left its
-- bytes, no file is absent, and a file past the limit is too long, with a number of its bytes above
-- the limit. All but a file that was read leave nothing.
abbrev pub AnswersFile : FileAnswer → Option (List (List ℕ × List ℕ)) → List ℕ → ℕ → List ℕ → Type 0
AnswersFile Read files path limit left = (length left ≤ limit)
    × IfSome files (λ fs. file_at fs path ≡ Some left)
AnswersFile Absent files path limit left = (left ≡ []) × IfSome files (λ fs. file_at fs path ≡ None)
AnswersFile (TooLong n) files path limit left =
    (left ≡ []) × (limit < n) × IfSome files (λ fs.
    IsSomeAnd (file_at fs path) (λ bytes. n ≤ length bytes))
AnswersFile Failed files path limit left = left ≡ []
AnswersFile NoMemory files path limit left =
    (left ≡ []) × IfSome files (λ fs. IsSomeAnd (file_at fs path) (λ bytes. length bytes ≤ limit))

-- the count of faults did not fall, and a file that could not be read raised it
abbrev pub HasFileCause : FileAnswer → ℕ → ℕ → Type 0
HasFileCause Read before after = before ≤ after
HasFileCause Absent before after = before ≤ after
HasFileCause (TooLong n) before after = before ≤ after
HasFileCause Failed before after = (before ≤ after) × Rose before after
HasFileCause NoMemory before after = before ≤ after

-- a file that could not be read has its path kept as that of the call that failed last, where that
-- is told
abbrev pub TellsPlace : FileAnswer → Option (List ℕ) → List ℕ → Type 0
TellsPlace Read fault path = Unit {0}
TellsPlace Absent fault path = Unit {0}
TellsPlace (TooLong n) fault path = Unit {0}
TellsPlace Failed fault path = IfSome fault (λ place. place ≡ path)
TellsPlace NoMemory fault path = Unit {0}

-- after a file that could not be read the cause is told; any other answer leaves the cause that was
abbrev pub TellsCause : FileAnswer → Option ErrorKind → Option ErrorKind → Type 0
TellsCause Read before after = after ≡ before
TellsCause Absent before after = after ≡ before
TellsCause (TooLong n) before after = after ≡ before
TellsCause Failed before after = is_some after ≡ true
TellsCause NoMemory before after = after ≡ before

-- a file that is longer than the limit has a number of bytes seen above it; one that was read is
-- within it
abbrev pub IsFetched : FileAnswer → ℕ → List ℕ → Type 0
IsFetched Read limit left = length left ≤ limit
IsFetched Absent limit left = Unit {0}
IsFetched (TooLong n) limit left = limit < n
IsFetched Failed limit left = ⊥
IsFetched NoMemory limit left = Unit {0}

-- a file that was read gave its bytes to the last, where an open file knows them
abbrev pub TakesWhole : FileAnswer → Option (List ℕ) → Option (List ℕ) → List ℕ → Type 0
TakesWhole Read before after left = Consumes before after left × IsAtEnd after
TakesWhole Absent before after left = Unit {0}
TakesWhole (TooLong n) before after left = Unit {0}
TakesWhole Failed before after left = Unit {0}
TakesWhole NoMemory before after left = Unit {0}
