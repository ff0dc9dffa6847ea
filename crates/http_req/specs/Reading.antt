-- What taking requests from a source answers, and does to the bytes held and to those left.
use Rattle.std.specs.Prelude.{◌≡◌, ◌≢◌, ℕ, ◌≤◌, ◌<◌, List, [], ◌++◌, length, take, Option, unwrap_or, Vec, vec_len}
use Rattle.std.specs.declared.alloc.Global.{Global}
use Rattle.std.specs.Io.KnownBytes.{Consumes, IsAtEnd}
use Rattle.hub_outside.specs.Count.{Rose}
use Rattle.httparse.specs.Grammar.{RequestHead, print_request}
use Rattle.httparse.specs.Spans.{IsRequestAt, IsRequestWithin}
use Rattle.httparse.specs.declared.spans.HeaderSpan.{HeaderSpan}
use Rattle.httparse.specs.declared.spans.RequestSpans.{RequestSpans}
use Rattle.http_defs.specs.Requests.{NoHead, Begins, head_limit}
use Rattle.http_req.specs.declared.finding.Found.{Found}
use Rattle.http_req.specs.declared.finding.Found.TheVariants.{Head as FoundHead, More, Never as FoundNever}
use Rattle.http_req.specs.declared.filling.Next.{Next}
use Rattle.http_req.specs.declared.filling.Next.TheVariants.{Head as NextHead, End as NextEnd, Never, Failed}
use Rattle.http_req.specs.declared.reader.Taken.{Taken}
use Rattle.http_req.specs.declared.reader.Taken.TheVariants.{Request, End, Bad, ReadFault, NoMemory}

-- a reader's buffer has room for the longest head and for its fields
pub record IsReader
    (buffer : Vec ℕ Global) (start filled : ℕ) (headers : Vec HeaderSpan Global) : Type 0 where
  pub full : vec_len buffer ≡ 8192
  pub within : start ≤ filled
  pub fits : filled ≤ 8192
  pub room : vec_len headers ≡ 2731

-- the bytes that are left, none where they are not told
abbrev pub known : Option (List ℕ) → List ℕ
known left = unwrap_or left []

-- the buffer begins with a head that is not too long, whose parts stand at the spans
pub record StandsAt (buf : List ℕ) (headers : List HeaderSpan) (spans : RequestSpans) : Type 0 where
  pub head : RequestHead
  pub at : IsRequestAt buf headers spans head
  pub short : length (print_request head) ≤ head_limit
  pub within : IsRequestWithin buf headers spans

-- what a look at the bytes read so far finds: a head, none yet, or none whatever follows
abbrev pub FoundIs : List ℕ → List HeaderSpan → Found → Type 0
FoundIs buf headers (FoundHead spans) = StandsAt buf headers spans
FoundIs buf headers More = NoHead buf × (length buf < head_limit)
FoundIs buf headers FoundNever = (buf ≢ []) × ((more : List ℕ) → NoHead (buf ++ more))

-- the bytes held, and then those that were read, are the first of the buffer
pub record Holds
    (held : List ℕ) (buf : List ℕ) (filled : ℕ) (left left' : Option (List ℕ)) : Type 0 where
  pub bytes : List ℕ
  pub read : Consumes left left' bytes
  pub whole : held ++ bytes ≡ take filled buf
  pub fits : filled ≤ head_limit

-- what reading on until there is a head came to
abbrev pub ComesTo : List ℕ → List ℕ → List HeaderSpan → Option (List ℕ) → Option (List ℕ) → Next
    → Type 0
ComesTo held buf headers left left' (NextHead spans filled) =
    Holds held buf filled left left' × StandsAt (take filled buf) headers spans
ComesTo held buf headers left left' NextEnd =
    (held ≡ []) × Consumes left left' [] × IsAtEnd left'
ComesTo held buf headers left left' (Never filled) =
    Holds held buf filled left left' × (take filled buf ≢ [])
    × NoHead (take filled buf ++ known left')
ComesTo held buf headers left left' (Failed filled) =
    Holds held buf filled left left' × NoHead (take filled buf)

-- the count of faults did not fall, and a source that failed raised it
abbrev pub HasNextCause : Next → ℕ → ℕ → Type 0
HasNextCause (NextHead spans filled) before after = before ≤ after
HasNextCause NextEnd before after = before ≤ after
HasNextCause (Never filled) before after = before ≤ after
HasNextCause (Failed filled) before after = (before ≤ after) × Rose before after

-- What a reader that held some bytes answers, and what it holds then. It took some bytes of the
-- source behind those held. A request is that with which they begin, and the rest is held. At the
-- end there were none at all. They are bad where there are some, and they begin with no head, also
-- with those that are left. At a fault they begin with no head.
abbrev pub Takes : List ℕ → List ℕ → Option (List ℕ) → Option (List ℕ) → Taken → Type 0
Takes held held' left left' (Request r) =
    (bytes : List ℕ) × Consumes left left' bytes × Begins (held ++ bytes) r held'
Takes held held' left left' End =
    (held ≡ []) × (held' ≡ []) × Consumes left left' [] × IsAtEnd left'
Takes held held' left left' Bad =
    (bytes : List ℕ) × Consumes left left' bytes × (held' ≡ held ++ bytes) × (held' ≢ [])
    × NoHead (held' ++ known left')
Takes held held' left left' ReadFault =
    (bytes : List ℕ) × Consumes left left' bytes × (held' ≡ held ++ bytes) × NoHead held'
Takes held held' left left' NoMemory =
    (bytes : List ℕ) × Consumes left left' bytes × (held' ≡ held ++ bytes)

-- the count of faults did not fall, and a read fault raised it
abbrev pub HasTakeCause : Taken → ℕ → ℕ → Type 0
HasTakeCause (Request r) before after = before ≤ after
HasTakeCause End before after = before ≤ after
HasTakeCause Bad before after = before ≤ after
HasTakeCause ReadFault before after = (before ≤ after) × Rose before after
HasTakeCause NoMemory before after = before ≤ after
