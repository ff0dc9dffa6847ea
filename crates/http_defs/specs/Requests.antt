-- Which requests stand in a run of bytes, one after another.
use Rattle.std.specs.Prelude.{◌≡◌, ◌≢◌, ℕ, ◌+◌, ◌≤◌, Bool, false, ◌||◌, ◌==◌, not, bytes_eq, List, [], ◌∷◌, length, codes}
use Rattle.std.specs.Bool.{MatchBool}
use Rattle.httparse.specs.Grammar.{RequestHead, print_request, ReadsRequest}
use Rattle.http_defs.specs.declared.request.Request.{Request}
use Rattle.http_defs.specs.declared.request.Item.{Item}
use Rattle.http_defs.specs.declared.request.Item.TheVariants.{Asked, Malformed}
use Rattle.http_defs.specs.Heads.{request_of}

-- the most bytes that a head may have, the empty lines before it included
abbrev pub head_limit : ℕ
head_limit = 8192

-- bytes begin with this head, which is not too long, and these are the bytes behind it
pub record BeginsWith (bytes : List ℕ) (head : RequestHead) (rest : List ℕ) : Type 0 where
  pub reads : ReadsRequest bytes head rest
  pub short : length (print_request head) ≤ head_limit

-- bytes begin with no such head
abbrev pub NoHead : List ℕ → Type 0
NoHead bytes = (head : RequestHead) (rest : List ℕ) → ¬ (BeginsWith bytes head rest)

-- bytes begin with the head of this request, and these are the bytes behind it
pub record Begins (bytes : List ℕ) (request : Request) (rest : List ℕ) : Type 0 where
  pub head : RequestHead
  pub begins : BeginsWith bytes head rest
  pub is : request ≡ request_of head

-- why a connection has no further request: its input ended behind a whole one, the last one closes
-- it, or what follows is none
pub data Finish : Type 0 where
  ended closed bad : Finish

-- the last place, counted from 1, at which a request of a connection is answered
abbrev pub last_place : ℕ
last_place = 1000

-- the connection closes after a request: it asks to close, is no GET, may carry a body, or stands
-- at the last place
unfoldable pub closes_after : Request → Bool → Bool
closes_after r at_the_end =
    r.close || not (bytes_eq r.method (codes "GET")) || r.body || at_the_end

-- the request at this place is the last one of its connection
unfoldable pub is_last : ℕ → Request → Bool
is_last place r = closes_after r (place == last_place)

-- bytes are these items, of which the first has this place, up to the finish
abbrev pub AreRequests : ℕ → List ℕ → List Item → Finish → Type 0
AreRequests place bytes [] finish = (bytes ≡ []) × (finish ≡ ended)
AreRequests place bytes (Malformed ∷ items) finish =
    (bytes ≢ []) × NoHead bytes × (items ≡ []) × (finish ≡ bad)
AreRequests place bytes (Asked r ∷ items) finish =
    (rest : List ℕ) × Begins bytes r rest
    × MatchBool (is_last place r) ((items ≡ []) × (finish ≡ closed))
    (AreRequests (place + 1) rest items finish)

-- bytes begin with these requests, of which the first has this place and none is the last, and then
-- these bytes follow
abbrev pub Leads : ℕ → List ℕ → List Item → List ℕ → Type 0
Leads place bytes [] rest = bytes ≡ rest
Leads place bytes (Malformed ∷ items) rest = ⊥
Leads place bytes (Asked r ∷ items) rest =
    (mid : List ℕ) × Begins bytes r mid × (is_last place r ≡ false)
    × Leads (place + 1) mid items rest
