-- What is true of the requests of every run of bytes.
use Rattle.std.proofs.Common.{◌≡◌, ◌≢◌, ℕ, ◌+◌, ◌<◌, ◌≤◌, Bool, true, false, not, ◌||◌, ◌==◌, bytes_eq, codes, List, [], ◌∷◌, ◌++◌, length, refl, sym, ap, ap₂, ◌∙◌, subst, arith, length-append, add-zero}
use Rattle.std.specs.Bool.{MatchBool}
use Rattle.std.proofs.lemmas.Bool.Decides.{nat_tests}
use Rattle.httparse.specs.Grammar.{RequestHead, IsRequestHead, print_request}
use Rattle.httparse.proofs.GrammarLemmas.{request_unique, ReadsRequest-append}
use Rattle.http_defs.specs.declared.request.Request.{Request}
use Rattle.http_defs.specs.declared.request.Item.{Item}
use Rattle.http_defs.specs.declared.request.Item.TheVariants.{Asked, Malformed}
use Rattle.http_defs.specs.Heads.{request_of}
use Rattle.http_defs.specs.Requests.{BeginsWith, NoHead, Begins, Finish, closed, closes_after, is_last, last_place, AreRequests, Leads}

-- ---- one head

-- a head has a byte at least
pub head_some : (head : RequestHead) → IsRequestHead head → 0 < length (print_request head)
unfolding print_request
head_some head is = let method : 0 < length head.method = is.method.0 in simp length-append (omega arith)

-- bytes that follow change nothing
pub begins_with_more : (bytes more : List ℕ) (head : RequestHead) (rest : List ℕ) → BeginsWith bytes head rest
    → BeginsWith (bytes ++ more) head (rest ++ more)
begins_with_more bytes more head rest b =
    record { reads = ReadsRequest-append bytes head rest more b.reads; short = b.short }

pub begins_more : (bytes more : List ℕ) (r : Request) (rest : List ℕ) → Begins bytes r rest
    → Begins (bytes ++ more) r (rest ++ more)
begins_more bytes more r rest b =
    record { head = b.head; begins = begins_with_more bytes more b.head rest b.begins; is = b.is }

-- bytes begin with one request at most
pub begins_unique : (bytes : List ℕ) (r q : Request) (rest other : List ℕ) → Begins bytes r rest → Begins bytes q other
    → (r ≡ q) × (rest ≡ other)
begins_unique bytes r q rest other b c =
    let same = request_unique bytes b.head c.head rest other b.begins.reads c.begins.reads in
    (b.is ∙ ap request_of same.0 ∙ sym c.is, same.1)

-- bytes that begin with no head don't where some are missing at their end
pub none_less : (bytes more : List ℕ) → NoHead (bytes ++ more) → NoHead bytes
none_less bytes more none head rest b = none head (rest ++ more) (begins_with_more bytes more head rest b)

-- no bytes begin with no head
pub nothing_none : NoHead []
nothing_none head rest b =
    let some : 0 < length (print_request head) = head_some head b.reads.0 in
    let whole : length (print_request head ++ rest) ≡ 0 = ap length (sym b.reads.1) in
    absurd (omega (arith, length-append (print_request head) rest))

-- bytes that begin with a request are some
pub begins_some : (bytes : List ℕ) (r : Request) (rest : List ℕ) → Begins bytes r rest → bytes ≢ []
begins_some bytes r rest b e =
    nothing_none b.head rest (subst (λ (x : List ℕ). BeginsWith x b.head rest) e b.begins)

-- there are fewer bytes behind a request than before
pub begins_shorter : (bytes : List ℕ) (r : Request) (rest : List ℕ) → Begins bytes r rest → length rest < length bytes
begins_shorter bytes r rest b =
    let some : 0 < length (print_request b.head) = head_some b.head b.begins.reads.0 in
    omega (arith, length-append (print_request b.head) rest, ap length b.begins.reads.1)

-- ---- requests that lead

-- bytes may follow
pub leads_more : (place : ℕ) (bytes more : List ℕ) (items : List Item) (rest : List ℕ) → Leads place bytes items rest
    → Leads place (bytes ++ more) items (rest ++ more)
leads_more place bytes more [] rest l = ap (λ x. x ++ more) l
leads_more place bytes more (Malformed ∷ items) rest l = l
leads_more place bytes more (Asked r ∷ items) rest l =
    (l.0 ++ more, begins_more bytes more r l.0 l.1, l.2, leads_more (place + 1) l.0 more items rest l.3)

-- one request more at the end
pub leads_push : (place : ℕ) (bytes : List ℕ) (items : List Item) (mid : List ℕ) (r : Request) (rest : List ℕ)
    → Leads place bytes items mid → Begins mid r rest → is_last (place + length items) r ≡ false
    → Leads place bytes (items ++ Asked r ∷ []) rest
leads_push place bytes [] mid r rest l b goes = (
  rest,
  subst (λ (x : List ℕ). Begins x r rest) (sym l) b,
  subst (λ (n : ℕ). is_last n r ≡ false) (add-zero place) goes,
  refl,
)
leads_push place bytes (Malformed ∷ items) mid r rest l b goes = l
leads_push place bytes (Asked q ∷ items) mid r rest l b goes =
    let place_is : place + length (Asked q ∷ items) ≡ place + 1 + length items = omega arith in (
      l.0,
      l.1,
      l.2,
      leads_push (place + 1) l.0 items mid r rest l.3 b (subst (λ (n : ℕ). is_last n r ≡ false) place_is goes),
    )

at_false : (test : Bool) (P Q : Type 0) → test ≡ false → Q → MatchBool test P Q
at_false true P Q e q = absurd cc
at_false false P Q e q = q

-- requests that lead, and all that follow
pub leads_on : (place : ℕ) (bytes : List ℕ) (items : List Item) (rest : List ℕ) (later : List Item) (finish : Finish)
    → Leads place bytes items rest → AreRequests (place + length items) rest later finish
    → AreRequests place bytes (items ++ later) finish
leads_on place bytes [] rest later finish l are =
    subst (λ (x : List ℕ). AreRequests place x later finish) (sym l)
    (subst (λ (n : ℕ). AreRequests n rest later finish) (add-zero place) are)
leads_on place bytes (Malformed ∷ items) rest later finish l are = absurd l
leads_on place bytes (Asked r ∷ items) rest later finish l are =
    let place_is : place + length (Asked r ∷ items) ≡ place + 1 + length items = omega arith in (
      l.0,
      l.1,
      at_false (is_last place r) _ _ l.2
          (leads_on (place + 1) l.0 items rest later finish l.3
          (subst (λ (n : ℕ). AreRequests n rest later finish) place_is are)),
    )

or_right : (a b : Bool) → (a || b) ≡ false → b ≡ false
or_right true b e = absurd cc
or_right false b e = e

apart : (place : ℕ) → (place == last_place) ≡ false → place ≢ last_place
apart place other = grind (arith, nat_tests)

other_place : (place : ℕ) (r : Request) → is_last place r ≡ false → place ≢ last_place
unfolding is_last closes_after
other_place place r e =
    apart place (or_right (r.close || not (bytes_eq r.method (codes "GET")) || r.body) (place == last_place) e)

-- the request at the last place is the last
pub leads_short : (place : ℕ) (bytes : List ℕ) (items : List Item) (rest : List ℕ) → place ≤ last_place
    → Leads place bytes items rest → place + length items ≤ last_place
leads_short place bytes [] rest within l = omega arith
leads_short place bytes (Malformed ∷ items) rest within l = absurd l
leads_short place bytes (Asked r ∷ items) rest within l =
    let other : place ≢ last_place = other_place place r l.2 in
    let next : place + 1 ≤ last_place = omega arith in
    let later : place + 1 + length items ≤ last_place = leads_short (place + 1) l.0 items rest next l.3 in
    omega arith

-- ---- one list of items

both : (test : Bool) (items others : List Item) (f g : Finish) (P Q : Type 0)
    → MatchBool test ((items ≡ []) × (f ≡ closed)) P → MatchBool test ((others ≡ []) × (g ≡ closed)) Q
    → (P → Q → (items ≡ others) × (f ≡ g)) → (items ≡ others) × (f ≡ g)
both true items others f g P Q x y more = (x.0 ∙ sym y.0, x.1 ∙ sym y.1)
both false items others f g P Q x y more = more x y

-- bytes are one list of items at most, with one finish
pub requests_unique : (place : ℕ) (bytes : List ℕ) (items others : List Item) (f g : Finish)
    → AreRequests place bytes items f → AreRequests place bytes others g → (items ≡ others) × (f ≡ g)
requests_unique place bytes [] [] f g x y = (refl, x.1 ∙ sym y.1)
requests_unique place bytes [] (Malformed ∷ others) f g x y = absurd (y.0 x.0)
requests_unique place bytes [] (Asked q ∷ others) f g x y = absurd (begins_some bytes q y.0 y.1 x.0)
requests_unique place bytes (Malformed ∷ items) [] f g x y = absurd (x.0 y.0)
requests_unique place bytes (Malformed ∷ items) (Malformed ∷ others) f g x y =
    (ap (λ (later : List Item). Malformed ∷ later) (x.2 ∙ sym y.2), x.3 ∙ sym y.3)
requests_unique place bytes (Malformed ∷ items) (Asked q ∷ others) f g x y =
    absurd (x.1 y.1.head y.0 y.1.begins)
requests_unique place bytes (Asked r ∷ items) [] f g x y = absurd (begins_some bytes r x.0 x.1 y.0)
requests_unique place bytes (Asked r ∷ items) (Malformed ∷ others) f g x y =
    absurd (y.1 x.1.head x.0 x.1.begins)
requests_unique place bytes (Asked r ∷ items) (Asked q ∷ others) f g x y =
    let same = begins_unique bytes r q x.0 y.0 x.1 y.1 in
    let moved : MatchBool (is_last place r) ((others ≡ []) × (g ≡ closed)) (AreRequests (place + 1) x.0 others g) =
    subst (λ (z : Request). MatchBool (is_last place z) ((others ≡ []) × (g ≡ closed)) (AreRequests (place + 1) x.0 others g)) (sym same.0)
    (subst (λ (z : List ℕ). MatchBool (is_last place q) ((others ≡ []) × (g ≡ closed)) (AreRequests (place + 1) z others g)) (sym same.1) y.2)
    in
    let rest = both (is_last place r) items others f g _ _ x.2 moved (requests_unique (place + 1) x.0 items others f g) in
    (ap₂ (λ (z : Request) (later : List Item). Asked z ∷ later) same.0 rest.0, rest.1)

when_goes : (test : Bool) (P Q : Type 0) → test ≡ false → MatchBool test P Q → Q
when_goes true P Q e x = absurd cc
when_goes false P Q e x = x

-- requests that lead are the first of all, and the others follow
pub leads_front : (place : ℕ) (bytes : List ℕ) (items : List Item) (rest : List ℕ) (all : List Item) (finish : Finish)
    → Leads place bytes items rest → AreRequests place bytes all finish
    → (later : List Item) × (all ≡ items ++ later) × AreRequests (place + length items) rest later finish
leads_front place bytes [] rest all finish l are = (
  all,
  refl,
  subst (λ (n : ℕ). AreRequests n rest all finish) (sym (add-zero place))
      (subst (λ (x : List ℕ). AreRequests place x all finish) l are),
)
leads_front place bytes (Malformed ∷ items) rest all finish l are = absurd l
leads_front place bytes (Asked r ∷ items) rest [] finish l are = absurd (begins_some bytes r l.0 l.1 are.0)
leads_front place bytes (Asked r ∷ items) rest (Malformed ∷ all) finish l are =
    absurd (are.1 l.1.head l.0 l.1.begins)
leads_front place bytes (Asked r ∷ items) rest (Asked q ∷ all) finish l are =
    let same = begins_unique bytes r q l.0 are.0 l.1 are.1 in
    let goes : is_last place q ≡ false = subst (λ (z : Request). is_last place z ≡ false) same.0 l.2 in
    let next : AreRequests (place + 1) l.0 all finish =
    subst (λ (z : List ℕ). AreRequests (place + 1) z all finish) (sym same.1) (when_goes (is_last place q) _ _ goes are.2)
    in
    let found = leads_front (place + 1) l.0 items rest all finish l.3 next in
    let place_is : place + 1 + length items ≡ place + length (Asked r ∷ items) = omega arith in (
      found.0,
      ap₂ (λ (z : Request) (later : List Item). Asked z ∷ later) (sym same.0) found.1,
      subst (λ (n : ℕ). AreRequests n rest found.0 finish) place_is found.2,
    )
