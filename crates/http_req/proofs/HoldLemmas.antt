-- What a buffer holds as reading goes on.
use Rattle.std.proofs.Common.{◌≡◌, ◌≢◌, ℕ, ◌+◌, ◌-◌, ◌≤◌, Bool, true, false, List, [], ◌∷◌, ◌++◌, length, take, drop, Option, None, Some, refl, sym, ap, ◌∙◌, subst, arith, append_assoc, append-nil}
use Rattle.std.specs.Prelude.{◌==◌, if◌then◌else◌}
use Rattle.std.specs.List.{copy_within}
use Rattle.std.specs.Io.KnownBytes.{Consumes, IsAtEnd}
use Rattle.std.proofs.KnownBytes.{Consumes-nil, Consumes-trans}
use Rattle.std.proofs.lemmas.Bool.Decides.{nat_tests}
use Rattle.std.proofs.lemmas.List.{drop-drop, take-append-le, take-take, length-take-le}
use Rattle.std.proofs.lemmas.Slice.{between_is}
use Rattle.std.proofs.Common.{length-drop}
use Rattle.std.proofs.Math.Seq.{take-add}
use Rattle.httparse.specs.declared.spans.HeaderSpan.{HeaderSpan}
use Rattle.httparse.specs.declared.spans.RequestSpans.{RequestSpans}
use Rattle.httparse.specs.Grammar.{RequestHead, print_request}
use Rattle.httparse.specs.Spans.{IsRequestAt}
use Rattle.http_defs.specs.declared.request.Request.{Request}
use Rattle.http_defs.specs.Heads.{request_of}
use Rattle.http_defs.specs.Requests.{NoHead, Begins}
use Rattle.http_req.specs.declared.filling.Next.TheVariants.{End as NextEnd, Never}
use Rattle.http_req.specs.Reading.{known, Holds, StandsAt, ComesTo}

-- a read that gave bytes
pub holds_more : (held buf new : List ℕ) (filled n : ℕ) (first left next : Option (List ℕ))
    → Holds held buf filled first left → take filled new ≡ take filled buf
    → Consumes left next (take n (drop filled new)) → filled + n ≤ 8192
    → Holds held new (filled + n) first next
holds_more held buf new filled n first left next h front read fits =
    let more = take n (drop filled new) in
    record {
      bytes = h.bytes ++ more;
      read = Consumes-trans first left next h.bytes more h.read read;
      whole = sym (append_assoc held h.bytes more) ∙ ap (λ xs. xs ++ more) (h.whole ∙ sym front)
          ∙ sym (take-add filled n new);
      fits = fits;
    }

-- the first of a buffer after a read, as those before it and those that it gave
pub read_on : (buf new : List ℕ) (filled n : ℕ) → take filled new ≡ take filled buf
    → take (filled + n) new ≡ take filled buf ++ take (filled + n - filled) (drop filled new)
read_on buf new filled n front =
    let count : filled + n - filled ≡ n = omega arith in
    take-add filled n new ∙ ap (λ xs. xs ++ take n (drop filled new)) front
    ∙ ap (λ k. take filled buf ++ take k (drop filled new)) (sym count)

-- at the end no byte is left
pub none_known : (left : Option (List ℕ)) → IsAtEnd left → known left ≡ []
none_known None e = refl
none_known (Some xs) e = e

nothing_before : (xs ys : List ℕ) → xs ++ ys ≡ [] → (xs ≡ []) × (ys ≡ [])
nothing_before [] ys e = (refl, e)
nothing_before (x ∷ xs) ys e = absurd cc

some_filled : (buf : List ℕ) (filled : ℕ) → length buf ≡ 8192 → filled ≤ 8192 → filled ≢ 0 → take filled buf ≢ []
some_filled buf filled full fits some e =
    let none : length (take filled buf) ≡ 0 = ap length e in
    let long : length (take filled buf) ≡ filled = length-take-le filled buf (omega arith) in
    some (sym long ∙ none)

-- where the input has ended and there is no head, nothing is held, or what is held is none
pub ends : (held buf : List ℕ) (filled : ℕ) (headers : List HeaderSpan) (left next : Option (List ℕ))
    → length buf ≡ 8192 → Holds held buf filled left next → NoHead (take filled buf) → IsAtEnd next
    → ComesTo held buf headers left next (if filled == 0 then NextEnd else Never filled)
ends held buf filled headers left next full h none over = by (filled == 0) refl
  where
    by : (t : Bool) → (filled == 0) ≡ t → ComesTo held buf headers left next (if t then NextEnd else Never filled)
    by true e =
        let empty : filled ≡ 0 = grind (arith, nat_tests) in
        let nothing = nothing_before held h.bytes (h.whole ∙ ap (λ n. take n buf) empty) in
        (nothing.0, subst (λ (xs : List ℕ). Consumes left next xs) nothing.1 h.read, over)
    by false e =
        let some : filled ≢ 0 = grind (arith, nat_tests) in (
          h,
          some_filled buf filled full h.fits some,
          subst (λ (xs : List ℕ). NoHead xs)
              (sym (append-nil (take filled buf)) ∙ ap (λ xs. take filled buf ++ xs) (sym (none_known next over))) none,
        )

-- the bytes between two places, moved to the front
pub shifted : (xs : List ℕ) (i j : ℕ) → i ≤ j → j ≤ length xs → take (j - i) (copy_within xs i j 0) ≡ take (j - i) (drop i xs)
shifted xs i j low high =
    let n = j - i in
    let enough : n ≤ length (drop i xs) = omega (arith, length-drop i xs) in
    let long : length (take n (drop i xs)) ≡ n = length-take-le n (drop i xs) enough in
    take-append-le n (take n (drop i xs)) _ (omega arith) ∙ take-take n n (drop i xs) (omega arith)

-- what is between two places once the first of them moved on
pub moved_on : (xs : List ℕ) (i j n : ℕ) → take (j - (i + n)) (drop (i + n) xs) ≡ drop n (take (j - i) (drop i xs))
moved_on xs i j n = between_is xs (i + n) j ∙ sym (drop-drop n i (take j xs)) ∙ ap (drop n) (sym (between_is xs i j))

-- the request of the head that the bytes held begin with, where these and the headers are seen under other names
pub begins_held : (held buf : List ℕ) (headers seen_headers : List HeaderSpan) (left : Option (List ℕ)) (spans : RequestSpans) (r : Request)
    (rest : List ℕ) → buf ≡ held → seen_headers ≡ headers → StandsAt buf headers spans
    → ((head : RequestHead) → IsRequestAt buf seen_headers spans head → r ≡ request_of head) → rest ≡ drop spans.len held
    → (bytes : List ℕ) × Consumes left left bytes × Begins (held ++ bytes) r rest
begins_held held buf headers seen_headers left spans r rest same spanned s told behind = (
  [],
  Consumes-nil left,
  record {
    head = s.head;
    begins = record {
      reads = (
        s.at.reads.0,
        append-nil held ∙ sym same ∙ s.at.reads.1
            ∙ ap (λ xs. print_request s.head ++ xs) (ap (drop spans.len) same ∙ sym behind),
      );
      short = s.short;
    };
    is = told s.head (subst (λ (hs : List HeaderSpan). IsRequestAt buf hs spans s.head) (sym spanned) s.at);
  },
)

-- the request of the head that the buffer begins with, where the buffer, the bytes held and the spans
-- are seen under other names
pub begins_at : (first_held held buf seen kept : List ℕ) (filled : ℕ) (headers seen_headers : List HeaderSpan)
    (first left : Option (List ℕ)) (spans : RequestSpans) (r : Request) (rest : List ℕ)
    → held ≡ first_held → seen ≡ buf → kept ≡ buf → seen_headers ≡ headers
    → Holds held buf filled first left → StandsAt (take filled buf) headers spans
    → ((head : RequestHead) → IsRequestAt (take filled seen) seen_headers spans head → r ≡ request_of head)
    → rest ≡ drop spans.len (take filled kept)
    → (bytes : List ℕ) × Consumes first left bytes × Begins (first_held ++ bytes) r rest
begins_at first_held held buf seen kept filled headers seen_headers first left spans r rest same see keep spanned h s told behind =
    let whole : first_held ++ h.bytes ≡ take filled buf = ap (λ xs. xs ++ h.bytes) (sym same) ∙ h.whole in
    let rest_is : rest ≡ drop spans.len (take filled buf) = behind ∙ ap (λ xs. drop spans.len (take filled xs)) keep in (
      h.bytes,
      h.read,
      record {
        head = s.head;
        begins = record {
          reads = (s.at.reads.0, whole ∙ s.at.reads.1 ∙ ap (λ xs. print_request s.head ++ xs) (sym rest_is));
          short = s.short;
        };
        is = told s.head
            (subst (λ (xs : List ℕ). IsRequestAt (take filled xs) seen_headers spans s.head) (sym see)
            (subst (λ (hs : List HeaderSpan). IsRequestAt (take filled buf) hs spans s.head) (sym spanned) s.at));
      },
    )
