-- What a look at the bytes read so far says of all that may follow.
use Rattle.std.proofs.Common.{◌≡◌, ℕ, ◌*◌, ◌<◌, ◌≤◌, List, [], ◌∷◌, ◌++◌, length, take, drop, sym, ap, ◌∙◌, arith, length-append, append_assoc}
use Rattle.std.specs.Prelude.{All}
use Rattle.std.specs.List.{flat_map}
use Rattle.std.proofs.lemmas.List.{take-append-drop, take-append-le}
use Rattle.std.proofs.Math.Seq.{take-append_seam}
use Rattle.std.proofs.lemmas.List.Elements.{All-head, All-tail}
use Rattle.httparse.specs.Grammar.{LineEnd, crlf, lf, print_end, Field, IsField, print_field, ResponseHead, print_response, HasNoResponse}
use Rattle.httparse.specs.Spans.{ResponseOverflows}
use Rattle.poll_port.specs.Replies.{BeginsWith, NoHead, IsGood}
use Rattle.poll_port.specs.declared.extent.Extent.{Extent}

-- bytes with no head at all have none that is short enough
pub none_short : (bytes : List ℕ) → HasNoResponse bytes → NoHead bytes
none_short bytes none head rest b = none head rest b.reads

-- a head that lies within the first bytes is theirs
within_front : (front more xs rest : List ℕ) → front ++ more ≡ xs ++ rest → length xs ≤ length front
    → front ≡ xs ++ drop (length xs) front
within_front front more xs rest e fits =
    sym (take-append-drop (length xs) front)
    ∙ ap (λ ys. ys ++ drop (length xs) front)
    (sym (take-append-le (length xs) front more fits) ∙ ap (take (length xs)) e ∙ take-append_seam xs rest)

-- as many bytes as the longest head has, and no head: none follows
pub full_none : (bytes : List ℕ) → 8192 ≤ length bytes → HasNoResponse bytes → (more : List ℕ) → NoHead (bytes ++ more)
full_none bytes full none more head rest b =
    let short : length (print_response head) ≤ 8192 = b.short in
    let front = within_front bytes more (print_response head) rest b.reads.1 (omega arith) in
    none head (drop (length (print_response head)) bytes) (b.reads.0, front)

end-length : (e : LineEnd) → 1 ≤ length (print_end e)
end-length crlf = omega arith
end-length lf = omega arith

-- a line of a field has three bytes at least
field-length : (f : Field) → IsField f → 3 ≤ length (print_field f)
field-length f is =
    let name : 0 < length f.name = is.name.0 in
    let end : 1 ≤ length (print_end f.end) = end-length f.end in
    omega (arith, length-append (f.name ++ 58 ∷ f.raw) (print_end f.end), length-append f.name (58 ∷ f.raw))

fields-length : (fs : List Field) → All IsField fs → 3 * length fs ≤ length (flat_map print_field fs)
fields-length [] all = omega arith
fields-length (f ∷ fs) all =
    let first = field-length f (All-head IsField f fs all) in
    let later = fields-length fs (All-tail IsField f fs all) in
    omega (arith, length-append (print_field f) (flat_map print_field fs))

head-room : (h : ResponseHead) → All IsField h.fields → 3 * length h.fields ≤ length (print_response h)
unfolding print_response
head-room h all = let fields = fields-length h.fields all in simp length-append (omega arith)

-- a head with more fields than the longest head has room for is none
pub overflow_none : (bytes : List ℕ) (room : ℕ) → 2731 ≤ room → ResponseOverflows room bytes
    → (more : List ℕ) → NoHead (bytes ++ more)
overflow_none bytes room enough over more head rest b =
    let short : length (print_response head) ≤ 8192 = b.short in
    let many : room < length head.fields = over more head rest b.reads in
    let few = head-room head b.reads.0.fields in
    absurd (omega arith)

-- bytes that follow a head stand behind its rest
pub begins_on : (bytes more : List ℕ) (head : ResponseHead) (rest : List ℕ) → BeginsWith bytes head rest → BeginsWith (bytes ++ more) head (rest ++ more)
begins_on bytes more head rest b = record {
  reads = (b.reads.0, ap (λ xs. xs ++ more) b.reads.1 ∙ append_assoc (print_response head) rest more);
  short = b.short;
}

pub good_on : (bytes more : List ℕ) (extent : Extent) (rest : List ℕ) → IsGood bytes extent rest → IsGood (bytes ++ more) extent (rest ++ more)
good_on bytes more extent rest g = record {
  head = g.head;
  begins = begins_on bytes more g.head rest g.begins;
  told = g.told;
}
