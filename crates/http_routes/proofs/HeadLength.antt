-- How long a head is, and what there is once it is put right before its body.
use Rattle.std.proofs.Common.{◌≡◌, ℕ, ◌+◌, ◌-◌, ◌≤◌, ◌<◌, Bool, List, [], ◌++◌, length, take, drop, arith, length-append, length-drop}
use Rattle.std.specs.Prelude.{◌^◌}
use Rattle.std.specs.Fmt.{decimal}
use Rattle.std.proofs.lemmas.Fmt.{length-decimal-le}
use Rattle.std.proofs.lemmas.List.{drop_at, drop-drop, length-take-le}
use Rattle.http_defs.specs.declared.response.Status.{Status}
use Rattle.http_defs.specs.declared.response.BodyKind.{BodyKind}
use Rattle.http_defs.specs.Responses.{crlf, status_text, type_text, connection_text, text_line, number_line, allow_line, head_bytes}

status_short : (s : Status) → length (status_text s) ≤ 22
unfolding status_text
status_short s = grind arith

type_short : (k : BodyKind) → length (type_text k) ≤ 25
unfolding type_text
type_short k = grind arith

allow_short : (s : Status) → length (allow_line s) ≤ 12
unfolding allow_line crlf
allow_short s = grind arith

connection_short : (close : Bool) → length (connection_text close) ≤ 10
unfolding connection_text
connection_short close = grind arith

end_short : length crlf ≤ 2
unfolding crlf
end_short = omega arith

text_short : (name text : List ℕ) (m n : ℕ) → length name ≤ m → length text ≤ n → length (text_line name text) ≤ m + n + 2
unfolding text_line
text_short name text m n a b = grind (arith, end_short, length-append)

number_short : (name : List ℕ) (n m : ℕ) → length name ≤ m → n < 2 ^ 64 → length (number_line name n) ≤ m + 22
unfolding number_line
number_short name n m a small =
    let b = length-decimal-le 20 n (omega arith) (omega arith) small in
    let c = end_short in
    omega (arith, length-append (name ++ decimal n) crlf, length-append name (decimal n))

pub head_short : (status : Status) (kind : BodyKind) (size number moment : ℕ) (close : Bool) → size < 2 ^ 64 → number < 2 ^ 64 → moment < 2 ^ 64
    → length (head_bytes status kind size number moment close) ≤ 224
unfolding head_bytes
head_short status kind size number moment close a b c =
    grind (arith, text_short, status_short, type_short, number_short, allow_short, connection_short, end_short, length-append)

-- a head that was written after nothing
pub written_short : (old head : List ℕ) (status : Status) (kind : BodyKind) (size number moment : ℕ) (close : Bool) → old ≡ []
    → head ≡ old ++ head_bytes status kind size number moment close → size < 2 ^ 64 → number < 2 ^ 64 → moment < 2 ^ 64 → length head ≤ 224
written_short old head status kind size number moment close empty is a b c =
    grind (arith, head_short, length-append)

-- bytes in whose first ones, of which there is room for some, others were put right before those that follow
abbrev pub put_in : ℕ → ℕ → List ℕ → List ℕ → List ℕ
put_in room n bytes head = take (room - n) bytes ++ (head ++ drop (room - (room - n)) (drop (room - n) bytes))

pub put_length : (room n : ℕ) (bytes head : List ℕ) → n ≡ length head → n ≤ room → room ≤ length bytes → length (put_in room n bytes head) ≡ length bytes
put_length room n bytes head long low high =
    grind (arith, length-append, length-take-le, length-drop)

pub put_before : (room n : ℕ) (bytes head : List ℕ) → n ≡ length head → n ≤ room → room ≤ length bytes → drop (room - n) (put_in room n bytes head) ≡ head ++ drop room bytes
put_before room n bytes head long low high = grind (arith, drop_at, length-take-le, drop-drop)
