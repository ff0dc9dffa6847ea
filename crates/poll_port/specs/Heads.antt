-- The head in front of bytes and the message of a reply, as functions. A head is put together from
-- its lines, and taken where it is one and spells the bytes.
use Rattle.std.specs.Prelude.{ℕ, ◌-◌, Bool, ◌&&◌, ◌==◌, nat_le, nat_lt, if◌then◌else◌, List, [], ◌∷◌, length, map, take, drop, get_or, bytes_eq, Option, Some, None}
use Rattle.std.specs.List.{list_all, slice_split}
use Rattle.std.specs.Char.{is_ascii_digit}
use Rattle.std.specs.Option.{option_map, option_and_then}
use Rattle.httparse.specs.Grammar.{LineEnd, crlf, lf, Field, is_token, is_value_byte, ResponseHead, reason_phrase, print_response, status_code}
use Rattle.poll_port.specs.declared.extent.Extent.{Extent}
use Rattle.poll_port.specs.declared.faults.ReplyFault.{ReplyFault}
use Rattle.poll_port.specs.declared.faults.ReplyFault.TheVariants as fault
use Rattle.poll_port.specs.Fields.{success, extent_behind}
use Rattle.poll_port.specs.Replies.{head_limit, message_in}

-- the bytes before the first one of this value, and those behind it, if it is there
abbrev pub cut_at : ℕ → List ℕ → List ℕ × Option (List ℕ)
cut_at stop [] = ([], None)
cut_at stop (b ∷ bytes) =
    if b == stop then ([], Some bytes) else (b ∷ (cut_at stop bytes).0, (cut_at stop bytes).1)

-- a line without its end, and the end that it has
abbrev pub Line : Type 0
Line = List ℕ × LineEnd

abbrev pub end_by : Option (List ℕ) → LineEnd
end_by None = lf
end_by (Some behind) = crlf

-- of bytes before a LF, which may end with a CR
abbrev pub line_of : List ℕ → Line
line_of bytes = ((cut_at 13 bytes).0, end_by (cut_at 13 bytes).1)

-- the lines of bytes
abbrev pub lines_of : List ℕ → List Line
lines_of bytes = map line_of (slice_split (λ b. b == 10) bytes)

abbrev pub behind_colon : Option (List ℕ) → List ℕ
behind_colon None = []
behind_colon (Some raw) = raw

-- the field of a line: its name stands before the first colon
abbrev pub field_of : List ℕ → LineEnd → Field
field_of line end = record {
  name = (cut_at 58 line).0;
  raw = behind_colon (cut_at 58 line).1;
  end = end;
}

-- the fields of lines, up to the empty one, and its end
abbrev pub section_of : List Line → List Field × LineEnd
section_of [] = ([], lf)
section_of (([], end) ∷ lines) = ([], end)
section_of ((b ∷ bytes, end) ∷ lines) =
    (field_of (b ∷ bytes) end ∷ (section_of lines).0, (section_of lines).1)

-- the head of a status line, `HTTP/1.`, a digit, a blank, three digits and what follows, and of the
-- lines behind it
abbrev pub head_of : List ℕ → LineEnd → List Field × LineEnd → ResponseHead
head_of line end section = record {
  blank = [];
  minor = get_or line 7 0 - 48;
  digits = take 3 (drop 9 line);
  reason = if nat_lt 12 (length line) then Some (drop 13 line) else None;
  line_end = end;
  fields = section.0;
  last = section.1;
}

-- a head behind one more empty line
abbrev pub behind_blank : LineEnd → ResponseHead → ResponseHead
behind_blank end head = record head { blank = end ∷ head.blank }

-- the head of lines, of which empty ones may stand before the status line
abbrev pub head_from : List Line → Option ResponseHead
head_from [] = None
head_from (([], end) ∷ lines) = option_map (behind_blank end) (head_from lines)
head_from ((b ∷ bytes, end) ∷ lines) = Some (head_of (b ∷ bytes) end (section_of lines))

-- whether a field is one of the grammar, and whether a head is one that is not too long and spells
-- the first of the bytes
abbrev pub is_field : Field → Bool
is_field field = is_token field.name && list_all is_value_byte field.raw

abbrev pub is_head : ResponseHead → Bool
is_head head =
    nat_le head.minor 1
    && ((length head.digits == 3) && list_all is_ascii_digit head.digits)
    && list_all is_value_byte (reason_phrase head.reason)
    && list_all is_field head.fields

abbrev pub stands_in : List ℕ → ResponseHead → Bool
stands_in bytes head =
    is_head head
    && nat_le (length (print_response head)) head_limit
    && bytes_eq (take (length (print_response head)) bytes) (print_response head)

-- the head with which bytes begin
unfoldable pub head_in : List ℕ → Option ResponseHead
head_in bytes =
    option_and_then (λ head. if stands_in bytes head then Some head else None)
    (head_from (lines_of bytes))

-- the message of a reply by its head
abbrev pub message_behind : List ℕ → ResponseHead → Option (List ℕ)
message_behind bytes head =
    option_and_then (λ extent. message_in extent (drop (length (print_response head)) bytes))
    (extent_behind head)

-- the message of the good reply that bytes are; none where they are none
unfoldable pub reply_in : List ℕ → Option (List ℕ)
reply_in bytes = option_and_then (message_behind bytes) (head_in bytes)

-- ---- what is wrong with a reply

-- a head behind which no message goes: of another status, or of a length that isn't told
abbrev pub head_fault : ResponseHead → ReplyFault
head_fault head =
    if status_code head == success then fault.Length else fault.Status (status_code head)

-- behind a good head, by the message that there is
abbrev pub cut_fault : Option (List ℕ) → Option ReplyFault
cut_fault None = Some fault.Cut
cut_fault (Some message) = None

-- by how far the message goes in the bytes behind the head
abbrev pub fault_behind : List ℕ → ResponseHead → Option Extent → Option ReplyFault
fault_behind rest head None = Some (head_fault head)
fault_behind rest head (Some extent) = cut_fault (message_in extent rest)

-- by the head in front
abbrev pub fault_by : List ℕ → Option ResponseHead → Option ReplyFault
fault_by bytes None = Some fault.Head
fault_by bytes (Some head) =
    fault_behind (drop (length (print_response head)) bytes) head (extent_behind head)

-- what is wrong with the reply that bytes are, if anything is
unfoldable pub fault_in : List ℕ → Option ReplyFault
fault_in bytes = fault_by bytes (head_in bytes)
