-- Reading the head of a reply, from piece to piece.
use Rattle.std.proofs.Common.{◌≡◌, ◌≢◌, ℕ, ◌+◌, ◌≤◌, true, false, List, ◌++◌, length, take, drop, Option, None, Some, Ok, Err, refl, sym, ap, ◌∙◌, subst, arith, append-nil}
use Rattle.std.specs.Prelude.{◌==◌, IfSome, map}
use Rattle.std.specs.Io.KnownBytes.{Consumes, Keeps, IsAtEnd}
use Rattle.std.proofs.KnownBytes.{Consumes-trans}
use Rattle.std.proofs.lemmas.Bool.Decides.{nat_tests}
use Rattle.std.proofs.lemmas.List.{length-take-le}
use Rattle.std.proofs.Math.Seq.{take-add}
use Rattle.httparse.specs.Grammar.{ResponseHead, status_code, HasNoResponse}
use Rattle.httparse.specs.Spans.{name_and_value, IsResponseAt}
use Rattle.httparse.specs.declared.spans.HeaderSpan.{HeaderSpan}
use Rattle.httparse.specs.declared.spans.ResponseSpans.{ResponseSpans}
use Rattle.poll_port.specs.declared.extent.Extent.{Extent}
use Rattle.poll_port.specs.declared.heads.HeadRead.{HeadRead}
use Rattle.poll_port.specs.declared.heads.HeadRead.TheVariants.{Good, Unfit, Failed}
use Rattle.poll_port.specs.Fields.{FieldBytes, extent_of, extent_behind}
use Rattle.poll_port.specs.declared.faults.ReplyFault.{ReplyFault}
use Rattle.poll_port.specs.declared.faults.ReplyFault.TheVariants as fault
use Rattle.poll_port.specs.Heads.{head_fault}
use Rattle.poll_port.specs.Reading.{StandsAt, IsUnfit, JudgesExtent, JudgesHead, ReadsHead, HasHeadCause}
use Rattle.poll_port.specs.Replies.{BeginsWith, NoHead, IsGood}
use Rattle.poll_port.proofs.FoundLemmas.{none_short, begins_on}
use Rattle.poll_port.proofs.ReplyLaws.{headless, bad_head}

-- a read behind the bytes that were read before
pub grown : (buf new : List ℕ) (filled n : ℕ) (first left next : Option (List ℕ)) → Consumes first left (take filled buf)
    → take filled new ≡ take filled buf → Consumes left next (take n (drop filled new)) → Consumes first next (take (filled + n) new)
grown buf new filled n first left next before front more =
    subst (Consumes first next) (ap (λ xs. xs ++ take n (drop filled new)) (sym front) ∙ sym (take-add filled n new))
    (Consumes-trans first left next (take filled buf) (take n (drop filled new)) before more)

-- ---- what the fields tell

pub other_status : (code : ℕ) (head : ResponseHead) → code ≡ status_code head → code ≢ 200 → JudgesExtent (Err (fault.Status code)) head
unfolding extent_behind
other_status code head is other =
    let test : (status_code head == 200) ≡ false = grind (arith, nat_tests) in (rw test refl, rw test (ap fault.Status is))

pub with_success : (code : ℕ) (head : ResponseHead) (fields : List FieldBytes) (extent : Option Extent) → code ≡ status_code head → code ≡ 200
    → fields ≡ map name_and_value head.fields → extent ≡ extent_of fields → extent ≡ extent_behind head
unfolding extent_behind
with_success code head fields extent is success same told =
    let test : (status_code head == 200) ≡ true = grind (arith, nat_tests) in rw test (told ∙ ap extent_of same)

pub no_length : (code : ℕ) (head : ResponseHead) → code ≡ status_code head → code ≡ 200 → fault.Length ≡ head_fault head
no_length code head is success =
    let test : (status_code head == 200) ≡ true = grind (arith, nat_tests) in rw test refl

-- ---- what a head is

begins_at : (bytes : List ℕ) (headers : List HeaderSpan) (spans : ResponseSpans) (s : StandsAt bytes headers spans)
    → BeginsWith bytes s.head (drop spans.len bytes)
begins_at bytes headers spans s = record { reads = s.at.reads; short = s.short }

pub good_at : (bytes : List ℕ) (headers : List HeaderSpan) (spans : ResponseSpans) (extent : Extent) → StandsAt bytes headers spans
    → ((head : ResponseHead) → IsResponseAt bytes headers spans head → JudgesExtent (Ok extent) head) → IsGood bytes extent (drop spans.len bytes)
good_at bytes headers spans extent s told = record {
  head = s.head;
  begins = begins_at bytes headers spans s;
  told = sym (told s.head s.at);
}

pub unfit_at : (bytes : List ℕ) (headers : List HeaderSpan) (spans : ResponseSpans) (why : ReplyFault) → StandsAt bytes headers spans
    → ((head : ResponseHead) → IsResponseAt bytes headers spans head → JudgesExtent (Err why) head) → (more : List ℕ) → IsUnfit why (bytes ++ more)
unfit_at bytes headers spans why s told more =
    let judged = told s.head s.at in
    subst (λ f. IsUnfit f (bytes ++ more)) (sym judged.1)
    (bad_head (bytes ++ more) s.head (drop spans.len bytes ++ more)
    (begins_on bytes more s.head (drop spans.len bytes) (begins_at bytes headers spans s)) (sym judged.0))

-- ---- how reading ends

-- bytes that begin no good reply, whatever follows, were the first
pub unfit : (why : ReplyFault) (first left : Option (List ℕ)) (front : List ℕ) → Consumes first left front → ((more : List ℕ) → IsUnfit why (front ++ more))
    → IfSome first (IsUnfit why)
unfit why None left front read none = tt
unfit why (Some xs) None front read none = absurd read
unfit why (Some xs) (Some ys) front read none = subst (λ bytes. IsUnfit why bytes) (sym read) (none ys)

-- none of them is a head, whatever follows
pub never_head : (first left : Option (List ℕ)) (front : List ℕ) → Consumes first left front → ((more : List ℕ) → NoHead (front ++ more))
    → IfSome first (IsUnfit fault.Head)
never_head first left front read none = unfit fault.Head first left front read (λ more. headless (front ++ more) (none more))

-- the source ended before there was a head
pub ended : (first left next : Option (List ℕ)) (front : List ℕ) → Consumes first left front → HasNoResponse front → Keeps left next → IsAtEnd next
    → IfSome first (IsUnfit fault.Head)
ended None left next front read none kept over = tt
ended (Some xs) None next front read none kept over = absurd read
ended (Some xs) (Some ys) None front read none kept over = absurd kept
ended (Some xs) (Some ys) (Some zs) front read none kept over =
    subst (λ bytes. IsUnfit fault.Head bytes) (sym (read ∙ ap (λ bs. front ++ bs) (sym kept ∙ over) ∙ append-nil front)) (headless front (none_short front none))

-- there was a head
pub judged : (read : HeadRead) (buf : List ℕ) (filled : ℕ) (first left : Option (List ℕ)) → length buf ≡ 8192 → filled ≤ 8192
    → Consumes first left (take filled buf) → JudgesHead read (take filled buf) → ReadsHead read first left buf
judged (Good extent start n) buf filled first left full fits taken (count, within, good) =
    let same : filled ≡ n = sym (count ∙ length-take-le filled buf (omega (arith, full, fits))) in
    let ReadTo : ℕ → Type 0 = λ k. (k ≤ 8192) × Consumes first left (take k buf) × IsGood (take k buf) extent (drop start (take k buf)) in
    let at = subst ReadTo same (fits, taken, good) in
    (within, at.0, at.1, at.2)
judged (Unfit why) buf filled first left full fits taken none = unfit why first left (take filled buf) taken none
judged Failed buf filled first left full fits taken never = absurd never

pub judged_cause : (read : HeadRead) (bytes : List ℕ) (before after : ℕ) → before ≤ after → JudgesHead read bytes → HasHeadCause read before after
judged_cause (Good extent start n) bytes before after later judges = later
judged_cause (Unfit why) bytes before after later judges = later
judged_cause Failed bytes before after later never = absurd never
