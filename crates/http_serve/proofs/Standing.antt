-- A connection in memory at one moment, while the history stands still.
use Rattle.std.proofs.Common.{◌≡◌, ◌==◌, ℕ, ◌+◌, true, List, [], ◌∷◌, ◌++◌, length, Option, Some, refl, ap, ap₂, ◌∙◌, subst, arith, append-nil}
use Rattle.std.specs.Prelude.{slice_get}
use Rattle.std.specs.Io.KnownBytes.{Appends}
use Rattle.std.proofs.Math.Seq.{take-length}
use Rattle.feed_defs.specs.declared.history.Entry.{Entry}
use Rattle.sched_types.specs.Schedules.{Schedules}
use Rattle.delta_defs.specs.Kept.{KeptView}
use Rattle.hub_outside.specs.Memory.{bytes_written}
use Rattle.board_defs.specs.Fold.{fold_of}
use Rattle.http_defs.specs.declared.request.Item.{Item}
use Rattle.http_defs.specs.Requests.{AreRequests, last_place}
use Rattle.http_serve_defs.specs.Answers.{answer}
use Rattle.http_serve_defs.specs.Connections.{kept_with, responses}
use Rattle.http_serve.specs.declared.session.End.{End}
use Rattle.http_serve.specs.declared.transcript.Finish.{Finish}
use Rattle.http_serve.specs.declared.transcript.Transcript.{Transcript}
use Rattle.http_serve.specs.Setting.{Setting, Readings, NeverFall}
use Rattle.http_serve.specs.Replies.{Reply, items_of, moments_of, numbers_of, kept_at, reply_bytes, replies_bytes}
use Rattle.http_serve.specs.Serves.{Serves}
use Rattle.http_serve.specs.Transcript.{IsTranscript, Finishes, finish_seen}
use Rattle.http_serve.proofs.Chains.{never_fall_below}

-- the views that are kept with a look at the whole history
abbrev kept_whole : Schedules → List Entry → List KeptView → List KeptView
kept_whole plans history kept = kept_with (length history) (fold_of (length plans.feeds) history) kept

-- a response at the moment and of the whole history
abbrev reply_at : Schedules → List Entry → List KeptView → ℕ → ℕ → Item → List ℕ
reply_at plans history kept moment place item =
    answer plans item (place == last_place) moment (length history) (fold_of (length plans.feeds) history) (kept_whole plans history kept)

look_standing : (plans : Schedules) (h : List Entry) (kept : List KeptView) (number : ℕ) → number ≡ length h
    → kept_at plans h number kept ≡ kept_whole plans h kept
look_standing plans h kept number whole = grind (arith, take-length)

reply_standing : (plans : Schedules) (h : List Entry) (kept : List KeptView) (moment place : ℕ) (r : Reply) → r.number ≡ length h
    → r.moment ≡ moment → reply_bytes plans h kept place r ≡ reply_at plans h kept moment place r.item
unfolding reply_bytes
reply_standing plans h kept moment place r whole at = grind (arith, take-length)

-- what a clock that stands shows
shows : (moment m : ℕ) → slice_get (moment ∷ []) 0 ≡ Some m → m ≡ moment
shows moment m h = cc

-- what is written for the items at the moment, of the whole history
replies_standing : (plans : Schedules) (h : List Entry) (kept : List KeptView) (moment place : ℕ) (rs : List Reply) (more : List ℕ)
    (later : Option (List ℕ)) → NeverFall (length h) (numbers_of rs) (length h) → Readings (Some (moment ∷ [])) later (moments_of rs ++ more)
    → replies_bytes plans h kept place rs
    ≡ responses plans moment (length h) (fold_of (length plans.feeds) h) kept place (items_of rs)
unfolding responses
replies_standing plans h kept moment place [] more later numbers readings = refl
replies_standing plans h kept moment place (r ∷ rs) more later numbers readings =
    let least = numbers.0 in
    let most = never_fall_below (length h) r.number (length h) (numbers_of rs) numbers in
    let whole : r.number ≡ length h = omega arith in
    let numbers_on : NeverFall (length h) (numbers_of rs) (length h) =
    subst (λ (n : ℕ). NeverFall n (numbers_of rs) (length h)) whole numbers.1
    in
    ap₂ (λ (xs ys : List ℕ). xs ++ ys) (reply_standing plans h kept moment place r whole (shows moment r.moment readings.0))
    (ap (λ (views : List KeptView). replies_bytes plans h views (place + 1) rs) (look_standing plans h kept r.number whole)
    ∙ replies_standing plans h (kept_whole plans h kept) moment (place + 1) rs more later numbers_on readings.1)

-- what stands in memory behind nothing
written_all : (whole cut bytes : List ℕ) → cut ≡ [] → Appends (Some []) (Some bytes) (whole ++ cut) → bytes ≡ whole
written_all whole cut bytes none h = h ∙ ap (λ (xs : List ℕ). whole ++ xs) none ∙ append-nil whole

-- what was answered where the whole input was
abbrev Answered : List ℕ → List Item → Finish → Type 0
Answered input items finish = AreRequests 1 input items (finish_seen finish)

-- the bytes that were begun and not written whole, and the items
ends_whole : (end : End) (finish : Finish) (left : Option (List ℕ)) (faults faults' : ℕ) (a c : Setting) (input numbers moments : List ℕ)
    → Finishes end finish → (s : Serves (Some input) left faults faults' a c end numbers moments)
    → (s.begun.cut ≡ []) × Answered input (items_of s.replies) finish
ends_whole end finish left faults faults' a c input numbers moments f s = grind arith

-- a connection that was served in memory
pub is_transcript : (end : End) (transcript : Transcript) (left later : Option (List ℕ)) (faults faults' : ℕ) (a c : Setting)
    (moment : ℕ) (input numbers moments : List ℕ)
    → left ≡ Some input → a.written ≡ Some [] → a.ahead ≡ Some (moment ∷ []) → a.steady ≡ true → a.kept ≡ []
    → c.written ≡ Some (bytes_written transcript.written) → Finishes end transcript.finish
    → Serves left later faults faults' a c end numbers moments
    → IsTranscript a.plans a.history moment input transcript
is_transcript end transcript left later faults faults' a c moment input numbers moments told fresh stands still none_kept written f serves =
    let s : Serves (Some input) later faults faults' a c end numbers moments =
    subst (λ (o : Option (List ℕ)). Serves o later faults faults' a c end numbers moments) told serves
    in
    let same = s.hub_goes_on.steady_history_stays still in
    let (none, answered) = ends_whole end transcript.finish later faults faults' a c input numbers moments f s in
    let never_fall : NeverFall (length a.history) (numbers_of s.replies) (length a.history) =
    subst (λ (ns : List ℕ). NeverFall (length a.history) ns (length a.history)) s.numbers_are
    (subst (λ (h : List Entry). NeverFall (length a.history) numbers (length h)) same s.numbers_never_fall)
    in
    let readings : Readings (Some (moment ∷ [])) c.ahead (moments_of s.replies ++ s.begun.readings) =
    subst (λ (o : Option (List ℕ)). Readings o c.ahead (moments_of s.replies ++ s.begun.readings)) stands
    (subst (λ (ms : List ℕ). Readings a.ahead c.ahead (ms ++ s.begun.readings)) s.moments_are s.moments_are_readings)
    in
    let output : Appends (Some []) (Some (bytes_written transcript.written)) (replies_bytes a.plans a.history [] 1 s.replies ++ s.begun.cut) =
    subst (λ (kept : List KeptView). Appends (Some []) (Some (bytes_written transcript.written)) (replies_bytes a.plans a.history kept 1 s.replies ++ s.begun.cut)) none_kept
    (subst (λ (h : List Entry). Appends (Some []) (Some (bytes_written transcript.written)) (replies_bytes a.plans h a.kept 1 s.replies ++ s.begun.cut)) same
    (subst (λ (o : Option (List ℕ)). Appends (Some []) o (replies_bytes a.plans c.history a.kept 1 s.replies ++ s.begun.cut)) written
    (subst (λ (o : Option (List ℕ)). Appends o c.written (replies_bytes a.plans c.history a.kept 1 s.replies ++ s.begun.cut)) fresh s.output)))
    in
    record {
      served = record { input = input; items = items_of s.replies; finish = finish_seen transcript.finish };
      is_served = answered;
      of_input = refl;
      finish = refl;
      written = written_all (replies_bytes a.plans a.history [] 1 s.replies) s.begun.cut (bytes_written transcript.written) none output
          ∙ replies_standing a.plans a.history [] moment 1 s.replies s.begun.readings c.ahead never_fall readings;
    }
