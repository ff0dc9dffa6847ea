-- Letting go of bytes of the script.
use Rattle.std.proofs.Common.{◌≡◌, ℕ, ◌+◌, ◌-◌, ◌≤◌, ◌<◌, List, [], ◌++◌, length, take, drop, Option, sym, ap, ◌∙◌, arith, append-nil, append_assoc, length-drop, length-append, take-append-drop}
use Rattle.std.specs.Io.KnownBytes.{Consumes}
use Rattle.std.proofs.KnownBytes.{Consumes-nil, Consumes-trans}
use Rattle.std.proofs.lemmas.List.{length-take-le, drop_all}
use Rattle.script_lines.specs.Window.{Windowed, Grows}
use Rattle.hub_replay.specs.Steps.{Passes}

-- some bytes were let go, and so many are still to be
pub record Skipping (old now : Windowed) (left left' : Option (List ℕ)) (count to_go : ℕ) : Type 0 where
  pub more : List ℕ
  pub gone : List ℕ
  pub all : old.held ++ more ≡ gone ++ now.held
  pub size : length gone + to_go ≡ count
  pub allowed : now.allowed + length more ≡ old.allowed
  pub read : Consumes left left' more

pub skipping_none : (old : Windowed) (left : Option (List ℕ)) (count : ℕ) → Skipping old old left left count count
skipping_none old left count = record { more = []; gone = []; all = append-nil old.held; size = omega arith; allowed = omega arith; read = Consumes-nil left }

-- enough bytes are in hand
pub skip_done : (old now new : Windowed) (left left' : Option (List ℕ)) (count to_go : ℕ) → Skipping old now left left' count to_go → to_go < length now.held
    → new.held ≡ drop to_go now.held → new.allowed ≡ now.allowed → Passes old new left left' count
skip_done old now new left left' count to_go s enough held allowed =
    let front : to_go ≤ length now.held = omega arith in
    let size = length-take-le to_go now.held front in
    let joined = length-append s.gone (take to_go now.held) in
    let rest = length-drop to_go now.held in
    let count_is = s.size in
    record {
      more = s.more;
      gone = s.gone ++ take to_go now.held;
      all = s.all ∙ ap (λ h. s.gone ++ h) (sym (take-append-drop to_go now.held)) ∙ sym (append_assoc s.gone (take to_go now.held) (drop to_go now.held)) ∙ ap (λ h. s.gone ++ take to_go now.held ++ h) (sym held);
      size = omega arith;
      some = rw held (omega arith);
      allowed = omega (arith, s.allowed);
      read = s.read;
    }

-- all bytes in hand were let go, and more were read
pub skip_more : (old now mid new : Windowed) (left left' left'' : Option (List ℕ)) (count to_go : ℕ) → Skipping old now left left' count to_go → length now.held ≤ to_go
    → mid.held ≡ drop (length now.held) now.held → mid.allowed ≡ now.allowed → Grows mid new left' left'' → Skipping old new left left'' count (to_go - length now.held)
skip_more old now mid new left left' left'' count to_go s few held allowed grew =
    let nothing : mid.held ≡ [] = held ∙ drop_all (length now.held) now.held (omega arith) in
    let joined = length-append s.gone now.held in
    let both = length-append s.more grew.more in
    let front : new.held ≡ grew.more = grew.held ∙ ap (λ h. h ++ grew.more) nothing in
    let sum = grew.allowed in
    let sums = s.allowed in
    let count_is = s.size in
    record {
      more = s.more ++ grew.more;
      gone = s.gone ++ now.held;
      all = sym (append_assoc old.held s.more grew.more) ∙ ap (λ h. h ++ grew.more) s.all ∙ ap (λ h. s.gone ++ now.held ++ h) (sym front);
      size = omega arith;
      allowed = omega arith;
      read = Consumes-trans left left' left'' s.more grew.more s.read grew.read;
    }
