-- A writer's loop that puts a length before a run of bytes, which moves on by a byte for each further byte of the length.
use Rattle.std.proofs.Common.{◌≡◌, ℕ, zero, suc, ◌+◌, ◌-◌, ◌/◌, ◌%◌, ◌^◌, ◌<◌, ◌≤◌, List, [], ◌∷◌, ◌++◌, length, take, drop, refl, sym, ap, ◌∙◌, append_assoc, arith, set}
use Rattle.std.proofs.Math.Nat.{pow-suc}
use Rattle.std.proofs.Math.ListN.{length-set}
use Rattle.std.proofs.Math.Seq.{take-append_seam, drop-append_seam}
use Rattle.std.proofs.lemmas.List.{take_more_set, set_split, take-set-le, drop-set-lt, length-drop, length-take-le, length-append, take-take}
use Rattle.std.proofs.lemmas.List.Edits.{length-insert}
use Rattle.std.specs.List.{insert}
use Rattle.pb_wire_defs.specs.Writing.{groups, varint}
use Rattle.pb_wire_defs.proofs.Again.{last_group, more_groups, quotient_below}
use Rattle.pb_wire.proofs.Spelt.{two}

-- before the byte at `last` stand the front and the first groups of the run's length, behind it stands the run
pub record Widens (place : ℕ) (front run now : List ℕ) (last rest : ℕ) : Type 0 where
  pub most : ℕ
  pub below : rest < 128 ^ suc most
  pub onward : place ≤ last
  pub within : last < length now
  pub kept : take place now ≡ front
  pub behind : drop (last + 1) now ≡ run
  pub whole : take last now ++ groups (suc most) rest ≡ front ++ varint (length run)

pub begins : (place rest : ℕ) (now : List ℕ) → place < length now → rest < 2 ^ 64 → rest ≡ (length now - place) - 1 → Widens place (take place now) (drop (place + 1) now) now place rest
unfolding varint
begins place rest now within small is =
    let size : rest ≡ length (drop (place + 1) now) = omega (arith, length-drop (place + 1) now) in
    record { most = 9; below = omega arith; onward = omega arith; within = within; kept = refl; behind = refl; whole = ap (λ n. take place now ++ groups 10 n) size }

-- what stands around a byte that was put in
around : (last : ℕ) (now : List ℕ) → last < length now → (take (last + 1) (insert now (last + 1) 0) ≡ take (last + 1) now) × (drop ((last + 1) + 1) (insert now (last + 1) 0) ≡ drop (last + 1) now)
around last now within =
    let front = take (last + 1) now in
    let behind = drop (last + 1) now in
    let size : last + 1 ≡ length front = sym (length-take-le (last + 1) now (omega arith)) in
    let both : (last + 1) + 1 ≡ length (front ++ 0 ∷ []) = omega (arith, length-append front (0 ∷ [])) in (
      ap (λ n. take n (front ++ 0 ∷ behind)) size ∙ take-append_seam front (0 ∷ behind),
      ap (λ n. drop n (front ++ 0 ∷ behind)) both ∙ ap (drop (length (front ++ 0 ∷ []))) (sym (append_assoc front (0 ∷ []) behind)) ∙ drop-append_seam (front ++ 0 ∷ []) behind,
    )

step : (most place : ℕ) (front run now : List ℕ) (last rest : ℕ) → rest < 128 ^ suc most → place ≤ last → last < length now → take place now ≡ front → drop (last + 1) now ≡ run → take last now ++ groups (suc most) rest ≡ front ++ varint (length run) → 128 ≤ rest
    → Widens place front run (insert (set now last (rest % 128 + 128)) (last + 1) 0) (last + 1) (rest / 128)
step zero place front run now last rest below onward within kept behind whole le = absurd (omega arith)
step (suc most) place front run now last rest below onward within kept behind whole le =
    let now' = set now last (rest % 128 + 128) in
    let size : length now' ≡ length now = length-set now last (rest % 128 + 128) in
    let sides = around last now' (omega arith) in
    let first : take (last + 1) now' ≡ take last now ++ (rest % 128 + 128) ∷ [] = take_more_set now last (rest % 128 + 128) within in
    record {
      most = most;
      below = quotient_below rest (128 ^ suc most) (rw pow-suc at below);
      onward = omega arith;
      within = omega (arith, length-insert now' (last + 1) 0 (omega arith));
      kept = kept_in place (last + 1) now' (insert now' (last + 1) 0) (omega arith) sides.0 ∙ take-set-le place now last (rest % 128 + 128) onward ∙ kept;
      behind = sides.1 ∙ drop-set-lt (last + 1) now last (rest % 128 + 128) (omega arith) ∙ behind;
      whole =
          ap (λ xs. xs ++ groups (suc most) (rest / 128)) (sides.0 ∙ first)
          ∙ append_assoc (take last now) ((rest % 128 + 128) ∷ []) (groups (suc most) (rest / 128))
          ∙ ap (λ xs. take last now ++ xs) (sym (more_groups (suc most) rest le))
          ∙ whole;
    }
  where
    -- a shorter front of equal fronts
    kept_in : (n m : ℕ) (xs ys : List ℕ) → n ≤ m → take m ys ≡ take m xs → take n ys ≡ take n xs
    kept_in n m xs ys le same = sym (take-take n m ys le) ∙ ap (take n) same ∙ take-take n m xs le

pub goes_on : (place : ℕ) (front run now : List ℕ) (last rest : ℕ) → Widens place front run now last rest → 128 ≤ rest → Widens place front run (insert (set now last (rest % 128 + 128)) (last + 1) 0) (last + 1) (rest / 128)
goes_on place front run now last rest so_far le =
    step so_far.most place front run now last rest so_far.below so_far.onward so_far.within so_far.kept so_far.behind so_far.whole le

pub ends : (place : ℕ) (front run now : List ℕ) (last rest : ℕ) → Widens place front run now last rest → rest < 128 → set now last rest ≡ front ++ (varint (length run) ++ run)
ends place front run now last rest so_far lt =
    set_split now last rest so_far.within
    ∙ sym (append_assoc (take last now) (rest ∷ []) (drop (suc last) now))
    ∙ ap (λ xs. xs ++ drop (suc last) now) (ap (λ xs. take last now ++ xs) (sym (last_group so_far.most rest lt)) ∙ so_far.whole)
    ∙ append_assoc front (varint (length run)) (drop (suc last) now)
    ∙ ap (λ xs. front ++ (varint (length run) ++ xs)) (let one : suc last ≡ last + 1 = omega arith in ap (λ n. drop n now) one ∙ so_far.behind)

-- what stands before the place stays when a byte behind it is set
pub stays : (place : ℕ) (front run now : List ℕ) (last rest byte : ℕ) → Widens place front run now last rest → take place (set now last byte) ≡ front
stays place front run now last rest byte so_far = take-set-le place now last byte so_far.onward ∙ so_far.kept

-- ---- a length of two groups, for which two bytes were kept

pub long : (place count : ℕ) (now : List ℕ) → place + 1 < length now → count ≡ (length now - place) - 2 → 128 ≤ count → count < 16384
    → set (set now place (count % 128 + 128)) (place + 1) (count / 128) ≡ take place now ++ (varint (length (drop (place + 2) now)) ++ drop (place + 2) now)
long place count now within is from below =
    set_split now' (place + 1) last (omega (arith, length-set now place low))
    ∙ ap (λ xs. xs ++ last ∷ drop (suc (place + 1)) now') (take_more_set now place low (omega arith))
    ∙ append_assoc (take place now) (low ∷ []) (last ∷ drop (suc (place + 1)) now')
    ∙ ap (λ xs. take place now ++ (low ∷ last ∷ xs)) (ap (λ n. drop n now') behind ∙ drop-set-lt (place + 2) now place low (omega arith))
    ∙ ap (λ xs. take place now ++ (xs ++ run)) (two count last refl (omega arith) (omega arith))
    ∙ ap (λ n. take place now ++ (varint n ++ run)) size
  where
    low : ℕ
    low = count % 128 + 128

    last : ℕ
    last = count / 128

    now' : List ℕ
    now' = set now place low

    run : List ℕ
    run = drop (place + 2) now

    behind : suc (place + 1) ≡ place + 2
    behind = omega arith

    size : count ≡ length run
    size = omega (arith, length-drop (place + 2) now)
