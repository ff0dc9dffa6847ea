-- What one poll does to the messages ahead.
use Rattle.std.proofs.Common.{◌≡◌, ℕ, zero, suc, ◌-◌, nat_lt, Bool, true, false, true≢false, List, [], ◌∷◌, ◌++◌, take, drop, slice_get, Option, None, Some, refl, sym, ap, ◌∙◌, subst, arith}
use Rattle.std.specs.Prelude.{◌&&◌, IfSome, is_some, unwrap_or, if◌then◌else◌}
use Rattle.std.specs.List.{list_all, cons_option}
use Rattle.std.specs.Option.{option_map, option_and_then}
use Rattle.std.proofs.lemmas.Bool.Decides.{nat_tests}
use Rattle.std.proofs.lemmas.Option.{none-some, same_Some}
use Rattle.feed_port.specs.Ports.{Ahead, IsDone}
use Rattle.hub_outside.specs.Doors.{Links, handed_out, given_back, HandsOut, GivesBack}
use Rattle.hub_outside.specs.declared.doors.DoorAnswer.TheVariants.{Link, End as DoorEnd}
use Rattle.poll_port.specs.Heads.{reply_in}
use Rattle.poll_port.specs.Polling.{has_polls}
use Rattle.poll_port.specs.Polls.{Ends}
use Rattle.poll_port.specs.Ports.{up_to, tells, reply_of, replies_of, ahead_at}

-- the messages ahead lost this one in front, if it is one
abbrev pub Loses : Option (List ℕ) → Ahead → Ahead → Type 0
Loses item None after = after ≡ None
Loses item (Some xs) None = ⊥
Loses item (Some xs) (Some ys) = xs ≡ cons_option item ys

-- ---- lists

first_ahead : {A : Type 0} (xs : List A) (x : A) → slice_get xs 0 ≡ Some x → xs ≡ x ∷ drop 1 xs
first_ahead [] x e = absurd (none-some x e)
first_ahead (y ∷ ys) x e = ap (λ z. z ∷ ys) (same_Some y x e)

and_first : (a b : Bool) → (a && b) ≡ true → a ≡ true
and_first true b e = refl
and_first false b e = absurd cc

and_second : (a b : Bool) → (a && b) ≡ true → b ≡ true
and_second true b e = e
and_second false b e = absurd cc

here_passes : {A : Type 0} (p : A → Bool) (xs : List A) (x : A) (ys : List A) → list_all p (xs ++ x ∷ ys) ≡ true → p x ≡ true
here_passes p [] x ys e = and_first (p x) (list_all p ys) e
here_passes p (y ∷ xs) x ys e = here_passes p xs x ys (and_second (p y) (list_all p (xs ++ x ∷ ys)) e)

same_passes : {A : Type 0} (p : A → Bool) (xs : List A) (x y : A) (ys : List A) → p y ≡ p x
    → list_all p ((xs ++ y ∷ []) ++ ys) ≡ list_all p (xs ++ x ∷ ys)
same_passes p [] x y ys e = ap (λ b. b && list_all p ys) e
same_passes p (z ∷ xs) x y ys e = ap (λ b. p z && b) (same_passes p xs x y ys e)

up_to_first : {A : Type 0} (polls : Option ℕ) (x : A) (xs : List A) → has_polls polls ≡ true
    → up_to polls (x ∷ xs) ≡ x ∷ up_to (option_map (λ n. n - 1) polls) xs
up_to_first None x xs allowed = refl
up_to_first (Some zero) x xs allowed = absurd cc
up_to_first (Some (suc n)) x xs allowed = let less : suc n - 1 ≡ n = omega arith in ap (λ m. x ∷ take m xs) (sym less)

up_to_none : {A : Type 0} (polls : Option ℕ) → up_to {A = A} polls [] ≡ []
up_to_none None = refl
up_to_none (Some zero) = refl
up_to_none (Some (suc n)) = refl

-- no further link may be taken
up_to_over : {A : Type 0} (polls : Option ℕ) (xs : List A) → has_polls polls ≡ false → up_to polls xs ≡ []
up_to_over None xs over = absurd cc
up_to_over (Some zero) xs over = refl
up_to_over (Some (suc n)) xs over = let some : nat_lt 0 (suc n) ≡ true = grind (arith, nat_tests) in absurd (true≢false (sym some ∙ over))

-- ---- one link

module _ {I O : Type 0} (seen : Ends I O) (input : I) (output : O) (input_left : I) (output_left : O) where
  -- what is found in a link that tells its bytes
  reply_here : (item : Option (List ℕ)) → IfSome (seen.left input) (λ bytes. reply_in bytes ≡ item) → tells seen (input, output) ≡ true
      → reply_of seen (input, output) ≡ item
  reply_here item = by (seen.left input)
    where
      by : (left : Option (List ℕ)) → IfSome left (λ bytes. reply_in bytes ≡ item) → is_some left ≡ true → reply_in (unwrap_or left []) ≡ item
      by None found told = absurd cc
      by (Some bytes) found told = found

  both : (item : Option (List ℕ)) (t u : Bool) (xs ys : List (List ℕ)) → u ≡ t → (t ≡ true → xs ≡ cons_option item ys)
      → Loses item (if t then Some xs else None) (if u then Some ys else None)
  both item true true xs ys e same = same refl
  both item true false xs ys e same = absurd cc
  both item false true xs ys e same = absurd cc
  both item false false xs ys e same = refl

  links_taken : (item : Option (List ℕ)) (polls : Option ℕ) (links : Links I O) → has_polls polls ≡ true → slice_get links.ahead 0 ≡ Some (input, output)
      → is_some (seen.left input_left) ≡ is_some (seen.left input) → IfSome (seen.left input) (λ bytes. reply_in bytes ≡ item)
      → Loses item (ahead_at seen polls links) (ahead_at seen (option_map (λ n. n - 1) polls) (given_back (handed_out links) input_left output_left))
  links_taken item polls links allowed first told found =
      let here : links.ahead ≡ (input, output) ∷ drop 1 links.ahead = first_ahead links.ahead (input, output) first in
      let rest = drop 1 links.ahead in
      subst (λ ahead. Loses item (if list_all (tells seen) (links.done ++ ahead) then Some (replies_of seen (up_to polls ahead)) else None)
      (ahead_at seen (option_map (λ n. n - 1) polls) (given_back (handed_out links) input_left output_left))) (sym here)
      (both item (list_all (tells seen) (links.done ++ (input, output) ∷ rest)) (list_all (tells seen) ((links.done ++ (input_left, output_left) ∷ []) ++ rest))
      (replies_of seen (up_to polls ((input, output) ∷ rest))) (replies_of seen (up_to (option_map (λ n. n - 1) polls) rest))
      (same_passes (tells seen) links.done (input, output) (input_left, output_left) rest told)
      (λ all. ap (replies_of seen) (up_to_first polls (input, output) rest allowed)
      ∙ ap (λ r. cons_option r (replies_of seen (up_to (option_map (λ n. n - 1) polls) rest)))
      (reply_here item found (here_passes (tells seen) links.done (input, output) rest all))))

  -- a link was taken, and no end of it failed
  pub link_taken : (item : Option (List ℕ)) (lost : Bool) (polls : Option ℕ) (links mid links' : Option (Links I O)) → has_polls polls ≡ true
      → HandsOut (Link input output) links mid → GivesBack input_left output_left mid links'
      → is_some (seen.left input_left) ≡ is_some (seen.left input) → IfSome (seen.left input) (λ bytes. reply_in bytes ≡ item)
      → Loses item (if lost then None else option_and_then (ahead_at seen polls) links)
      (if lost then None else option_and_then (ahead_at seen (option_map (λ n. n - 1) polls)) links')
  link_taken item true polls links mid links' allowed handed given told found = refl
  link_taken item false polls None mid links' allowed handed given told found =
      let gone : links' ≡ None = given ∙ ap (option_map (λ l. given_back l input_left output_left)) handed.1 in
      ap (option_and_then (ahead_at seen (option_map (λ n. n - 1) polls))) gone
  link_taken item false polls (Some links) mid links' allowed handed given told found =
      let is : links' ≡ Some (given_back (handed_out links) input_left output_left) =
      given ∙ ap (option_map (λ l. given_back l input_left output_left)) handed.1 in
      subst (λ ls. Loses item (ahead_at seen polls links) (option_and_then (ahead_at seen (option_map (λ n. n - 1) polls)) ls)) (sym is)
      (links_taken item polls links allowed handed.0 told found)

-- ---- no further poll

module _ {I O : Type 0} (seen : Ends I O) where
  none_by : (t : Bool) (xs : List (List ℕ)) → xs ≡ [] → IsDone (if t then Some xs else None)
  none_by true xs e = e
  none_by false xs e = tt

  -- no further link may be taken
  pub over_none : (lost : Bool) (polls : Option ℕ) (links : Option (Links I O)) → has_polls polls ≡ false
      → IsDone (if lost then None else option_and_then (ahead_at seen polls) links)
  over_none true polls links over = tt
  over_none false polls None over = tt
  over_none false polls (Some links) over =
      none_by (list_all (tells seen) (links.done ++ links.ahead)) (replies_of seen (up_to polls links.ahead)) (ap (replies_of seen) (up_to_over polls links.ahead over))

  -- the door ended
  pub ended_none : (lost : Bool) (polls : Option ℕ) (links links' : Option (Links I O)) → HandsOut DoorEnd links links'
      → IsDone (if lost then None else option_and_then (ahead_at seen polls) links)
  ended_none true polls links links' ends = tt
  ended_none false polls None links' ends = tt
  ended_none false polls (Some links) links' ends =
      none_by (list_all (tells seen) (links.done ++ links.ahead)) (replies_of seen (up_to polls links.ahead))
      (ap (λ ls. replies_of seen (up_to polls ls)) ends.0 ∙ ap (replies_of seen) (up_to_none polls))
