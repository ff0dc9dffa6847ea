-- How what is told of the files goes on from one step to the next.
use Rattle.std.proofs.Common.{◌≡◌, ℕ, refl, sym, ap, subst, List, ◌++◌, Option, Some, None, Result, Ok, Err, IsErrAnd}
use Rattle.std.specs.Option.{IfSome}
use Rattle.std.proofs.lemmas.List.{append_assoc}
use Rattle.std.proofs.lemmas.Option.{none-some}
use Rattle.answer_defs.specs.Steps.{◌>>=◌}
use Rattle.hub_load.specs.Told.{Stored, TellsFault, with_front}
use Rattle.hub_load.specs.declared.fault.HubFault.{HubFault}
use Rattle.hub_load.specs.declared.fault.HubFault.TheVariants.{Refused, FileFault, NoMemory}

-- what is told of files, where they are told
pub each_told : (o : Option Stored) (P Q : Stored → Type 0) → IfSome o P → ((fs : Stored) → P fs → Q fs) → IfSome o Q
each_told None P Q h f = tt
each_told (Some fs) P Q h f = f fs h

pub both_told : (o p : Option Stored) (P Q R : Stored → Type 0) → p ≡ o → IfSome o P → IfSome p Q → ((fs : Stored) → P fs → Q fs → R fs) → IfSome o R
both_told None p P Q R same h k f = tt
both_told (Some fs) p P Q R same h k f = f fs h (subst (λ (q : Option Stored). IfSome q Q) same k)

-- what `?` passes on
pub passed : {B : Type 0} (P : Result B HubFault → Type 0) (r : Result B HubFault) (e : HubFault) → IsErrAnd r (λ x. x ≡ e) → P (Err e) → P r
passed P (Ok x) e h p = absurd h
passed P (Err y) e h p = subst (λ z. P (Err z)) (sym h) p

-- a fault of the first step is one of all
pub told_first : {A B : Type 0} (first : Result A (List ℕ)) (next : A → Result B (List ℕ)) (fault : HubFault) → TellsFault first fault → TellsFault (first >>= next) fault
told_first first next FileFault h = tt
told_first first next NoMemory h = tt
told_first (Ok x) next (Refused line) h = absurd (none-some line.items h)
told_first (Err l) next (Refused line) h = h

-- ---- items behind others

pub front_twice : {A : Type 0} (old items : List A) (more : Result (List A) (List ℕ)) → with_front old (with_front items more) ≡ with_front (old ++ items) more
front_twice old items (Ok rest) = ap Ok (sym (append_assoc old items rest))
front_twice old items (Err l) = refl

-- a fault behind others is the same fault
pub told_behind : {A : Type 0} (front : List A) (told : Result (List A) (List ℕ)) (fault : HubFault) → TellsFault told fault → TellsFault (with_front front told) fault
told_behind front told fault h = told_first told (λ more. Ok (front ++ more)) fault h
