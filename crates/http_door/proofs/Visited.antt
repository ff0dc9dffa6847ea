-- Where serving a door stands between two links.
use Rattle.std.proofs.Common.{◌≡◌, ℕ, ◌+◌, ◌≤◌, List, [], ◌∷◌, ◌++◌, length, drop, slice_get, Option, None, Some, IfSome, refl, sym, ap, ◌∙◌, subst, arith, append-nil, append_assoc, zero-add}
use Rattle.std.specs.Option.{option_map}
use Rattle.std.specs.List.{sum_by}
use Rattle.std.proofs.lemmas.List.{map-append, length-append}
use Rattle.std.proofs.lemmas.List.Sums.{sum_by-append}
use Rattle.std.proofs.lemmas.Option.{none-some, same_Some}
use Rattle.hub_outside.specs.Count.{Rose}
use Rattle.hub_outside.specs.declared.doors.DoorAnswer.TheVariants.{Link, End}
use Rattle.hub_outside.specs.Doors.{Links, handed_out, given_back, HandsOut, MayGiveBack, GivesBack}
use Rattle.hub_outside.proofs.Rising.{rose_later}
use Rattle.http_serve.specs.Views.{AreOfHistory}
use Rattle.http_door.specs.declared.report.DoorEnd.TheVariants.{Ended, Failed as DoorFailed}
use Rattle.http_door.specs.declared.report.DoorReport.{DoorReport}
use Rattle.http_door.specs.Visits.{Ends, Hub, Visit, IsServed, AreServed}
use Rattle.http_door.specs.Doors.{taken, returned, LinksMoved, Moved, capped, starved_once, responses_in, starved_in, Counts, ServesDoor}

-- the links so far were served and given back, and the count of faults did not fall
pub record Visited
    {I O : Type 0} (seen : Ends I O) (links links' : Option (Links I O)) (faults faults' : ℕ)
    (old new : Hub) (report : DoorReport) : Type 0 where
  pub visits : List (Visit I O)
  pub moved : Moved links links' visits
  pub served : AreServed seen old new visits
  pub counts : Counts report visits
  pub later : faults ≤ faults'
  pub of_history : AreOfHistory new.plans new.history new.kept

-- ---- links

none_moved : {I O : Type 0} (links : Option (Links I O)) → Moved links links []
none_moved None = refl
none_moved (Some l) = record { ahead = refl; done = sym (append-nil l.done); out = refl }

first_ahead : {A : Type 0} (xs : List A) (x : A) → slice_get xs 0 ≡ Some x → xs ≡ x ∷ drop 1 xs
first_ahead [] x e = absurd (none-some x e)
first_ahead (y ∷ ys) x e = ap (λ z. z ∷ ys) (same_Some y x e)

-- one link more was handed out and given back
links_on : {I O : Type 0} (old now : Links I O) (vs : List (Visit I O)) (v : Visit I O) → LinksMoved old now vs
    → slice_get now.ahead 0 ≡ Some (v.input, v.output)
    → LinksMoved old (given_back (handed_out now) v.input_left v.output_left) (vs ++ v ∷ [])
links_on {I = I} {O = O} old now vs v m first = record {
  ahead = m.ahead ∙ ap (λ xs. taken vs ++ xs) (first_ahead now.ahead (v.input, v.output) first)
      ∙ sym (append_assoc (taken vs) ((v.input, v.output) ∷ []) (drop 1 now.ahead))
      ∙ ap (λ xs. xs ++ drop 1 now.ahead) (sym (map-append (λ (w : Visit I O). (w.input, w.output)) vs (v ∷ [])));
  done = ap (λ xs. xs ++ (v.input_left, v.output_left) ∷ []) m.done
      ∙ append_assoc old.done (returned vs) ((v.input_left, v.output_left) ∷ [])
      ∙ ap (λ xs. old.done ++ xs) (sym (map-append (λ (w : Visit I O). (w.input_left, w.output_left)) vs (v ∷ [])));
  out = let same = m.out in omega (arith, same);
}

moved_on : {I O : Type 0} (links now mid later : Option (Links I O)) (vs : List (Visit I O)) (v : Visit I O) → Moved links now vs
    → HandsOut (Link v.input v.output) now mid → GivesBack v.input_left v.output_left mid later → Moved links later (vs ++ v ∷ [])
moved_on None now mid later vs v m hands gives =
    gives ∙ ap (option_map (λ l. given_back l v.input_left v.output_left)) (hands.1 ∙ ap (option_map handed_out) m)
moved_on (Some old) None mid later vs v m hands gives = absurd m
moved_on (Some old) (Some now) mid later vs v m hands gives =
    let is : later ≡ Some (given_back (handed_out now) v.input_left v.output_left) =
    gives ∙ ap (option_map (λ l. given_back l v.input_left v.output_left)) hands.1 in
    subst (λ l. Moved (Some old) l (vs ++ v ∷ [])) (sym is) (links_on old now vs v m hands.0)

-- a link that was handed out may be given back
pub may_give_back : {I O : Type 0} (input : I) (output : O) (now mid : Option (Links I O)) → HandsOut (Link input output) now mid → MayGiveBack mid
may_give_back input output None mid hands = subst (λ l. MayGiveBack l) (sym hands.1) tt
may_give_back input output (Some l) mid hands = subst (λ l. MayGiveBack l) (sym hands.1) (omega arith)

-- ---- sessions

served_on : {I O : Type 0} (seen : Ends I O) (old now new : Hub) (vs : List (Visit I O)) (v : Visit I O) → AreServed seen old now vs
    → IsServed seen now new v → AreServed seen old new (vs ++ v ∷ [])
served_on seen old now new [] v same s = (new, subst (λ h. IsServed seen h new v) same s, refl)
served_on seen old now new (w ∷ ws) v served s =
    (served.0, served.1, served_on seen served.0 now new ws v served.2 s)

-- ---- numbers

capped_on : (n k : ℕ) → capped (capped n + k) ≡ capped (n + k)
capped_on n k = omega arith

-- a sum with one item more
sum_on : {A : Type 0} (f : A → ℕ) (xs : List A) (x : A) → sum_by f (xs ++ x ∷ []) ≡ sum_by f xs + f x
sum_on f xs x = sum_by-append f xs (x ∷ []) ∙ ap (λ n. sum_by f xs + n) (zero-add (f x))

none_yet : 0 ≡ capped 0
none_yet = omega arith

counts_on : {I O : Type 0} (before after : DoorReport) (vs : List (Visit I O)) (v : Visit I O) → Counts before vs
    → after.connections ≡ capped (before.connections + 1) → after.responses ≡ capped (before.responses + length v.numbers)
    → after.starved ≡ capped (before.starved + starved_once v.end) → Counts after (vs ++ v ∷ [])
counts_on {I = I} {O = O} before after vs v c connections responses starved = record {
  connections = connections ∙ ap (λ n. capped (n + 1)) c.connections ∙ capped_on (length vs) 1
      ∙ ap capped (sym (length-append vs (v ∷ [])));
  responses = responses ∙ ap (λ n. capped (n + length v.numbers)) c.responses ∙ capped_on (responses_in vs) (length v.numbers)
      ∙ ap capped (sym (sum_on (λ (w : Visit I O). length w.numbers) vs v));
  starved = starved ∙ ap (λ n. capped (n + starved_once v.end)) c.starved ∙ capped_on (starved_in vs) (starved_once v.end)
      ∙ ap capped (sym (sum_on (λ (w : Visit I O). starved_once w.end) vs v));
}

-- ---- the way

pub begins : {I O : Type 0} (seen : Ends I O) (links : Option (Links I O)) (faults : ℕ) (h : Hub) (report : DoorReport)
    → AreOfHistory h.plans h.history h.kept → report.connections ≡ 0 → report.responses ≡ 0 → report.starved ≡ 0
    → Visited seen links links faults faults h h report
begins seen links faults h report kept connections responses starved = record {
  visits = [];
  moved = none_moved links;
  served = refl;
  counts = record { connections = connections ∙ none_yet; responses = responses ∙ none_yet; starved = starved ∙ none_yet };
  later = omega arith;
  of_history = kept;
}

-- one link more was handed out, served and given back
pub goes_on : {I O : Type 0} (seen : Ends I O) (links now mid later : Option (Links I O)) (f0 f1 f2 f3 : ℕ) (old at new : Hub)
    (before after : DoorReport) (v : Visit I O) → Visited seen links now f0 f1 old at before
    → HandsOut (Link v.input v.output) now mid → f1 ≤ f2 → IsServed seen at new v → AreOfHistory new.plans new.history new.kept
    → GivesBack v.input_left v.output_left mid later → f2 ≤ f3
    → after.connections ≡ capped (before.connections + 1) → after.responses ≡ capped (before.responses + length v.numbers)
    → after.starved ≡ capped (before.starved + starved_once v.end) → Visited seen links later f0 f3 old new after
goes_on seen links now mid later f0 f1 f2 f3 old at new before after v w hands up served kept gives back connections responses starved = record {
  visits = w.visits ++ v ∷ [];
  moved = moved_on links now mid later w.visits v w.moved hands gives;
  served = served_on seen old at new w.visits v w.served served;
  counts = counts_on before after w.visits v w.counts connections responses starved;
  later = let so_far = w.later in omega (arith, so_far, up, back);
  of_history = kept;
}

-- the door ended
pub ends : {I O : Type 0} (seen : Ends I O) (links now later : Option (Links I O)) (f0 f1 f2 : ℕ) (old new : Hub) (report : DoorReport)
    → Visited seen links now f0 f1 old new report → HandsOut End now later → f1 ≤ f2
    → ServesDoor seen links later f0 f2 old new (record report { end = Ended })
ends seen links now later f0 f1 f2 old new report w hands up = record {
  visits = w.visits;
  moved = subst (λ l. Moved links l w.visits) (sym hands.1) w.moved;
  served = w.served;
  counts = record { connections = w.counts.connections; responses = w.counts.responses; starved = w.counts.starved };
  ends_so = (subst (λ l. IfSome l (λ ls. ls.ahead ≡ [])) (sym hands.1) hands.0, let so_far = w.later in omega (arith, so_far, up));
}

-- the door failed
pub fails : {I O : Type 0} (seen : Ends I O) (links now later : Option (Links I O)) (f0 f1 f2 : ℕ) (old new : Hub) (report : DoorReport)
    → Visited seen links now f0 f1 old new report → later ≡ now → Rose f1 f2
    → ServesDoor seen links later f0 f2 old new (record report { end = DoorFailed })
fails seen links now later f0 f1 f2 old new report w same rose = record {
  visits = w.visits;
  moved = subst (λ l. Moved links l w.visits) (sym same) w.moved;
  served = w.served;
  counts = record { connections = w.counts.connections; responses = w.counts.responses; starved = w.counts.starved };
  ends_so = rose_later f0 f1 f2 w.later rose;
}
