-- From the ending of a replay to the outcome of the command.
use Rattle.std.proofs.Common.{◌≡◌, ℕ, ◌+◌, ◌-◌, ◌≤◌, List, [], ◌++◌, length, take, Option, Some, IfSome, Bool, true, false, refl, sym, ap, ◌∙◌, subst, arith, inl, inr, append-nil, append_assoc}
use Rattle.std.specs.Prelude.{unwrap_or, min, ◌⊎◌}
use Rattle.std.specs.Io.KnownBytes.{Appends, Consumes}
use Rattle.std.proofs.KnownBytes.{Appends-nil, Appends-trans, Consumes-nil}
use Rattle.std.proofs.lemmas.List.{take-append-le, take_min}
use Rattle.std.proofs.Math.Seq.{take-append-add, take-append_seam}
use Rattle.hub_outside.specs.Count.{Rose}
use Rattle.hub_outside.proofs.Rising.{rose_later, rose_before}
use Rattle.http_serve_defs.specs.Connections.{Served}
use Rattle.hub_replay_defs.specs.Record.{Hub}
use Rattle.hub_replay_defs.specs.Output.{Run, Output, run, output_of, replayed, longest_script, refused_line, fault_line}
use Rattle.hub_replay.specs.declared.steps.Ending.{Ending}
use Rattle.hub_replay.specs.declared.steps.Ending.TheVariants.{Ended, Refused, InputFault, OutputFault, NoMemory}
use Rattle.script_lines.specs.Window.{remaining}
use Rattle.hub_replay.specs.Steps.{At, at_first, at_serving, EndsAs, HasCause, Keeps, Leaves}
use Rattle.hub_replay.specs.Outcome.{IsScript, IsUnfinished, IsCut, Outcome, Finishes, fault_output, output_of_script, IsWhole}

-- what is told of the script is told of all that the input had
pub script_told : (left left' : Option (List ℕ)) (script : List ℕ) (P : List ℕ → Type 0) → IsScript left left' script → P script → IfSome left P
script_told left left' script P s h = grind arith

-- the front of a list and what of its end is within
take_over : (n : ℕ) (front back : List ℕ) → length front ≤ n → take n (front ++ back) ≡ front ++ take (n - length front) back
take_over n front back h = let sum : length front + (n - length front) ≡ n = omega arith in subst (λ k. take k (front ++ back) ≡ front ++ take (n - length front) back) sum (take-append-add front back (n - length front))

-- the front of a front
take_front : (n : ℕ) (front back : List ℕ) → take n front ≡ take (min n (length front)) (front ++ back)
take_front n front back = let few : min n (length front) ≤ length front = omega arith in sym (take_min n front) ∙ sym (take-append-le (min n (length front)) front back few)

written_from : (r : Run) (test : Bool) → r.ended ≡ test → (later : List ℕ) × ((output_of r).written ≡ r.out ++ later)
written_from r true h = ([], rw h (sym (append-nil r.out)))
written_from r false h = (refused_line r.taken, rw h refl)

-- what a run prints is the front of its output
written_front : (r : Run) (told later : List ℕ) → r.out ≡ told ++ later → (more : List ℕ) × ((output_of r).written ≡ told ++ more)
written_front r told later h =
    let w = written_from r r.ended refl in
    (later ++ w.0, w.1 ∙ ap (λ xs. xs ++ w.0) h ∙ append_assoc told later w.0)

-- from a replay to its ending, on a hub to which all connections are given
pub record LeavesOn (ending : Ending) (old : At) (said : List ℕ) (left left' written written' : Option (List ℕ)) : Type 0 where
  pub more : List ℕ
  pub sent : List ℕ
  pub told : List ℕ
  pub unsent : List ℕ
  pub read : Consumes left left' more
  pub wrote : Appends written written' sent
  pub says : old.said ++ told ≡ sent ++ unsent
  pub keeps : Keeps ending unsent said
  pub allowed : length more ≤ old.allowed
  pub front : (rest : List ℕ) → (later : List ℕ) × ((run old.hub (old.held ++ (more ++ rest))).out ≡ told ++ later)
  pub ends : EndsAs ending old more told left'

pub leaves_on : (ending : Ending) (old : At) (said : List ℕ) (left left' written written' : Option (List ℕ)) (p : Leaves ending old said left left' written written')
    → (later : List Served) → LeavesOn ending (at_serving (p.served ++ later) old) said left left' written written'
leaves_on ending old said left left' written written' p later = grind arith

-- the facts of an ending that its outcome takes
pub record Told (hub : Hub) (left left' written written' : Option (List ℕ)) (told sent : List ℕ) (script : List ℕ) : Type 0 where
  pub is_script : IsScript left left' script
  pub wrote : Appends written written' sent
  pub later : List ℕ
  pub front : (output_of_script hub script).written ≡ told ++ later

module _ (hub : Hub) (result : ℕ) (left left' written written' written'' : Option (List ℕ)) (input input' out out' out'' : ℕ) (inputs : input ≤ input') (outs : out ≤ out') (outs' : out' ≤ out'') where
  abbrev Ends : Type 0
  Ends = Outcome hub (output_of_script hub) result left left' written written'' input input' out out''

  done : (status : ℕ) → (status ≡ 0) ⊎ (status ≡ 7) → result ≡ status
      → IfSome left (λ script. Appends written written'' (output_of_script hub script).written × (result ≡ (output_of_script hub script).status)) → Ends
  done status kind is whole = grind arith

  input_failed : result ≡ 4 → Rose input input' × ((taken : List ℕ) × IsUnfinished hub left left' taken × Appends written written'' (fault_output hub taken)) → Ends
  input_failed is h = grind arith

  output_failed : result ≡ 5 → Rose out out'' × IsCut hub (output_of_script hub) left left' written written'' input input' → Ends
  output_failed is h = grind arith

  out_of_memory : result ≡ 6 → (script : List ℕ) × IsScript left left' script × ((n : ℕ) × Appends written written'' (take n (output_of_script hub script).written)) → Ends
  out_of_memory is h = grind arith

  -- what was written first, and the rest of what is told
  joined : (told sent unsent line : List ℕ) → told ≡ sent ++ unsent → Appends written written' sent → Appends written' written'' (unsent ++ line) → Appends written written'' (told ++ line)
  joined told sent unsent line says first last = grind (arith, append_assoc, Appends-trans)

  cut : (told sent unsent line : List ℕ) (n : ℕ) → told ≡ sent ++ unsent → Appends written written' sent → Appends written' written'' (take n (unsent ++ line)) → Appends written written'' (take (length sent + n) (told ++ line))
  cut told sent unsent line n says first last =
      grind (arith, take-append-add, append_assoc, Appends-trans)

  -- the output failed in the midst of what is defined
  cut_within : (script told line : List ℕ) (m : ℕ) → Rose out out'' → IsScript left left' script → (more : List ℕ) → (output_of_script hub script).written ≡ told ++ line ++ more → Appends written written'' (take m (told ++ line)) → result ≡ 5 → Ends
  cut_within script told line m rose is more front wrote e =
      let whole = take_front m (told ++ line) more in
      let same : take m (told ++ line) ≡ take (min m (length (told ++ line))) (output_of_script hub script).written =
      whole ∙ ap (take (min m (length (told ++ line)))) (sym front) in
      output_failed e (rose, inl (script, is, (min m (length (told ++ line)), subst (Appends written written'') same wrote)))

  -- memory ran out behind what is told
  short_of : (script told : List ℕ) → IsScript left left' script → (more : List ℕ) → (output_of_script hub script).written ≡ told ++ more → Appends written written'' told → result ≡ 6 → Ends
  short_of script told is more front wrote e =
      let same : told ≡ take (length told) (output_of_script hub script).written = sym (take-append_seam told more) ∙ ap (take (length told)) (sym front) in
      out_of_memory e (script, is, (length told, subst (Appends written written'') same wrote))

  abbrev Leaving : Ending → List ℕ → Type 0
  Leaving ending said = LeavesOn ending (at_first hub) said left left' written written'

  abbrev script_of : (ending : Ending) (said : List ℕ) → Leaving ending said → List ℕ
  script_of ending said p = p.more ++ unwrap_or left' []

  abbrev rest_of : (ending : Ending) (said : List ℕ) → Leaving ending said → List ℕ
  rest_of ending said p = remaining left' (longest_script - length p.more)

  is_script_of : (ending : Ending) (said : List ℕ) (p : Leaving ending said) → IsScript left left' (script_of ending said p)
  is_script_of ending said p = record { taken = p.more; read = p.read; within = p.allowed; all = refl }

  defined_of : (ending : Ending) (said : List ℕ) (p : Leaving ending said) → output_of_script hub (script_of ending said p) ≡ output_of (run hub (p.more ++ rest_of ending said p))
  defined_of ending said p = ap (λ xs. output_of (run hub xs)) (take_over longest_script p.more (unwrap_or left' []) p.allowed)

  front_of : (ending : Ending) (said : List ℕ) (p : Leaving ending said) → (later : List ℕ) × ((output_of_script hub (script_of ending said p)).written ≡ p.told ++ later)
  front_of ending said p =
      let rest = rest_of ending said p in
      let w = written_front (run hub (p.more ++ rest)) p.told (p.front rest).0 (p.front rest).1 in
      (w.0, ap (λ (o : Output). o.written) (defined_of ending said p) ∙ w.1)

  from_unsent : (unsent said line : List ℕ) → unsent ≡ said → Appends written' written'' (said ++ line) → Appends written' written'' (unsent ++ line)
  from_unsent unsent said line e h = subst (λ s. Appends written' written'' (s ++ line)) (sym e) h

  cut_unsent : (unsent said line : List ℕ) (n : ℕ) → unsent ≡ said → Appends written' written'' (take n (said ++ line)) → Appends written' written'' (take n (unsent ++ line))
  cut_unsent unsent said line n e h = subst (λ s. Appends written' written'' (take n (s ++ line))) (sym e) h

  -- the whole of what is defined was written
  whole_of : (ending : Ending) (said line : List ℕ) (status : ℕ) → (status ≡ 0) ⊎ (status ≡ 7) → (p : Leaving ending said) → p.unsent ≡ said → output_of_script hub (script_of ending said p) ≡ record { written = p.told ++ line; status = status }
      → result ≡ status → Appends written' written'' (said ++ line) → Ends
  whole_of ending said line status which p keeps is e wrote =
      let all = joined p.told p.sent p.unsent line p.says p.wrote (from_unsent p.unsent said line keeps wrote) in
      let P : List ℕ → Type 0 = λ script. Appends written written'' (output_of_script hub script).written × (result ≡ (output_of_script hub script).status) in
      done status which e (script_told left left' (script_of ending said p) P (is_script_of ending said p) (rw is (all, e)))

  -- the output failed in the midst of the last bytes
  cut_of : (ending : Ending) (said line later : List ℕ) → (p : Leaving ending said) → p.unsent ≡ said → (output_of_script hub (script_of ending said p)).written ≡ p.told ++ line ++ later
      → result ≡ 5 → Rose out' out'' → (n : ℕ) → Appends written' written'' (take n (said ++ line)) → Ends
  cut_of ending said line later p keeps front e rose n wrote =
      cut_within (script_of ending said p) p.told line (length p.sent + n) (rose_later out out' out'' outs rose) (is_script_of ending said p) later front
      (cut p.told p.sent p.unsent line n p.says p.wrote (cut_unsent p.unsent said line n keeps wrote)) e

  -- memory ran out behind what is told
  short_here : (ending : Ending) (said : List ℕ) → (p : Leaving ending said) → p.unsent ≡ said → result ≡ 6 → Appends written' written'' (said ++ []) → Ends
  short_here ending said p keeps e wrote =
      let front = front_of ending said p in
      let all = joined p.told p.sent p.unsent [] p.says p.wrote (from_unsent p.unsent said [] keeps wrote) in
      short_of (script_of ending said p) p.told (is_script_of ending said p) front.0 front.1 (subst (Appends written written'') (append-nil p.told) all) e

  cut_here : (ending : Ending) (said : List ℕ) → (p : Leaving ending said) → p.unsent ≡ said → result ≡ 5 → Rose out' out'' → (n : ℕ) → Appends written' written'' (take n (said ++ [])) → Ends
  cut_here ending said p keeps e rose n wrote =
      let front = front_of ending said p in
      let nothing : p.told ++ [] ≡ p.told = append-nil p.told in
      cut_of ending said [] front.0 p keeps (front.1 ∙ ap (λ xs. xs ++ front.0) (sym nothing)) e rose n wrote

  refused_outcome : (place : ℕ) (said : List ℕ) (p : Leaving (Refused place) said) → output_of_script hub (script_of (Refused place) said p) ≡ record { written = p.told ++ refused_line place; status = 7 }
      → Finishes (Refused place) result said written' written'' out' out'' → Ends
  refused_outcome place said p is (inl (count, inl (e, wrote))) = whole_of (Refused place) said (refused_line place) 7 (inr refl) p p.keeps is e wrote
  refused_outcome place said p is (inl (count, inr (e, rose, (n, wrote)))) =
      cut_of (Refused place) said (refused_line place) [] p p.keeps (ap (λ (o : Output). o.written) is ∙ sym (append-nil (p.told ++ refused_line place))) e rose n wrote
  refused_outcome place said p is (inr (count, inl (e, wrote))) = short_here (Refused place) said p p.keeps e wrote
  refused_outcome place said p is (inr (count, inr (e, rose, (n, wrote)))) = cut_here (Refused place) said p p.keeps e rose n wrote

  -- the input failed in the midst of the script
  unfinished : (said : List ℕ) (p : Leaving InputFault said) → IsUnfinished hub left left' p.more
  unfinished said p = record { read = p.read; within = p.allowed; goes_on = p.ends.1 }

  -- the outcome of a replay
  pub outcome : (ending : Ending) (said : List ℕ) → Leaving ending said → HasCause (Some ending) input input' out out' → Finishes ending result said written' written'' out' out'' → Ends
  outcome Ended said p cause (count, inl (e, wrote)) =
      let whole = p.ends (rest_of Ended said p) in
      let is : output_of_script hub (script_of Ended said p) ≡ record { written = p.told ++ []; status = 0 } =
      defined_of Ended said p ∙ ap output_of whole.1 ∙ ap (λ (xs : List ℕ). let o : Output = record { written = xs; status = 0 } in o) (sym (append-nil p.told)) in
      whole_of Ended said [] 0 (inl refl) p p.keeps is e wrote
  outcome Ended said p cause (count, inr (e, rose, (n, wrote))) = cut_here Ended said p p.keeps e rose n wrote
  outcome (Refused place) said p cause h =
      let whole = p.ends.1 in
      let exact : place - 0 ≡ place = omega arith in
      let is : output_of_script hub (script_of (Refused place) said p) ≡ record { written = p.told ++ refused_line place; status = 7 } =
      defined_of (Refused place) said p ∙ ap output_of whole ∙ ap (λ (n : ℕ). let o : Output = record { written = p.told ++ refused_line n; status = 7 } in o) exact in
      refused_outcome place said p is h
  outcome InputFault said p cause (count, inl (e, wrote)) =
      grind (arith, joined, from_unsent, input_failed, unfinished)
  outcome InputFault said p cause (count, inr (e, rose, (n, wrote))) =
      let part = cut p.told p.sent p.unsent fault_line n p.says p.wrote (cut_unsent p.unsent said fault_line n p.keeps wrote) in
      output_failed e (
        rose_later out out' out'' outs rose,
        inr (cause.2, (p.more, unfinished said p, (length p.sent + n, subst (λ xs. Appends written written'' (take (length p.sent + n) (xs ++ fault_line))) (sym p.ends.0) part))),
      )
  outcome OutputFault said p cause (e, count, wrote) =
      let front = front_of OutputFault said p in
      let rose : Rose out out'' = rose_before out out' out'' cause.2 outs' in
      let sent_is : p.sent ++ [] ≡ take (length p.sent) (p.told ++ []) =
      append-nil p.sent ∙ sym (take-append_seam p.sent p.unsent) ∙ ap (take (length p.sent)) (sym p.says ∙ sym (append-nil p.told)) in
      cut_within (script_of OutputFault said p) p.told [] (length p.sent) rose (is_script_of OutputFault said p) front.0 (front.1 ∙ ap (λ xs. xs ++ front.0) (sym (append-nil p.told)))
      (subst (Appends written written'') sent_is (Appends-trans written written' written'' p.sent [] p.wrote wrote)) e
  outcome NoMemory said p cause (count, inl (e, wrote)) = short_here NoMemory said p p.keeps e wrote
  outcome NoMemory said p cause (count, inr (e, rose, (n, wrote))) = cut_here NoMemory said p p.keeps e rose n wrote

-- no count falls at an ending
pub finishes_count : (ending : Ending) (result : ℕ) (said : List ℕ) (written written' : Option (List ℕ)) (out out' : ℕ) → Finishes ending result said written written' out out' → out ≤ out'
finishes_count ending result said written written' out out' h = grind arith

whole_given : (f g : List ℕ → Output) → ((script : List ℕ) → f script ≡ g script) → (status : ℕ) (left written written' : Option (List ℕ)) → IsWhole f status left written written' → IsWhole g status left written written'
whole_given f g same status left written written' h = grind arith

cut_given : (hub : Hub) (f g : List ℕ → Output) → ((script : List ℕ) → f script ≡ g script) → (left left' written written' : Option (List ℕ)) (input input' : ℕ) → IsCut hub f left left' written written' input input' → IsCut hub g left left' written written' input input'
cut_given hub f g same left left' written written' input input' cut = grind arith

-- an outcome, by another word for what is defined
outcome_given : (hub : Hub) (f g : List ℕ → Output) → ((script : List ℕ) → f script ≡ g script) → (status : ℕ) (left left' written written' : Option (List ℕ)) (input input' out out' : ℕ)
    → Outcome hub f status left left' written written' input input' out out' → Outcome hub g status left left' written written' input input' out out'
outcome_given hub f g same status left left' written written' input input' out out' o =
    grind (arith, whole_given, cut_given)

replayed_is : (hub : Hub) (script : List ℕ) → output_of_script hub script ≡ replayed hub script
unfolding replayed
replayed_is hub script = refl

-- the outcome in the word of the definition
pub replay_outcome : (hub : Hub) (status : ℕ) (left left' written written' : Option (List ℕ)) (input input' out out' : ℕ) → Outcome hub (output_of_script hub) status left left' written written' input input' out out'
    → Outcome hub (replayed hub) status left left' written written' input input' out out'
replay_outcome hub status left left' written written' input input' out out' o =
    outcome_given hub (output_of_script hub) (replayed hub) (replayed_is hub) status left left' written written' input input' out out' o

-- memory ran out before anything was done
pub nothing_done : (hub : Hub) (left written : Option (List ℕ)) (input out : ℕ) → Outcome hub (replayed hub) 6 left left written written input input out out
nothing_done hub left written input out = record {
  is_status = inr (inr (inr (inl refl)));
  whole = elim [ inl e ↦ absurd (omega arith) | inr e ↦ absurd (omega arith) ];
  input_fault = λ e. absurd (omega arith);
  output_fault = λ e. absurd (omega arith);
  no_memory = λ _. (unwrap_or left [], record { taken = []; read = Consumes-nil left; within = omega arith; all = refl }, (0, Appends-nil written));
  input_count = omega arith;
  output_count = omega arith;
}
