-- Steps of a replay.
use Rattle.std.proofs.Common.{◌≡◌, ℕ, zero, suc, ◌+◌, ◌-◌, ◌≤◌, ◌<◌, List, [], ◌∷◌, ◌++◌, length, take, drop, Option, Some, None, true, false, refl, sym, ap, ap₂, ◌∙◌, subst, arith, append-nil, append_assoc, length-drop, length-append, take-append-drop}
use Rattle.std.specs.Prelude.{slice_get, Err}
use Rattle.std.specs.Io.KnownBytes.{Appends, Consumes}
use Rattle.std.specs.Global.{Vec}
use Rattle.std.proofs.KnownBytes.{Consumes-nil, Consumes-trans, Appends-nil, Appends-trans}
use Rattle.std.proofs.lemmas.List.Elements.{All-append, All-nil}
use Rattle.std.proofs.lemmas.Option.{slice_get_past}
use Rattle.std.proofs.lemmas.List.{drop-append-le}
use Rattle.std.proofs.Math.Seq.{drop-append-add, take-append_seam}
use Rattle.feed_defs.specs.History.Refusal.{TooLong}
use Rattle.http_serve_defs.specs.Connections.{Served, IsServed}
use Rattle.hub_replay_defs.specs.Record.{Hub, turn, waits, reply_line, serving}
use Rattle.answer_defs.specs.Choices.{only_if}
use Rattle.hub_replay_defs.specs.Output.{Run, run, is_open, behind}
use Rattle.hub_replay_defs.proofs.Turns.{turn_rest}
use Rattle.hub_replay_defs.proofs.Opens.{open_none, open_step}
use Rattle.hub_replay_defs.proofs.Runs.{run_none, run_step, run_end, behind_behind}
use Rattle.hub_replay.specs.declared.steps.Ending.{Ending as HowEnded}
use Rattle.hub_replay.specs.declared.steps.Ending.TheVariants.{Ended, Refused, InputFault, OutputFault, NoMemory}
use Rattle.hub_replay.specs.Records.{Did, Ended as IsEnded, long_turn, is_fed}
use Rattle.script_lines.specs.Window.{Windowed, remaining}
use Rattle.hub_replay.specs.Steps.{At, at_serving, place_sum, Goes, Leaves, Advances, EndsAs, Keeps, Passes, RefusesLong}

-- an ending where nothing was printed since
pub leave_here : (ending : HowEnded) (old : At) (more sent unsent said : List ℕ) (left left' written written' : Option (List ℕ)) → Consumes left left' more → Appends written written' sent
    → old.said ≡ sent ++ unsent → Keeps ending unsent said → length more ≤ old.allowed
    → ((later : List Served) → EndsAs ending (at_serving later old) more [] left') → Leaves ending old said left left' written written'
leave_here ending old more sent unsent said left left' written written' read wrote says keeps allowed ends = record {
  more = more;
  sent = sent;
  told = [];
  unsent = unsent;
  read = read;
  wrote = wrote;
  says = append-nil old.said ∙ says;
  keeps = keeps;
  allowed = allowed;
  served = [];
  are_served = All-nil IsServed;
  front = λ later rest. ((run (serving later old.hub) (old.held ++ (more ++ rest))).out, refl);
  ends = ends;
}

-- no record stands in front
pub refused_here : (old : At) (more : List ℕ) (left' : Option (List ℕ)) → turn old.hub (old.held ++ (more ++ remaining left' (old.allowed - length more))) ≡ None → EndsAs (Refused old.place) old more [] left'
refused_here old more left' h = grind (arith, run_none)

-- no whole record stands in what was read, and what does waits for more
pub nothing_told : (old : At) (more : List ℕ) (left' : Option (List ℕ)) → turn old.hub (old.held ++ more) ≡ None → waits old.hub (old.held ++ more) ≡ true → EndsAs InputFault old more [] left'
nothing_told old more left' h waiting = grind (arith, run_none, open_none)

-- a record that was done, of so many bytes
abbrev IsDone : At → Hub → List ℕ → List ℕ → ℕ → Type 0
IsDone old hub reply left size = (more : List ℕ) → turn old.hub (old.held ++ more) ≡ Some (record { said = reply; hub = hub; rest = left ++ more; ended = false })

-- the run goes on behind a record that was done
done_runs : (old : At) (hub : Hub) (reply : List ℕ) (size : ℕ) → size ≤ length old.held
    → ((more : List ℕ) → turn old.hub (old.held ++ more) ≡ Some (record { said = reply; hub = hub; rest = drop size old.held ++ more; ended = false }))
    → (rest : List ℕ) → run old.hub (old.held ++ rest) ≡ behind reply size (run hub (drop size old.held ++ rest))
done_runs old hub reply size within is rest =
    let all = length-append old.held rest in
    let back = length-append (drop size old.held) rest in
    let short = length-drop size old.held in
    let count : length (old.held ++ rest) - length (drop size old.held ++ rest) ≡ size = omega arith in
    run_step old.hub (old.held ++ rest) _ (is rest) refl ∙ ap (λ (n : ℕ). behind reply n (run hub (drop size old.held ++ rest))) count

done_some : (old : At) (hub : Hub) (reply : List ℕ) (size : ℕ) → size ≤ length old.held
    → turn old.hub (old.held ++ []) ≡ Some (record { said = reply; hub = hub; rest = drop size old.held ++ []; ended = false }) → 0 < size
done_some old hub reply size within is =
    let shorter = turn_rest old.hub (old.held ++ []) _ is in
    let all = length-append old.held [] in
    let back = length-append (drop size old.held) [] in
    let short = length-drop size old.held in
    omega arith

-- a record was done, and some of what was said went out
pub whole_goes : (old new : At) (hub : Hub) (said sent : List ℕ) (size : ℕ) (left written written' : Option (List ℕ)) → Did (λ later more. turn (serving later old.hub) (old.held ++ more)) hub old.held old.said said size
    → new.hub ≡ hub → new.held ≡ drop size old.held → new.allowed ≡ old.allowed → new.place ≡ old.place + size → said ≡ sent ++ new.said → Appends written written' sent
    → Advances None old new left left written written'
whole_goes old new hub said sent size left written written' did hub_is held allowed place says wrote =
    let some = done_some (at_serving (did.served ++ []) old) (serving [] hub) did.reply size did.within (did.is [] []) in
    let short = length-drop size old.held in
    let shorter = ap length held in
    let gone : new.place - old.place ≡ size = omega arith in
    let within = did.within in
    let goes : Goes old new left left written written' = record {
      more = [];
      sent = sent;
      told = did.reply;
      read = Consumes-nil left;
      wrote = wrote;
      said = sym did.says ∙ says;
      allowed = omega arith;
      rises = omega arith;
      size = omega arith;
      served = did.served;
      are_served = did.are_served;
      runs = λ later rest. rw (gone, hub_is, held) (done_runs (at_serving (did.served ++ later) old) (serving later hub) did.reply size did.within (did.is later) rest);
      opens = λ later rest. rw (hub_is, held) (open_step (serving (did.served ++ later) old.hub) (old.held ++ rest) _ (did.is later rest) refl);
    } in
    (goes, omega arith)

-- a record was done, and the output failed
pub whole_leaves : (old : At) (hub : Hub) (said said' : List ℕ) (size n : ℕ) (left written written' : Option (List ℕ)) → Did (λ later more. turn (serving later old.hub) (old.held ++ more)) hub old.held old.said said size
    → Appends written written' (take n said) → Leaves OutputFault old said' left left written written'
whole_leaves old hub said said' size n left written written' did wrote = record {
  more = [];
  sent = take n said;
  told = did.reply;
  unsent = drop n said;
  read = Consumes-nil left;
  wrote = wrote;
  says = sym did.says ∙ sym (take-append-drop n said);
  keeps = tt;
  allowed = omega arith;
  served = did.served;
  are_served = did.are_served;
  front = λ later rest. (
    (run (serving later hub) (drop size old.held ++ rest)).out,
    ap (λ (r : Run). r.out) (done_runs (at_serving (did.served ++ later) old) (serving later hub) did.reply size did.within (did.is later) rest),
  );
  ends = λ later. tt;
}

-- nothing printed and nothing taken changes no run
behind_none : (n : ℕ) (r : Run) → n ≡ 0 → r ≡ behind [] n r
behind_none n r h = let same : n + r.taken ≡ r.taken = omega arith in ap (λ (k : ℕ). let s : Run = record { out = r.out; taken = k; ended = r.ended } in s) (sym same)

-- what was said went out, and more was read
pub fetch_goes : (old new : At) (more : List ℕ) (left left' written written' : Option (List ℕ)) → 0 < length more → new.held ≡ old.held ++ more → new.allowed + length more ≡ old.allowed → Consumes left left' more
    → new.hub ≡ old.hub → new.said ≡ [] → new.place ≡ old.place → Appends written written' old.said → Advances None old new left left' written written'
fetch_goes old new more left left' written written' some held allowed read hub said place wrote =
    let joined = length-append old.held more in
    let longer = ap length held in
    let same : new.place - old.place ≡ 0 = omega arith in
    let goes : Goes old new left left' written written' = record {
      more = more;
      sent = old.said;
      told = [];
      read = read;
      wrote = wrote;
      said = ap (λ s. old.said ++ s) (sym said);
      allowed = allowed;
      rises = omega arith;
      size = omega arith;
      served = [];
      are_served = All-nil IsServed;
      runs = λ later rest. ap (run (serving later old.hub)) (sym (append_assoc old.held more rest))
          ∙ rw (held, hub) (behind_none (new.place - old.place) (run (serving later old.hub) (old.held ++ more ++ rest)) same);
      opens = λ later rest. ap (is_open (serving later old.hub)) (sym (append_assoc old.held more rest)) ∙ rw (held, hub) refl;
    } in
    (goes, omega arith)

-- the script ends before the record in front is whole
pub end_refused : (old : At) (left' : Option (List ℕ)) (allowed : ℕ) → turn old.hub old.held ≡ None → allowed ≡ old.allowed → remaining left' allowed ≡ [] → EndsAs (Refused old.place) old [] [] left'
end_refused old left' allowed none same nothing =
    let all : old.allowed - length {A = ℕ} [] ≡ allowed = omega arith in
    let rest : remaining left' (old.allowed - length {A = ℕ} []) ≡ [] = ap (remaining left') all ∙ nothing in
    refused_here old [] left' (rw (rest, append-nil old.held) none)

pub none_in_hand : (old : At) → turn old.hub old.held ≡ None → turn old.hub (old.held ++ []) ≡ None
none_in_hand old h = rw (append-nil old.held) h

-- a message too long to be looked at, which isn't whole
long_short : (end count : ℕ) (hub : Hub) (bytes : List ℕ) → length bytes ≤ end → long_turn end count hub bytes ≡ None
long_short end count hub bytes h = rw (slice_get_past bytes end h) refl

abbrev pub IsLong : At → ℕ → ℕ → Type 0
IsLong old end count = (more : List ℕ) → turn old.hub (old.held ++ more) ≡ long_turn end count old.hub (old.held ++ more)

pub long_told : (old : At) (end count : ℕ) (more : List ℕ) → IsLong old end count → length (old.held ++ more) ≤ end → turn old.hub (old.held ++ more) ≡ None
long_told old end count more long short = long more ∙ long_short end count old.hub (old.held ++ more) short

pub long_end_refused : (old : At) (end count : ℕ) (more : List ℕ) (left' : Option (List ℕ)) (allowed : ℕ) → IsLong old end count → length (old.held ++ more) ≤ end → allowed + length more ≡ old.allowed
    → remaining left' allowed ≡ [] → EndsAs (Refused old.place) old more [] left'
long_end_refused old end count more left' allowed long short sum nothing =
    let all : old.allowed - length more ≡ allowed = omega arith in
    let rest : remaining left' (old.allowed - length more) ≡ [] = ap (remaining left') all ∙ nothing in
    refused_here old more left' (rw (rest, append-nil more) (long_told old end count more long short))

-- the bytes behind those that were let go, and what follows them
passed_all : (held more gone now rest : List ℕ) → held ++ more ≡ gone ++ now → held ++ (more ++ rest) ≡ gone ++ (now ++ rest)
passed_all held more gone now rest h = sym (append_assoc held more rest) ∙ ap (λ xs. xs ++ rest) h ∙ append_assoc gone now rest

get_first : (gone now rest : List ℕ) (end : ℕ) → length gone ≡ end → 0 < length now → slice_get (gone ++ (now ++ rest)) end ≡ slice_get now 0
get_first [] [] rest end e some = absurd (omega arith)
get_first [] (b ∷ now) rest end e some = let none : end ≡ 0 = omega arith in rw none refl
get_first (b ∷ gone) now rest zero e some = absurd (omega arith)
get_first (b ∷ gone) now rest (suc end) e some = get_first gone now rest end (omega arith) some

drop_first : (gone now rest : List ℕ) (end : ℕ) → length gone ≡ end → 0 < length now → drop (end + 1) (gone ++ (now ++ rest)) ≡ drop 1 now ++ rest
drop_first gone now rest end e some = grind (arith, drop-append-add, drop-append-le)

-- so of whatever connections are given
abbrev pub AlwaysLong : At → ℕ → ℕ → Type 0
AlwaysLong old end count = (later : List Served) → IsLong (at_serving later old) end count

abbrev window_at : Windowed → Hub → List ℕ → ℕ → At
window_at w hub said place = record { held = w.held; allowed = w.allowed; hub = hub; said = said; place = place }

-- what the record of a passed message is, whatever follows
long_is : (w w' : Windowed) (hub : Hub) (said more gone rest : List ℕ) (place end count : ℕ) (first : Option ℕ) → IsLong (window_at w hub said place) end count → w.held ++ more ≡ gone ++ w'.held → length gone ≡ end
    → 0 < length w'.held → slice_get w'.held 0 ≡ first
    → turn hub (w.held ++ (more ++ rest))
    ≡ only_if (is_fed first) (record { said = reply_line (Err (TooLong count)); hub = record hub { begun = true }; rest = drop 1 w'.held ++ rest; ended = false })
long_is w w' hub said more gone rest place end count first long all size some is =
    let xs = passed_all w.held more gone w'.held rest all in
    long (more ++ rest) ∙ rw (xs, get_first gone w'.held rest end size some, drop_first gone w'.held rest end size some, is) refl

long_goes : (w w' : Windowed) (hub : Hub) (said : List ℕ) (new : At) (place end count : ℕ) (left left' written written' : Option (List ℕ)) → AlwaysLong (window_at w hub said place) end count → Passes w w' left left' end
    → Appends written written' said → RefusesLong None end count (window_at w' hub [] place) new → Advances None (window_at w hub said place) new left left' written written'
long_goes w w' hub said new place end count left left' written written' long p wrote (first, says, hub_is, held, allowed, place_is) =
    let joined = length-append w.held p.more in
    let both = length-append p.gone w'.held in
    let same = ap length p.all in
    let long_gone = p.size in
    let some = p.some in
    let sum = p.allowed in
    let shorter = length-drop 1 w'.held in
    let short = ap length held in
    let size : new.place - place ≡ end + 1 = omega arith in
    let is : (later : List Served) (rest : List ℕ) → turn (serving later hub) (w.held ++ (p.more ++ rest))
    ≡ Some (record { said = reply_line (Err (TooLong count)); hub = record (serving later hub) { begun = true }; rest = drop 1 w'.held ++ rest; ended = false }) =
    λ later rest. long_is w w' (serving later hub) said p.more p.gone rest place end count (Some 10) (long later) p.all p.size p.some first in
    let taken : (rest : List ℕ) → length (w.held ++ (p.more ++ rest)) - length (drop 1 w'.held ++ rest) ≡ end + 1 =
    λ rest. let a = length-append w.held (p.more ++ rest) in let b = length-append p.more rest in let c = length-append (drop 1 w'.held) rest in omega arith in
    let goes : Goes (window_at w hub said place) new left left' written written' = record {
      more = p.more;
      sent = said;
      told = reply_line (Err (TooLong count));
      read = p.read;
      wrote = wrote;
      said = ap (λ s. said ++ s) (sym says);
      allowed = omega arith;
      rises = omega arith;
      size = omega arith;
      served = [];
      are_served = All-nil IsServed;
      runs = λ later rest. run_step (serving later hub) (w.held ++ (p.more ++ rest)) _ (is later rest) refl ∙ rw (taken rest, size, hub_is, held) refl;
      opens = λ later rest. open_step (serving later hub) (w.held ++ (p.more ++ rest)) _ (is later rest) refl ∙ rw (hub_is, held) refl;
    } in
    (goes, omega arith)

long_refused : (w w' : Windowed) (hub : Hub) (said said' : List ℕ) (place end count : ℕ) (left left' written written' : Option (List ℕ)) → AlwaysLong (window_at w hub said place) end count → Passes w w' left left' end
    → Appends written written' said → said' ≡ [] → is_fed (slice_get w'.held 0) ≡ false → Leaves (Refused place) (window_at w hub said place) said' left left' written written'
long_refused w w' hub said said' place end count left left' written written' long p wrote empty other =
    let sum = p.allowed in
    let none : (later : List Served) → turn (serving later hub) (w.held ++ (p.more ++ remaining left' (w.allowed - length p.more))) ≡ None =
    λ later. long_is w w' (serving later hub) said p.more p.gone (remaining left' (w.allowed - length p.more)) place end count (slice_get w'.held 0) (long later) p.all p.size p.some refl
    ∙ rw other refl in
    leave_here (Refused place) (window_at w hub said place) p.more said [] said' left left' written written' p.read wrote (sym (append-nil said)) (sym empty) (omega arith)
    (λ later. refused_here (window_at w (serving later hub) said place) p.more left' (none later))

-- a message that was passed is refused, or it is no record
pub long_advances : (r : Option HowEnded) (w w' : Windowed) (hub : Hub) (said : List ℕ) (new : At) (place end count : ℕ) (left left' written written' : Option (List ℕ)) → AlwaysLong (window_at w hub said place) end count
    → Passes w w' left left' end → Appends written written' said → RefusesLong r end count (window_at w' hub [] place) new → Advances r (window_at w hub said place) new left left' written written'
long_advances None w w' hub said new place end count left left' written written' long p wrote h = long_goes w w' hub said new place end count left left' written written' long p wrote h
long_advances (Some Ended) w w' hub said new place end count left left' written written' long p wrote h = absurd h
long_advances (Some (Refused at)) w w' hub said new place end count left left' written written' long p wrote (place_is, says, allowed, other) =
    subst (λ n. Leaves (Refused n) (window_at w hub said place) new.said left left' written written') (sym place_is)
    (long_refused w w' hub said new.said place end count left left' written written' long p wrote says other)
long_advances (Some InputFault) w w' hub said new place end count left left' written written' long p wrote h = absurd h
long_advances (Some OutputFault) w w' hub said new place end count left left' written written' long p wrote h = absurd h
long_advances (Some NoMemory) w w' hub said new place end count left left' written written' long p wrote (says, allowed) =
    let sum = p.allowed in
    leave_here NoMemory (window_at w hub said place) p.more said [] new.said left left' written written' p.read wrote (sym (append-nil said)) (sym says) (omega arith) (λ later. tt)

pub long_advances_from : (r : Option HowEnded) (w w' : Windowed) (hub : Hub) (said emptied : List ℕ) (new : At) (place end count : ℕ) (left left' written written' : Option (List ℕ)) → AlwaysLong (window_at w hub said place) end count
    → Passes w w' left left' end → Appends written written' said → emptied ≡ [] → RefusesLong r end count (window_at w' hub emptied place) new → Advances r (window_at w hub said place) new left left' written written'
long_advances_from r w w' hub said emptied new place end count left left' written written' long p wrote none h =
    long_advances r w w' hub said new place end count left left' written written' long p wrote (subst (λ (s : List ℕ). RefusesLong r end count (window_at w' hub s place) new) none h)

-- a step from a replay that is as before is a step from it
pub advances_same : (r : Option HowEnded) (w : Windowed) (hub hub' : Hub) (said said' : List ℕ) (place : ℕ) (new : At) (left left' written written' : Option (List ℕ)) → hub' ≡ hub → said' ≡ said
    → Advances r (window_at w hub' said' place) new left left' written written' → Advances r (window_at w hub said place) new left left' written written'
advances_same r w hub hub' said said' place new left left' written written' e f h = grind arith

-- no record stands in front, whatever follows
pub refused_leaves : (old : At) (said' : List ℕ) (left written : Option (List ℕ)) → ((later : List Served) (more : List ℕ) → turn (serving later old.hub) (old.held ++ more) ≡ None)
    → said' ≡ old.said → Leaves (Refused old.place) old said' left left written written
refused_leaves old said' left written none says =
    leave_here (Refused old.place) old [] [] old.said said' left left written written (Consumes-nil left) (Appends-nil written) refl (sym says) (omega arith)
    (λ later. refused_here (at_serving later old) [] left (none later (remaining left (old.allowed - length {A = ℕ} []))))

-- memory ran out in the midst of a record
pub no_memory_leaves : (old : At) (said' : List ℕ) (left written : Option (List ℕ)) → said' ≡ old.said → Leaves NoMemory old said' left left written written
no_memory_leaves old said' left written says = leave_here NoMemory old [] [] old.said said' left left written written (Consumes-nil left) (Appends-nil written) refl (sym says) (omega arith) (λ later. tt)

-- the record in front ends the script
pub ended_leaves : (old : At) (new : Hub) (said' : List ℕ) (left written : Option (List ℕ)) → IsEnded (λ later more. turn (serving later old.hub) (old.held ++ more)) old.hub new old.said said' → Leaves Ended old said' left left written written
ended_leaves old new said' left written e =
    leave_here Ended old [] [] old.said said' left left written written (Consumes-nil left) (Appends-nil written) refl (sym e.says) (omega arith)
    (λ later rest. (length (old.held ++ rest) - length (e.rest rest), run_end (serving later old.hub) (old.held ++ rest) _ (e.is later rest) refl))

-- what was said before, behind which something was said
pub said_before : (said extra : List ℕ) (said' : List ℕ) → said' ≡ said ++ extra → take (length said) said' ≡ said
said_before said extra said' h = ap (take (length said)) h ∙ take-append_seam said extra

pub vec_is_long : (v : Vec ℕ) → v.len ≡ length v.items
vec_is_long v = v.ok.0

pub goes_none : (old : At) (left written : Option (List ℕ)) → Goes old old left left written written
goes_none old left written =
    let same : old.place - old.place ≡ 0 = omega arith in
    record {
      more = [];
      sent = [];
      told = [];
      read = Consumes-nil left;
      wrote = Appends-nil written;
      said = append-nil old.said;
      allowed = omega arith;
      rises = omega arith;
      size = omega arith;
      served = [];
      are_served = All-nil IsServed;
      runs = λ later rest. behind_none (old.place - old.place) (run (serving later old.hub) (old.held ++ rest)) same;
      opens = λ later rest. refl;
    }

-- what is said over two steps
said_joined : (a b d told told' sent sent' : List ℕ) → a ++ told ≡ sent ++ b → b ++ told' ≡ sent' ++ d → a ++ (told ++ told') ≡ (sent ++ sent') ++ d
said_joined a b d told told' sent sent' p q = grind (arith, append_assoc)

-- one step after another
pub goes_on : (a b d : At) (left left' left'' written written' written'' : Option (List ℕ)) → Goes a b left left' written written' → Goes b d left' left'' written' written'' → Goes a d left left'' written written''
goes_on a b d left left' left'' written written' written'' p q =
    let joined = length-append p.more q.more in
    let allowed1 = p.allowed in
    let allowed2 = q.allowed in
    let rises1 = p.rises in
    let rises2 = q.rises in
    let size1 = p.size in
    let size2 = q.size in
    let places : (b.place - a.place) + (d.place - b.place) ≡ d.place - a.place = omega arith in
    record {
      more = p.more ++ q.more;
      sent = p.sent ++ q.sent;
      told = p.told ++ q.told;
      read = Consumes-trans left left' left'' p.more q.more p.read q.read;
      wrote = Appends-trans written written' written'' p.sent q.sent p.wrote q.wrote;
      said = said_joined a.said b.said d.said p.told q.told p.sent q.sent p.said q.said;
      allowed = omega arith;
      rises = omega arith;
      size = omega arith;
      served = p.served ++ q.served;
      are_served = All-append IsServed p.served q.served p.are_served q.are_served;
      runs = λ later rest.
          ap₂ (λ (ss : List Served) (xs : List ℕ). run (serving ss a.hub) (a.held ++ xs)) (append_assoc p.served q.served later) (append_assoc p.more q.more rest)
          ∙ p.runs (q.served ++ later) (q.more ++ rest) ∙ ap (behind p.told (b.place - a.place)) (q.runs later rest)
          ∙ behind_behind p.told q.told (b.place - a.place) (d.place - b.place) (run (serving later d.hub) (d.held ++ rest))
          ∙ ap (λ (n : ℕ). behind (p.told ++ q.told) n (run (serving later d.hub) (d.held ++ rest))) places;
      opens = λ later rest.
          ap₂ (λ (ss : List Served) (xs : List ℕ). is_open (serving ss a.hub) (a.held ++ xs)) (append_assoc p.served q.served later) (append_assoc p.more q.more rest)
          ∙ p.opens (q.served ++ later) (q.more ++ rest) ∙ q.opens later rest;
    }

-- how a run that ends later ends
ends_later : (ending : HowEnded) (a b : At) (left left' written written' left'' : Option (List ℕ)) (more told : List ℕ) (later : List Served) → (p : Goes a b left left' written written')
    → length more ≤ b.allowed → EndsAs ending (at_serving later b) more told left''
    → EndsAs ending (at_serving (p.served ++ later) a) (p.more ++ more) (p.told ++ told) left''
ends_later Ended a b left left' written written' left'' more told later p few h = λ rest. (
  (b.place - a.place) + (h rest).0,
  ap (λ xs. run (serving (p.served ++ later) a.hub) (a.held ++ xs)) (append_assoc p.more more rest) ∙ p.runs later (more ++ rest) ∙ ap (behind p.told (b.place - a.place)) (h rest).1,
)
ends_later (Refused place) a b left left' written written' left'' more told later p few h =
    grind (arith, length-append, append_assoc)
ends_later InputFault a b left left' written written' left'' more told later p few h = grind arith
ends_later OutputFault a b left left' written written' left'' more told later p few h = tt
ends_later NoMemory a b left left' written written' left'' more told later p few h = tt

-- an ending after some steps
pub leaves_later : (ending : HowEnded) (a b : At) (said : List ℕ) (left left' left'' written written' written'' : Option (List ℕ)) → Goes a b left left' written written' → Leaves ending b said left' left'' written' written''
    → Leaves ending a said left left'' written written''
leaves_later ending a b said left left' left'' written written' written'' p q =
    let joined = length-append p.more q.more in
    let allowed1 = p.allowed in
    let allowed2 = q.allowed in
    record {
      more = p.more ++ q.more;
      sent = p.sent ++ q.sent;
      told = p.told ++ q.told;
      unsent = q.unsent;
      read = Consumes-trans left left' left'' p.more q.more p.read q.read;
      wrote = Appends-trans written written' written'' p.sent q.sent p.wrote q.wrote;
      says = said_joined a.said b.said q.unsent p.told q.told p.sent q.sent p.said q.says;
      keeps = q.keeps;
      allowed = omega arith;
      served = p.served ++ q.served;
      are_served = All-append IsServed p.served q.served p.are_served q.are_served;
      front = λ later rest. (
        (q.front later rest).0,
        ap₂ (λ (ss : List Served) (xs : List ℕ). (run (serving ss a.hub) (a.held ++ xs)).out) (append_assoc p.served q.served later) (append_assoc p.more q.more rest)
            ∙ ap (λ (r : Run). r.out) (p.runs (q.served ++ later) (q.more ++ rest)) ∙ ap (λ xs. p.told ++ xs) (q.front later rest).1
            ∙ sym (append_assoc p.told q.told (q.front later rest).0),
      );
      ends = λ later.
          subst (λ (ss : List Served). EndsAs ending (at_serving ss a) (p.more ++ q.more) (p.told ++ q.told) left'') (sym (append_assoc p.served q.served later))
          (ends_later ending a b left left' written written' left'' q.more q.told (q.served ++ later) p q.allowed (q.ends later));
    }

-- the bytes of the script that are to come, in hand and done stay as many
pub sum_stays : (a b : At) (left left' written written' : Option (List ℕ)) → Goes a b left left' written written' → place_sum b ≡ place_sum a
sum_stays a b left left' written written' p = let size = p.size in let allowed = p.allowed in omega arith
