-- How a connection ends.
use Rattle.std.proofs.Common.{◌≡◌, ℕ, ◌+◌, ◌≤◌, ◌<◌, Bool, true, List, [], ◌∷◌, ◌++◌, length, take, Option, Err, refl, sym, ap, ap₂, ◌∙◌, subst, arith, append-nil}
use Rattle.std.specs.Bool.{MatchBool}
use Rattle.std.specs.Io.KnownBytes.{Consumes, IsAtEnd}
use Rattle.std.proofs.KnownBytes.{Consumes-nil, Consumes-trans}
use Rattle.sched_types.specs.Schedules.{Schedules}
use Rattle.feed_defs.specs.declared.history.Entry.{Entry}
use Rattle.board_parts.specs.Looks.{GoesOn}
use Rattle.delta_defs.specs.Kept.{KeptView}
use Rattle.hub_outside.proofs.Rising.{rose_later}
use Rattle.http_defs.specs.declared.request.Request.{Request}
use Rattle.http_defs.specs.declared.request.Item.{Item}
use Rattle.http_defs.specs.declared.request.Item.TheVariants.{Asked, Malformed}
use Rattle.http_defs.specs.Requests.{NoHead, Begins, is_last, AreRequests, Leads, Finish, ended, closed, bad}
use Rattle.http_defs.proofs.RequestLaws.{leads_more, leads_on, begins_more}
use Rattle.http_req.specs.Reading.{known}
use Rattle.http_serve.specs.declared.session.End.{End}
use Rattle.http_serve.specs.declared.session.End.TheVariants.{Ended, Closed, Bad, ReadFault, WriteFault, NoMemory}
use Rattle.http_serve.specs.declared.serving.Turn.TheVariants.{Ends}
use Rattle.http_serve.specs.Setting.{Setting}
use Rattle.http_serve.specs.Replies.{Reply, items_of, numbers_of, kept_behind, reply_bytes, Begun, none_begun}
use Rattle.http_serve.specs.Notes.{Noted, noted}
use Rattle.http_serve.specs.Serves.{StandsFirst, AreAnswered, WasCut, WasStarved, IsBegun, HasEndCause, Serves}
use Rattle.http_serve.specs.Turns.{Answers, IsCut, TakesItem, TakesNext, ItemAnswered, Turns}
use Rattle.http_serve.proofs.Chains.{answers_none, kept_then}
use Rattle.http_serve.proofs.OnWay.{OnWay, nothing_noted, on_way_first, noted_on, items_push, place_behind, answers_behind, input_told, stands_first}

-- ---- what is known at each end

-- what was answered in all, and why it ended
record Came (left later : Option (List ℕ)) (a c : Setting) (end : End) (after : Noted) : Type 0 where
  taken : List ℕ
  consumed : Consumes left later taken
  replies : List Reply
  notes_are : after ≡ noted nothing_noted replies
  begun : Begun
  is_begun : IsBegun a.plans c.history (kept_behind a.plans c.history a.kept (numbers_of replies)) (taken ++ known later) (items_of replies) begun end
  answers : Answers 1 a c replies begun
  answered : AreAnswered (taken ++ known later) taken (items_of replies) end

serves : (left later : Option (List ℕ)) (faults faults' : ℕ) (a c : Setting) (end : End) (after : Noted)
    → Came left later a c end after → HasEndCause end faults faults' a.write_faults c.write_faults
    → Serves left later faults faults' a c end after.numbers after.moments
serves left later faults faults' a c end after w cause = grind (arith, input_told)

-- ---- the items

-- what was taken before, and in the last turn, and is left: the items so far lead to the bytes held
leads_to : (taken bytes more held : List ℕ) (items : List Item) → Leads 1 taken items held
    → Leads 1 ((taken ++ bytes) ++ more) items ((held ++ bytes) ++ more)
leads_to taken bytes more held items l = grind (arith, leads_more)

at_true : (test : Bool) (P Q : Type 0) → test ≡ true → P → MatchBool test P Q
at_true test P Q e p = grind arith

-- the last request
last_request : (place : ℕ) (bytes held more : List ℕ) (r : Request) → Begins bytes r held → is_last place r ≡ true
    → AreRequests place (bytes ++ more) (Asked r ∷ []) closed
last_request place bytes held more r b last =
    (held ++ more, begins_more bytes more r held b, at_true (is_last place r) _ _ last (refl, refl))

-- what is no request
no_request : (place : ℕ) (bytes held : List ℕ) (left : Option (List ℕ)) → TakesItem bytes held left Malformed
    → AreRequests place (bytes ++ known left) (Malformed ∷ []) bad
no_request place bytes held left t =
    let first = stands_first bytes held left Malformed t in (first.0, first.1, refl, refl)

-- one item more, the last of the input
all_answered : (place : ℕ) (taken bytes more held : List ℕ) (rs : List Reply) (r : Reply) (item : Item) (finish : Finish)
    → place ≡ 1 + length rs → Leads 1 taken (items_of rs) held → r.item ≡ item
    → AreRequests place ((held ++ bytes) ++ more) (item ∷ []) finish
    → AreRequests 1 ((taken ++ bytes) ++ more) (items_of (rs ++ r ∷ [])) finish
all_answered place taken bytes more held rs r item finish at l is last =
    subst (λ (items : List Item). AreRequests 1 ((taken ++ bytes) ++ more) items finish) (items_push rs r item is)
    (leads_on 1 ((taken ++ bytes) ++ more) (items_of rs) ((held ++ bytes) ++ more) (item ∷ []) finish
    (leads_to taken bytes more held (items_of rs) l)
    (subst (λ (n : ℕ). AreRequests n ((held ++ bytes) ++ more) (item ∷ []) finish) (place_behind place rs at) last))

-- ---- the ends

-- the last item was answered
came_whole : (place : ℕ) (held held' : List ℕ) (left now later : Option (List ℕ)) (a b c : Setting) (before after : Noted) (item : Item)
    (end : End) (w : OnWay place held left now a b before) (t : ItemAnswered place held held' now later b c before after item)
    → IsBegun a.plans c.history (kept_behind a.plans c.history a.kept (numbers_of (w.replies ++ t.replied.reply ∷ [])))
    ((w.taken ++ t.takes.0) ++ known later) (items_of (w.replies ++ t.replied.reply ∷ [])) none_begun end
    → AreAnswered ((w.taken ++ t.takes.0) ++ known later) (w.taken ++ t.takes.0) (items_of (w.replies ++ t.replied.reply ∷ [])) end
    → Came left later a c end after
came_whole place held held' left now later a b c before after item end w t begun answered = record {
  taken = w.taken ++ t.takes.0;
  consumed = Consumes-trans left now later w.taken t.takes.0 w.consumed t.takes.1;
  replies = w.replies ++ t.replied.reply ∷ [];
  notes_are = noted_on w.replies (t.replied.reply ∷ []) before after w.notes_are t.replied.is_noted;
  begun = none_begun;
  is_begun = begun;
  answers = answers_behind place a b c w.replies (t.replied.reply ∷ []) none_begun w.place_is w.answers t.replied.answers;
  answered = answered;
}

-- no item was answered in the last turn
came_short : (place : ℕ) (bytes : List ℕ) (held : List ℕ) (left now later : Option (List ℕ)) (a b c : Setting) (before after : Noted)
    (begun : Begun) (end : End) (w : OnWay place held left now a b before) → Consumes now later bytes
    → Answers place b c [] begun → after ≡ before
    → IsBegun a.plans c.history (kept_behind a.plans c.history a.kept (numbers_of w.replies)) ((w.taken ++ bytes) ++ known later) (items_of w.replies) begun end
    → AreAnswered ((w.taken ++ bytes) ++ known later) (w.taken ++ bytes) (items_of w.replies) end
    → Came left later a c end after
came_short place bytes held left now later a b c before after begun end w read answers same is answered = record {
  taken = w.taken ++ bytes;
  consumed = Consumes-trans left now later w.taken bytes w.consumed read;
  replies = w.replies;
  notes_are = same ∙ w.notes_are;
  begun = begun;
  is_begun = is;
  answers = subst (λ (rs : List Reply). Answers 1 a c rs begun) (append-nil w.replies)
      (answers_behind place a b c w.replies [] begun w.place_is w.answers answers);
  answered = answered;
}

none_left : (left : Option (List ℕ)) → IsAtEnd left → known left ≡ []
none_left left e = grind arith

-- nothing is left at the end of the input
nothing_more : (place : ℕ) (held taken : List ℕ) (left : Option (List ℕ)) (items : List Item) → held ≡ [] → IsAtEnd left
    → Leads 1 taken items held → AreRequests 1 ((taken ++ []) ++ known left) items ended
nothing_more place held taken left items none over l =
    let rest : (held ++ []) ++ known left ≡ [] =
    ap₂ (λ (xs ys : List ℕ). (xs ++ []) ++ ys) none (none_left left over)
    in
    subst (λ (all : List Item). AreRequests 1 ((taken ++ []) ++ known left) all ended) (append-nil items)
    (leads_on 1 ((taken ++ []) ++ known left) items ((held ++ []) ++ known left) [] ended
    (leads_to taken [] (known left) held items l) (rest, refl))

-- the response that was cut is that of the next item
was_cut : (place : ℕ) (bytes held held' : List ℕ) (left now later : Option (List ℕ)) (a b c : Setting) (before : Noted) (item : Item)
    (begun : Begun) (w : OnWay place held left now a b before) → GoesOn b.history c.history → TakesItem (held ++ bytes) held' later item
    → IsCut place b c item begun
    → WasCut a.plans c.history (kept_behind a.plans c.history a.kept (numbers_of w.replies)) ((w.taken ++ bytes) ++ known later) (items_of w.replies) begun
was_cut place bytes held held' left now later a b c before item begun w goes takes cut =
    let at : place ≡ length (items_of w.replies) + 1 =
    let behind = place_behind place w.replies w.place_is in omega arith
    in
    let views = kept_behind a.plans c.history a.kept (numbers_of w.replies) in
    let same : reply_bytes b.plans c.history b.kept place cut.reply
    ≡ reply_bytes a.plans c.history views (length (items_of w.replies) + 1) cut.reply =
    ap₂ (λ (plans : Schedules) (n : ℕ). reply_bytes plans c.history b.kept n cut.reply) w.answers.hub.plans_stay at
    ∙ ap (λ (kept : List KeptView). reply_bytes a.plans c.history kept (length (items_of w.replies) + 1) cut.reply)
    (kept_then 1 a b c.history w.replies w.answers goes)
    in
    record {
      reply = cut.reply;
      next = (
        (held ++ bytes) ++ known later,
        leads_to w.taken bytes (known later) held (items_of w.replies) w.leads,
        subst (λ (i : Item). StandsFirst ((held ++ bytes) ++ known later) i) (sym cut.answers_item)
            (stands_first (held ++ bytes) held' later item takes),
      );
      number = cut.number;
      reading = cut.reading;
      one_look = cut.one_look;
      seen = cut.seen;
      size = cut.size;
      short = subst (λ (xs : List ℕ). cut.size < length xs) same cut.short;
      written = cut.written ∙ ap (take cut.size) same;
    }

came : (end : End) (place : ℕ) (held held' : List ℕ) (left now later : Option (List ℕ)) (a b c : Setting) (before after : Noted)
    → OnWay place held left now a b before → Turns place held held' now later b c before after (Ends end)
    → Came left later a c end after
came Ended place held held' left now later a b c before after w t =
    let same : Answers place b c [] none_begun =
    subst (λ (s : Setting). Answers place b s [] none_begun) (sym t.1) (answers_none place b)
    in
    came_short place [] held left now later a b c before after none_begun Ended w t.0.2 same t.2 refl
    (nothing_more place held w.taken later (items_of w.replies) t.0.0 t.0.3 w.leads)
came Closed place held held' left now later a b c before after w t =
    came_whole place held held' left now later a b c before after (Asked t.0) Closed w t.1 refl
    (all_answered place w.taken t.1.takes.0 (known later) held w.replies t.1.replied.reply (Asked t.0) closed w.place_is w.leads
    t.1.replied.answers_item (last_request place (held ++ t.1.takes.0) held' (known later) t.0 t.1.takes.2 t.2))
came Bad place held held' left now later a b c before after w t =
    came_whole place held held' left now later a b c before after Malformed Bad w t refl
    (all_answered place w.taken t.takes.0 (known later) held w.replies t.replied.reply Malformed bad w.place_is w.leads
    t.replied.answers_item (no_request place (held ++ t.takes.0) held' later t.takes.2))
came ReadFault place held held' left now later a b c before after w t =
    let same : Answers place b c [] none_begun =
    subst (λ (s : Setting). Answers place b s [] none_begun) (sym t.1) (answers_none place b)
    in
    came_short place t.0.0 held left now later a b c before after none_begun ReadFault w t.0.1 same t.2 refl
    (held ++ t.0.0, leads_more 1 w.taken t.0.0 (items_of w.replies) held w.leads, subst (λ (xs : List ℕ). NoHead xs) t.0.2 t.0.3)
came WriteFault place held held' left now later a b c before after w t =
    came_short place t.1.0 held left now later a b c before after t.2 WriteFault w t.1.1 t.4 t.5
    (was_cut place t.1.0 held held' left now later a b c before t.0 t.2 w t.4.hub.history_goes_on t.1.2 t.3)
    ((held ++ t.1.0) ++ known later, leads_to w.taken t.1.0 (known later) held (items_of w.replies) w.leads)
came NoMemory place held held' left now later a b c before after w t =
    came_short place t.0 held left now later a b c before after t.2 NoMemory w t.1 t.4 t.5 t.3
    ((held ++ t.0) ++ known later, leads_to w.taken t.0 (known later) held (items_of w.replies) w.leads)

-- ---- causes

pub cause_later : (end : End) (f0 f1 f2 w0 w1 w2 : ℕ) → f0 ≤ f1 → w0 ≤ w1 → HasEndCause end f1 f2 w1 w2 → HasEndCause end f0 f2 w0 w2
cause_later end f0 f1 f2 w0 w1 w2 f w c = grind (arith, rose_later)

-- a connection that ended by a turn
pub ended_by : (end : End) (place : ℕ) (held held' : List ℕ) (left now later : Option (List ℕ)) (f0 f1 f2 : ℕ) (a b c : Setting)
    (before after : Noted) → OnWay place held left now a b before → Turns place held held' now later b c before after (Ends end)
    → f0 ≤ f1 → a.write_faults ≤ b.write_faults → HasEndCause end f1 f2 b.write_faults c.write_faults
    → Serves left later f0 f2 a c end after.numbers after.moments
ended_by end place held held' left now later f0 f1 f2 a b c before after w t f wf cause =
    serves left later f0 f2 a c end after (came end place held held' left now later a b c before after w t)
    (cause_later end f0 f1 f2 a.write_faults b.write_faults c.write_faults f wf cause)

-- no response was begun
pub starved_at_rest : (history : List Entry) → WasStarved history none_begun
starved_at_rest history = grind arith

-- a connection for which there was no memory at all
pub unserved : (left : Option (List ℕ)) (faults : ℕ) (a : Setting) → Serves left left faults faults a a NoMemory [] []
unserved left faults a =
    ended_by NoMemory 1 [] [] left left left faults faults faults a a a nothing_noted nothing_noted
    (on_way_first [] left a nothing_noted refl refl)
    ([], Consumes-nil left, none_begun, starved_at_rest a.history, answers_none 1 a, refl)
    (omega arith) (omega arith) (omega arith, omega arith)

-- what no item was taken for comes to
pub untaken : (end : End) (place : ℕ) (held held' : List ℕ) (left later : Option (List ℕ)) (a : Setting) (before : Noted)
    → TakesNext held held' left later (Err end) → Turns place held held' left later a a before before (Ends end)
untaken Ended place held held' left later a before t = (t, refl, refl)
untaken ReadFault place held held' left later a before t = (t, refl, refl)
untaken NoMemory place held held' left later a before t =
    (t.0, t.1, none_begun, starved_at_rest a.history, answers_none place a, refl)
untaken Closed place held held' left later a before t = absurd t
untaken Bad place held held' left later a before t = absurd t
untaken WriteFault place held held' left later a before t = absurd t

-- the same session under other names
pub serves_as : (left later : Option (List ℕ)) (f f' : ℕ) (a c : Setting) (end end' : End) (ns ns' ms ms' : List ℕ)
    → Serves left later f f' a c end ns ms → end' ≡ end → ns' ≡ ns → ms' ≡ ms → Serves left later f f' a c end' ns' ms'
serves_as left later f f' a c end end' ns ns' ms ms' s is_end is_ns is_ms = grind arith
