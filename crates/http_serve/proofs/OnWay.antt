-- Where a connection stands between two requests.
use Rattle.std.proofs.Common.{◌≡◌, ◌≢◌, ℕ, ◌+◌, ◌≤◌, false, List, [], ◌∷◌, ◌++◌, length, Option, IfSome, refl, sym, ap, ◌∙◌, subst, arith, length-append}
use Rattle.std.specs.Io.KnownBytes.{Consumes}
use Rattle.std.proofs.KnownBytes.{Consumes-nil, Consumes-trans}
use Rattle.http_defs.specs.declared.request.Item.{Item}
use Rattle.http_defs.specs.declared.request.Item.TheVariants.{Asked, Malformed}
use Rattle.http_defs.specs.Requests.{NoHead, is_last, last_place, Leads}
use Rattle.http_defs.proofs.RequestLaws.{leads_more, leads_push, leads_short, begins_more}
use Rattle.http_req.specs.Reading.{known}
use Rattle.http_serve.specs.declared.serving.Turn.TheVariants.{GoesOn}
use Rattle.http_serve.specs.Setting.{Setting}
use Rattle.http_serve.specs.Replies.{Reply, items_of, Begun, none_begun}
use Rattle.http_serve.specs.Notes.{Noted, noted}
use Rattle.http_serve.specs.Serves.{StandsFirst}
use Rattle.http_serve.specs.Turns.{Answers, TakesItem, Turns}
use Rattle.http_serve.proofs.Chains.{items_of-append, moments_of-append, numbers_of-append, length-items_of, answers_none, answers_on}

-- nothing is noted
abbrev pub nothing_noted : Noted
nothing_noted = record { numbers = []; moments = [] }

-- So many requests were answered that the next one has this place: their bytes and those that are
-- held were taken, none was the last, and their responses are written and noted.
pub record OnWay
    (place : ℕ) (held : List ℕ) (left now : Option (List ℕ)) (old new : Setting) (notes : Noted)
    : Type 0 where
  pub taken : List ℕ
  pub consumed : Consumes left now taken
  pub replies : List Reply
  pub leads : Leads 1 taken (items_of replies) held
  pub place_is : place ≡ 1 + length replies
  pub notes_are : notes ≡ noted nothing_noted replies
  pub answers : Answers 1 old new replies none_begun

-- before the first request
pub on_way_first : (held : List ℕ) (left : Option (List ℕ)) (a : Setting) (notes : Noted) → held ≡ [] → notes ≡ nothing_noted
    → OnWay 1 held left left a a notes
on_way_first held left a notes none empty = record {
  taken = [];
  consumed = Consumes-nil left;
  replies = [];
  leads = sym none;
  place_is = refl;
  notes_are = empty;
  answers = answers_none 1 a;
}

-- what is noted of some responses and then of others
pub noted_on : (rs qs : List Reply) (before after : Noted) → before ≡ noted nothing_noted rs → after ≡ noted before qs
    → after ≡ noted nothing_noted (rs ++ qs)
noted_on rs qs before after first then = grind (arith, numbers_of-append, moments_of-append)

-- the items with one more
pub items_push : (rs : List Reply) (r : Reply) (item : Item) → r.item ≡ item → items_of rs ++ item ∷ [] ≡ items_of (rs ++ r ∷ [])
items_push rs r item is = grind (arith, items_of-append)

-- the place behind some items
pub place_behind : (place : ℕ) (rs : List Reply) → place ≡ 1 + length rs → place ≡ 1 + length (items_of rs)
place_behind place rs is = is ∙ ap (λ n. 1 + n) (sym (length-items_of rs))

-- what was answered on the way, and then behind it
pub answers_behind : (place : ℕ) (a b c : Setting) (rs qs : List Reply) (begun : Begun) → place ≡ 1 + length rs
    → Answers 1 a b rs none_begun → Answers place b c qs begun → Answers 1 a c (rs ++ qs) begun
answers_behind place a b c rs qs begun is x y =
    answers_on 1 a b c rs qs begun x (subst (λ (n : ℕ). Answers n b c qs begun) is y)

-- a request that is not the last was answered
pub on_way_next : (place : ℕ) (held held' : List ℕ) (left now later : Option (List ℕ)) (a b c : Setting) (before after : Noted)
    → OnWay place held left now a b before → Turns place held held' now later b c before after GoesOn
    → OnWay (place + 1) held' left later a c after
on_way_next place held held' left now later a b c before after w t =
    let bytes = t.1.takes.0 in
    let reply = t.1.replied.reply in
    let at : place ≡ 1 + length (items_of w.replies) = place_behind place w.replies w.place_is in
    let goes : is_last (1 + length (items_of w.replies)) t.0 ≡ false =
    subst (λ (n : ℕ). is_last n t.0 ≡ false) at t.2
    in
    let pushed : Leads 1 (w.taken ++ bytes) (items_of w.replies ++ Asked t.0 ∷ []) held' =
    leads_push 1 (w.taken ++ bytes) (items_of w.replies) (held ++ bytes) t.0 held'
    (leads_more 1 w.taken bytes (items_of w.replies) held w.leads) t.1.takes.2 goes
    in
    record {
      taken = w.taken ++ bytes;
      consumed = Consumes-trans left now later w.taken bytes w.consumed t.1.takes.1;
      replies = w.replies ++ reply ∷ [];
      leads = subst (λ (items : List Item). Leads 1 (w.taken ++ bytes) items held')
          (items_push w.replies reply (Asked t.0) t.1.replied.answers_item) pushed;
      place_is = let is = w.place_is in let more = length-append w.replies (reply ∷ []) in omega arith;
      notes_are = noted_on w.replies (reply ∷ []) before after w.notes_are t.1.replied.is_noted;
      answers = answers_behind place a b c w.replies (reply ∷ []) none_begun w.place_is w.answers t.1.replied.answers;
    }

-- there is no place behind the last one
pub past_last : (place : ℕ) (held : List ℕ) (left now : Option (List ℕ)) (a b : Setting) (notes : Noted)
    → OnWay place held left now a b notes → place ≤ last_place
past_last place held left now a b notes w = grind (arith, place_behind, leads_short)

-- ---- the input

-- what was taken, and what is left, is what there was
pub input_told : (left now : Option (List ℕ)) (taken : List ℕ) → Consumes left now taken
    → IfSome left (λ bytes. taken ++ known now ≡ bytes)
input_told left now taken c = grind arith

-- an item that was taken stands first, whatever follows
pub stands_first : (bytes held : List ℕ) (left : Option (List ℕ)) (item : Item) → TakesItem bytes held left item
    → StandsFirst (bytes ++ known left) item
stands_first bytes held left (Asked r) t = (held ++ known left, begins_more bytes (known left) r held t)
stands_first bytes held left Malformed t =
    let whole : held ++ known left ≡ bytes ++ known left = ap (λ xs. xs ++ known left) t.0 in
    (some, subst (λ (xs : List ℕ). NoHead xs) whole t.2)
  where
    some_more : (xs ys : List ℕ) → xs ≢ [] → xs ++ ys ≢ []
    some_more [] ys s e = s refl
    some_more (x ∷ xs) ys s e = absurd cc

    some : bytes ++ known left ≢ []
    some = some_more bytes (known left) (subst (λ (xs : List ℕ). xs ≢ []) t.0 t.1)
