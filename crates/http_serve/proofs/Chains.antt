-- What is done for one response, and then for others, is done for all of them.
use Rattle.std.proofs.Common.{◌≡◌, ◌==◌, ℕ, ◌+◌, ◌≤◌, List, [], ◌∷◌, ◌++◌, length, take, Option, refl, sym, ap, ap₂, ◌∙◌, subst, arith, append_assoc, append-nil, length-append, add-zero}
use Rattle.std.specs.Option.{option_map}
use Rattle.std.specs.Io.KnownBytes.{Appends}
use Rattle.std.proofs.KnownBytes.{Appends-nil, Appends-trans}
use Rattle.std.proofs.lemmas.List.{take-append-le}
use Rattle.std.proofs.Math.Seq.{take-length}
use Rattle.feed_defs.specs.declared.history.Entry.{Entry}
use Rattle.sched_types.specs.Schedules.{Schedules}
use Rattle.hub_outside.specs.Clock.{after_reading}
use Rattle.board_parts.specs.Looks.{GoesOn}
use Rattle.board_defs.specs.Fold.{fold_of}
use Rattle.delta_defs.specs.Kept.{KeptView}
use Rattle.http_defs.specs.declared.request.Item.{Item}
use Rattle.http_defs.specs.Requests.{last_place}
use Rattle.http_serve_defs.specs.Answers.{answer}
use Rattle.http_serve_defs.specs.Connections.{kept_with}
use Rattle.http_serve.specs.Setting.{Setting, HubGoesOn, Readings, NeverFall}
use Rattle.http_serve.specs.Replies.{Reply, items_of, moments_of, numbers_of, kept_at, kept_behind, reply_bytes, replies_bytes, Begun, none_begun}
use Rattle.http_serve.specs.Turns.{Answers}

-- ---- the hub

-- a history is not shorter than one with which it begins
pub goes_on_longer : (old new : List Entry) → GoesOn old new → length old ≤ length new
goes_on_longer old new g = omega (arith, length-append old g.more, ap length g.is)

pub hub_stays : (a : Setting) → HubGoesOn a a
hub_stays a = grind (arith, append-nil)

pub hub_on : (a b c : Setting) → HubGoesOn a b → HubGoesOn b c → HubGoesOn a c
hub_on a b c x y = grind (arith, append_assoc)

-- ---- readings and numbers

readings_on : (a b c : Option (List ℕ)) (xs ys : List ℕ) → Readings a b xs → Readings b c ys → Readings a c (xs ++ ys)
readings_on a b c [] ys x y = subst (λ (o : Option (List ℕ)). Readings o c ys) x y
readings_on a b c (m ∷ xs) ys x y = (x.0, readings_on (option_map after_reading a) b c xs ys x.1 y)

never_fall_from : (low high top : ℕ) (ns : List ℕ) → low ≤ high → NeverFall high ns top → NeverFall low ns top
never_fall_from low high top [] l f = omega arith
never_fall_from low high top (n ∷ ns) l f = let least = f.0 in (omega arith, f.1)

never_fall_on : (low mid high : ℕ) (ns ms : List ℕ) → NeverFall low ns mid → NeverFall mid ms high → NeverFall low (ns ++ ms) high
never_fall_on low mid high [] ms x y = never_fall_from low mid high ms x y
never_fall_on low mid high (n ∷ ns) ms x y = (x.0, never_fall_on n mid high ns ms x.1 y)

-- none is above the highest
pub never_fall_below : (low n high : ℕ) (ns : List ℕ) → NeverFall low (n ∷ ns) high → n ≤ high
never_fall_below low n high [] f = f.1
never_fall_below low n high (m ∷ ns) f = let next = f.1.0 in let later = never_fall_below n m high ns f.1 in omega arith

-- ---- lists of responses

pub items_of-append : (rs qs : List Reply) → items_of (rs ++ qs) ≡ items_of rs ++ items_of qs
items_of-append [] qs = refl
items_of-append (r ∷ rs) qs = ap (λ (xs : List Item). r.item ∷ xs) (items_of-append rs qs)

pub moments_of-append : (rs qs : List Reply) → moments_of (rs ++ qs) ≡ moments_of rs ++ moments_of qs
moments_of-append [] qs = refl
moments_of-append (r ∷ rs) qs = ap (λ (xs : List ℕ). r.moment ∷ xs) (moments_of-append rs qs)

pub numbers_of-append : (rs qs : List Reply) → numbers_of (rs ++ qs) ≡ numbers_of rs ++ numbers_of qs
numbers_of-append [] qs = refl
numbers_of-append (r ∷ rs) qs = ap (λ (xs : List ℕ). r.number ∷ xs) (numbers_of-append rs qs)

pub length-items_of : (rs : List Reply) → length (items_of rs) ≡ length rs
length-items_of [] = refl
length-items_of (r ∷ rs) = let more = length-items_of rs in omega arith

-- ---- views that are kept

-- a history begins with the front of one with which it begins
pub same_front : (h later : List Entry) (n : ℕ) → GoesOn h later → n ≤ length h → take n later ≡ take n h
same_front h later n g within = ap (take n) g.is ∙ take-append-le n h g.more within

-- behind looks, and then behind others
pub kept_behind-append : (plans : Schedules) (h : List Entry) (kept : List KeptView) (ns ms : List ℕ)
    → kept_behind plans h kept (ns ++ ms) ≡ kept_behind plans h (kept_behind plans h kept ns) ms
kept_behind-append plans h kept [] ms = refl
kept_behind-append plans h kept (n ∷ ns) ms = kept_behind-append plans h (kept_at plans h n kept) ns ms

-- a look at a history that goes on sees the same
look_kept : (plans : Schedules) (h later : List Entry) (n : ℕ) (kept : List KeptView) → GoesOn h later → n ≤ length h
    → kept_at plans later n kept ≡ kept_at plans h n kept
look_kept plans h later n kept g within = grind (arith, same_front)

looks_kept : (plans : Schedules) (h later : List Entry) (low : ℕ) (kept : List KeptView) (ns : List ℕ) → GoesOn h later
    → NeverFall low ns (length h) → kept_behind plans later kept ns ≡ kept_behind plans h kept ns
looks_kept plans h later low kept [] g f = refl
looks_kept plans h later low kept (n ∷ ns) g f =
    ap (λ (views : List KeptView). kept_behind plans later views ns) (look_kept plans h later n kept g (never_fall_below low n (length h) ns f))
    ∙ looks_kept plans h later n (kept_at plans h n kept) ns g f.1

-- ---- bytes

replies_append : (plans : Schedules) (h : List Entry) (kept : List KeptView) (place : ℕ) (rs qs : List Reply)
    → replies_bytes plans h kept place (rs ++ qs)
    ≡ replies_bytes plans h kept place rs ++ replies_bytes plans h (kept_behind plans h kept (numbers_of rs)) (place + length rs) qs
replies_append plans h kept place [] qs = ap (λ n. replies_bytes plans h kept n qs) (sym (add-zero place))
replies_append plans h kept place (r ∷ rs) qs =
    let next : place + 1 + length rs ≡ place + length (r ∷ rs) = omega arith in
    let seen = kept_at plans h r.number kept in
    ap (λ xs. reply_bytes plans h kept place r ++ xs)
    (replies_append plans h seen (place + 1) rs qs
    ∙ ap (λ n. replies_bytes plans h seen (place + 1) rs ++ replies_bytes plans h (kept_behind plans h seen (numbers_of rs)) n qs) next)
    ∙ sym (append_assoc (reply_bytes plans h kept place r) _ _)

-- a response of a history that goes on is the same
reply_kept : (plans : Schedules) (h later : List Entry) (kept : List KeptView) (place : ℕ) (r : Reply) → GoesOn h later → r.number ≤ length h
    → reply_bytes plans later kept place r ≡ reply_bytes plans h kept place r
unfolding reply_bytes
reply_kept plans h later kept place r g within = grind (arith, same_front)

replies_kept : (plans : Schedules) (h later : List Entry) (low : ℕ) (kept : List KeptView) (place : ℕ) (rs : List Reply) → GoesOn h later
    → NeverFall low (numbers_of rs) (length h) → replies_bytes plans later kept place rs ≡ replies_bytes plans h kept place rs
replies_kept plans h later low kept place [] g f = refl
replies_kept plans h later low kept place (r ∷ rs) g f =
    let within = never_fall_below low r.number (length h) (numbers_of rs) f in
    ap₂ (λ (xs ys : List ℕ). xs ++ ys) (reply_kept plans h later kept place r g within)
    (ap (λ (views : List KeptView). replies_bytes plans later views (place + 1) rs) (look_kept plans h later r.number kept g within)
    ∙ replies_kept plans h later r.number (kept_at plans h r.number kept) (place + 1) rs g f.1)

-- a response of the whole history
pub reply_of_all : (plans : Schedules) (h : List Entry) (kept : List KeptView) (place : ℕ) (r : Reply) → r.number ≡ length h
    → answer plans r.item (place == last_place) r.moment r.number (fold_of (length plans.feeds) h)
    (kept_with r.number (fold_of (length plans.feeds) h) kept)
    ≡ reply_bytes plans h kept place r
unfolding reply_bytes
reply_of_all plans h kept place r whole = grind (arith, take-length)

-- ---- responses, and then others

-- none
pub answers_none : (place : ℕ) (a : Setting) → Answers place a a [] none_begun
answers_none place a = grind (arith, hub_stays, Appends-nil, add-zero)

-- what is kept behind responses, where the history goes on
pub kept_then : (place : ℕ) (a b : Setting) (later : List Entry) (rs : List Reply) → Answers place a b rs none_begun → GoesOn b.history later
    → b.kept ≡ kept_behind a.plans later a.kept (numbers_of rs)
kept_then place a b later rs x g = grind (arith, append-nil, looks_kept)

moved : (xs ys zs all : List ℕ) → all ≡ xs ++ ys → (xs ++ []) ++ (ys ++ zs) ≡ all ++ zs
moved xs ys zs all e = grind (arith, append-nil, append_assoc)

pub answers_on : (place : ℕ) (a b c : Setting) (rs qs : List Reply) (begun : Begun) → Answers place a b rs none_begun
    → Answers (place + length rs) b c qs begun → Answers place a c (rs ++ qs) begun
answers_on place a b c rs qs begun x y =
    let views : b.kept ≡ kept_behind a.plans c.history a.kept (numbers_of rs) = kept_then place a b c.history rs x y.hub.history_goes_on in
    let written : replies_bytes a.plans c.history a.kept place (rs ++ qs)
    ≡ replies_bytes a.plans b.history a.kept place rs ++ replies_bytes b.plans c.history b.kept (place + length rs) qs =
    replies_append a.plans c.history a.kept place rs qs
    ∙ ap₂ (λ (us vs : List ℕ). us ++ vs)
    (replies_kept a.plans b.history c.history (length a.history) a.kept place rs y.hub.history_goes_on x.numbers)
    (ap₂ (λ (p : Schedules) (kept : List KeptView). replies_bytes p c.history kept (place + length rs) qs) (sym x.hub.plans_stay) (sym views))
    in
    let numbers : numbers_of rs ++ (numbers_of qs ++ begun.seen) ≡ numbers_of (rs ++ qs) ++ begun.seen =
    sym (append_assoc (numbers_of rs) (numbers_of qs) begun.seen)
    ∙ ap (λ (ns : List ℕ). ns ++ begun.seen) (sym (numbers_of-append rs qs))
    in
    record {
      hub = hub_on a b c x.hub y.hub;
      numbers = subst (λ (ns : List ℕ). NeverFall (length a.history) ns (length c.history)) (sym (numbers_of-append rs qs))
          (never_fall_on (length a.history) (length b.history) (length c.history) (numbers_of rs) (numbers_of qs) x.numbers y.numbers);
      readings = subst (λ (ms : List ℕ). Readings a.ahead c.ahead ms)
          (moved (moments_of rs) (moments_of qs) begun.readings (moments_of (rs ++ qs)) (moments_of-append rs qs))
          (readings_on a.ahead b.ahead c.ahead _ _ x.readings y.readings);
      output = subst (λ (bytes : List ℕ). Appends a.written c.written bytes)
          (moved (replies_bytes a.plans b.history a.kept place rs) (replies_bytes b.plans c.history b.kept (place + length rs) qs) begun.cut
          (replies_bytes a.plans c.history a.kept place (rs ++ qs)) written)
          (Appends-trans a.written b.written c.written _ _ x.output y.output);
      looks = let one = x.looks in let two = y.looks in let both = length-append rs qs in omega arith;
      kept = y.kept
          ∙ ap₂ (λ (p : Schedules) (kept : List KeptView). kept_behind p c.history kept (numbers_of qs ++ begun.seen)) x.hub.plans_stay views
          ∙ sym (kept_behind-append a.plans c.history a.kept (numbers_of rs) (numbers_of qs ++ begun.seen))
          ∙ ap (λ (ns : List ℕ). kept_behind a.plans c.history a.kept ns) numbers;
      faults_later = let one = x.faults_later in let two = y.faults_later in omega arith;
    }
