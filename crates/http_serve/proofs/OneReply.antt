-- The response to one item, from the look to the last byte.
use Rattle.std.proofs.Common.{◌≡◌, ◌==◌, ◌⊎◌, inl, inr, ℕ, ◌+◌, ◌-◌, ◌≤◌, ◌<◌, Bool, List, [], ◌∷◌, ◌++◌, length, take, Option, Result, Ok, Err, refl, sym, ap, ◌∙◌, subst, arith, append-nil}
use Rattle.std.specs.List.{AllByRecursion}
use Rattle.std.proofs.Math.Seq.{take-length}
use Rattle.std.specs.Option.{option_map}
use Rattle.std.specs.Io.KnownBytes.{Appends}
use Rattle.std.proofs.KnownBytes.{Appends-nil}
use Rattle.std.specs.declared.alloc.AllocError.{AllocError}
use Rattle.feed_defs.specs.declared.history.Entry.{Entry}
use Rattle.sched_types.specs.Schedules.{Schedules}
use Rattle.board_defs.specs.Fold.{FeedFold, fold_of}
use Rattle.board_defs.specs.Views.{HubKept, StandsFor, folds_of}
use Rattle.board_parts.specs.Looks.{Looked}
use Rattle.delta_defs.specs.Kept.{KeptView, view_of, views_with}
use Rattle.hub_outside.specs.Clock.{ShowsFirst, after_reading}
use Rattle.hub_outside.specs.Count.{Rose}
use Rattle.http_defs.specs.declared.request.Item.{Item}
use Rattle.http_defs.specs.Requests.{last_place}
use Rattle.http_serve_defs.specs.Answers.{answer}
use Rattle.http_serve_defs.specs.Connections.{kept_with, view_seen}
use Rattle.http_serve.specs.Setting.{Setting, setting, HubGoesOn}
use Rattle.http_serve.specs.Views.{KeepsLook}
use Rattle.http_serve.specs.Replies.{Reply, kept_at, kept_behind, reply_bytes, Begun}
use Rattle.http_serve.specs.Notes.{Noted}
use Rattle.http_serve.specs.Serves.{WasStarved}
use Rattle.http_serve.specs.declared.replying.Unwritten.{Unwritten}
use Rattle.http_serve.specs.Turns.{Answers, IsCut, Replied, Replies}
use Rattle.http_serve.proofs.Chains.{goes_on_longer, reply_of_all}

-- ---- the look

-- What a look that found the history did, and the reading of the clock behind it; the sink may have
-- got bytes since.
pub record LooksAndReads (old new : Setting) (number moment : ℕ) : Type 0 where
  pub hub : HubGoesOn old new
  pub whole : number ≡ length new.history
  pub looked : new.reads ≡ old.reads + 1
  pub shown : ShowsFirst old.ahead moment
  pub ahead : new.ahead ≡ option_map after_reading old.ahead

pub looks_and_reads : (w w' : Option (List ℕ)) (f f' : ℕ) (a a' : Option (List ℕ)) (plans plans' : Schedules) (h h' : List Entry)
    (v v' : HubKept) (r r' : ℕ) (s s' : Bool) (k k' : List KeptView) (number moment : ℕ) → Looked h h' v v' r r' s (Ok number)
    → plans' ≡ plans → s' ≡ s → ShowsFirst a moment → a' ≡ option_map after_reading a
    → LooksAndReads (setting w f a plans h r s k) (setting w' f' a' plans' h' r' s' k') number moment
looks_and_reads w w' f f' a a' plans plans' h h' v v' r r' s s' k k' number moment l kept steady shows ahead =
    grind arith

-- ---- the view that it found

-- the view was kept, whatever came of the response
pub keeps_look : {A E : Type 0} (result : Result A E) (view : KeptView) (old new : List KeptView) → new ≡ views_with view old
    → KeepsLook result view old new
keeps_look result view old new put = grind arith

-- what all feeds say
folds_found : (plans : Schedules) (h : List Entry) (v seen : HubKept) → StandsFor h v → seen ≡ v
    → folds_of seen ≡ fold_of (length seen.plans.feeds) h
folds_found plans h v seen stood same = grind arith

-- what is kept of it
kept_found : (plans : Schedules) (h : List Entry) (v seen : HubKept) (number : ℕ) → StandsFor h v → seen ≡ v → seen.plans ≡ plans
    → number ≡ length h → view_of seen ≡ view_seen number (fold_of (length plans.feeds) h)
kept_found plans h v seen number stood same kept whole = grind (arith, folds_found)

-- a look at the whole history
at_whole : (plans : Schedules) (h : List Entry) (number : ℕ) (old : List KeptView) → number ≡ length h
    → kept_with number (fold_of (length plans.feeds) h) old ≡ kept_at plans h number old
at_whole plans h number old whole = grind (arith, take-length)

-- it is kept as one of the history
pub kept_is : (plans : Schedules) (h : List Entry) (v seen : HubKept) (number : ℕ) (old new : List KeptView) → StandsFor h v → seen ≡ v
    → seen.plans ≡ plans → number ≡ length h → new ≡ views_with (view_of seen) old → new ≡ kept_at plans h number old
kept_is plans h v seen number old new stood same kept whole put =
    grind (arith, kept_found, at_whole)

-- or it isn't
pub kept_or_not : (plans : Schedules) (h : List Entry) (v seen : HubKept) (number : ℕ) (old new : List KeptView) → StandsFor h v → seen ≡ v
    → seen.plans ≡ plans → number ≡ length h → (new ≡ old) ⊎ (new ≡ views_with (view_of seen) old)
    → (new ≡ old) ⊎ (new ≡ kept_at plans h number old)
kept_or_not plans h v seen number old new stood same kept whole (inl stays) = inl stays
kept_or_not plans h v seen number old new stood same kept whole (inr put) =
    inr (kept_is plans h v seen number old new stood same kept whole put)

-- it answers of the history
pub view_answers : (plans : Schedules) (h : List Entry) (v seen : HubKept) (place moment number : ℕ) (item : Item)
    (thousandth : Bool) (old new : List KeptView) (bytes : List ℕ) → StandsFor h v → seen ≡ v → seen.plans ≡ plans → number ≡ length h
    → thousandth ≡ (place == last_place) → new ≡ views_with (view_of seen) old
    → bytes ≡ answer seen.plans item thousandth moment number (folds_of seen) new
    → bytes ≡ reply_bytes plans h old place (record { item = item; moment = moment; number = number })
view_answers plans h v seen place moment number item thousandth old new bytes stood same kept whole last put are =
    are ∙ ap (λ (folds : List FeedFold). answer seen.plans item thousandth moment number folds new) (folds_found plans h v seen stood same)
    ∙ ap (λ (p : Schedules). answer p item thousandth moment number (fold_of (length p.feeds) h) new) kept
    ∙ ap (λ (t : Bool). answer plans item t moment number (fold_of (length plans.feeds) h) new) last
    ∙ ap (λ (views : List KeptView). answer plans item (place == last_place) moment number (fold_of (length plans.feeds) h) views)
    (put ∙ ap (λ (view : KeptView). views_with view old) (kept_found plans h v seen number stood same kept whole))
    ∙ reply_of_all plans h old place (record { item = item; moment = moment; number = number }) whole

-- ---- the view goes

-- what a response came to still holds once the oracle lets its view go
pub released : (place : ℕ) (old : Setting) (w : Option (List ℕ)) (f : ℕ) (a : Option (List ℕ)) (p p' : Schedules) (h h' : List Entry)
    (r r' : ℕ) (s s' : Bool) (k : List KeptView) (item : Item) (before after : Noted) (result : Result Unit Unwritten)
    → p' ≡ p → h' ≡ h → r' ≡ r → s' ≡ s → Replies place old (setting w f a p h r s k) item before after result
    → Replies place old (setting w f a p' h' r' s' k) item before after result
released place old w f a p p' h h' r r' s s' k item before after result plans history reads steady told =
    grind arith

-- ---- what it came to

-- memory was wanting for the look
pub look_starved : (place : ℕ) (w : Option (List ℕ)) (f : ℕ) (a : Option (List ℕ)) (plans plans' : Schedules) (h h' : List Entry)
    (v v' : HubKept) (r r' : ℕ) (s s' : Bool) (k : List KeptView) (e : AllocError) → Looked h h' v v' r r' s (Err e) → plans' ≡ plans → s' ≡ s
    → (begun : Begun) × WasStarved h' begun × Answers place (setting w f a plans h r s k) (setting w f a plans' h' r' s' k) [] begun
look_starved place w f a plans plans' h h' v v' r r' s s' k e l kept steady =
    let least = l.found.1 in
    let most = l.found.2 in
    let longer = goes_on_longer h h' l.goes_on in (
      record { readings = []; looks = r' - r; seen = []; cut = [] },
      record {
        one_look = omega arith;
        reading_behind_look = omega arith;
        seen_at_look = omega arith;
        seen_whole = tt;
        unwritten = refl;
      },
      record {
        hub = record {
          history_goes_on = l.goes_on;
          steady_history_stays = l.stays;
          steadiness_stays = steady;
          plans_stay = kept;
        };
        numbers = longer;
        readings = refl;
        output = Appends-nil w;
        looks = omega arith;
        kept = refl;
        faults_later = omega arith;
      },
    )

-- what was begun behind a look: its view may be kept, and some of a response may have been written
abbrev begun_with : ℕ → List ℕ → List ℕ → Begun
begun_with moment seen cut = record { readings = moment ∷ []; looks = 1; seen = seen; cut = cut }

begun_answers : (place : ℕ) (old new : Setting) (number moment : ℕ) (seen cut : List ℕ) → LooksAndReads old new number moment
    → Appends old.written new.written cut → old.write_faults ≤ new.write_faults
    → new.kept ≡ kept_behind old.plans new.history old.kept seen
    → Answers place old new [] (begun_with moment seen cut)
begun_answers place old new number moment seen cut l output later kept =
    grind (arith, goes_on_longer)

-- memory was wanting for the response
starved_with : (place : ℕ) (old new : Setting) (number moment : ℕ) (seen : List ℕ) → LooksAndReads old new number moment
    → new.written ≡ old.written → new.write_faults ≡ old.write_faults
    → length seen ≤ 1 → AllByRecursion (λ n. n ≡ length new.history) seen → new.kept ≡ kept_behind old.plans new.history old.kept seen
    → (begun : Begun) × WasStarved new.history begun × Answers place old new [] begun
starved_with place old new number moment seen l same faults few whole kept = (
  begun_with moment seen [],
  record {
    one_look = omega arith;
    reading_behind_look = omega arith;
    seen_at_look = few;
    seen_whole = whole;
    unwritten = refl;
  },
  begun_answers place old new number moment seen [] l
      (subst (λ (o : Option (List ℕ)). Appends old.written o []) (sym same) (Appends-nil old.written)) (omega (arith, faults)) kept,
)

pub response_starved : (place : ℕ) (old new : Setting) (number moment : ℕ) → LooksAndReads old new number moment
    → new.written ≡ old.written → new.write_faults ≡ old.write_faults
    → (new.kept ≡ old.kept) ⊎ (new.kept ≡ kept_at old.plans new.history number old.kept)
    → (begun : Begun) × WasStarved new.history begun × Answers place old new [] begun
response_starved place old new number moment l same faults (inl kept) =
    starved_with place old new number moment [] l same faults (omega arith) tt kept
response_starved place old new number moment l same faults (inr kept) =
    starved_with place old new number moment (number ∷ []) l same faults (omega arith) (l.whole, tt) kept

-- the sink failed
pub response_cut : (place : ℕ) (old new : Setting) (number moment : ℕ) (item : Item) (bytes : List ℕ) → LooksAndReads old new number moment
    → bytes ≡ reply_bytes old.plans new.history old.kept place (record { item = item; moment = moment; number = number })
    → (n : ℕ) × (n < length bytes) × Appends old.written new.written (take n bytes)
    → Rose old.write_faults new.write_faults → new.kept ≡ kept_at old.plans new.history number old.kept
    → (begun : Begun) × IsCut place old new item begun × Answers place old new [] begun
response_cut place old new number moment item bytes l are wrote rose kept =
    let later = rose.0 in (
      begun_with moment (number ∷ []) (take wrote.0 bytes),
      record {
        reply = record { item = item; moment = moment; number = number };
        answers_item = refl;
        number = l.whole;
        reading = refl;
        one_look = refl;
        seen = refl;
        size = wrote.0;
        short = subst (λ (xs : List ℕ). wrote.0 < length xs) are wrote.1;
        written = ap (take wrote.0) are;
        rose = rose;
      },
      begun_answers place old new number moment (number ∷ []) (take wrote.0 bytes) l wrote.2 later kept,
    )

-- the response was written whole, and noted
pub response_whole : (place : ℕ) (old new : Setting) (number moment : ℕ) (item : Item) (bytes : List ℕ) (before after : Noted)
    → LooksAndReads old new number moment
    → bytes ≡ reply_bytes old.plans new.history old.kept place (record { item = item; moment = moment; number = number })
    → Appends old.written new.written bytes → old.write_faults ≤ new.write_faults
    → new.kept ≡ kept_at old.plans new.history number old.kept
    → after ≡ record { numbers = before.numbers ++ number ∷ []; moments = before.moments ++ moment ∷ [] }
    → Replied place old new item before after
response_whole place old new number moment item bytes before after l are output later kept notes =
    let longer = goes_on_longer old.history new.history l.hub.history_goes_on in
    let whole = l.whole in
    let looked = l.looked in
    let r : Reply = record { item = item; moment = moment; number = number } in
    let all : bytes ≡ (reply_bytes old.plans new.history old.kept place r ++ []) ++ [] =
    are ∙ sym (append-nil (reply_bytes old.plans new.history old.kept place r))
    ∙ sym (append-nil (reply_bytes old.plans new.history old.kept place r ++ []))
    in
    record {
      reply = r;
      answers_item = refl;
      answers = record {
        hub = l.hub;
        numbers = (omega arith, omega arith);
        readings = (l.shown, l.ahead);
        output = subst (λ (xs : List ℕ). Appends old.written new.written xs) all output;
        looks = omega arith;
        kept = kept;
        faults_later = later;
      };
      is_noted = notes;
    }
