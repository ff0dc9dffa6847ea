-- A head that was put before the body of an answer makes its response.
use Rattle.std.proofs.Common.{◌≡◌, ℕ, Bool, List, length, drop, Option, None, Some, sym, ap, ◌∙◌, subst}
use Rattle.std.specs.Prelude.{Result, Ok, Err, IfOk}
use Rattle.std.specs.Option.{option_map, option_map_or}
use Rattle.std.proofs.Transfers.{drop-appended}
use Rattle.sched_types.specs.Schedules.{Schedules}
use Rattle.board_defs.specs.Fold.{FeedFold}
use Rattle.board_text_defs.specs.Answers.{schedule_number}
use Rattle.delta_defs.specs.Changes.{changes_bytes}
use Rattle.delta_defs.specs.Kept.{KeptView}
use Rattle.http_defs.specs.declared.asked.Query.{Query}
use Rattle.http_defs.specs.declared.response.BodyKind.{BodyKind}
use Rattle.http_defs.specs.declared.response.BodyKind.TheVariants.{Feed as Message}
use Rattle.http_defs.specs.Responses.{response}
use Rattle.http_serve_defs.specs.Answers.{Answered, FeedSince, feed_since, found, refused, changes_answer, whole_answered, query_answered}
use Rattle.http_serve.specs.declared.responses.Heading.{Heading}
use Rattle.http_serve.specs.Headings.{Appends}

pub response_as : {E : Type 0} (r : Result ℕ E) (old mid new : List ℕ) (heading : Heading) (a : Answered) (number moment : ℕ) (close closes : Bool)
    → length old ≡ 224 → Appends heading old mid a → close ≡ closes
    → IfOk r (λ start. drop start new ≡ response heading.status heading.kind (drop 224 mid) number moment close)
    → IfOk r (λ start. drop start new ≡ response a.status a.kind a.body number moment closes)
response_as (Ok start) old mid new heading a number moment close closes room appends same given =
    given
    ∙ ap (λ (status : ℕ). response status heading.kind (drop 224 mid) number moment close) appends.status
    ∙ ap (λ (kind : BodyKind). response a.status kind (drop 224 mid) number moment close) appends.kind
    ∙ ap (λ (body : List ℕ). response a.status a.kind body number moment close) (ap (λ (n : ℕ). drop n mid) (sym room) ∙ drop-appended old mid a.body appends.body)
    ∙ ap (λ (c : Bool). response a.status a.kind a.body number moment c) same
response_as (Err e) old mid new heading a number moment close closes room appends same given = tt

-- ---- the body of a query

-- by the view since which it asks
abbrev answered_since : Schedules → List FeedFold → Query → ℕ → Option FeedSince → Answered
answered_since plans folds query moment since =
    option_map_or (λ s. found Message (changes_answer plans folds s)) since (whole_answered plans folds query moment)

pub by_since : {E : Type 0} (r : Result Heading E) (old new : List ℕ) (plans : Schedules) (folds : List FeedFold) (kept : List KeptView)
    (query : Query) (moment : ℕ) (since : FeedSince) → feed_since query kept ≡ Some since
    → IfOk r (λ heading. Appends heading old new (found Message (changes_answer plans folds since)))
    → IfOk r (λ heading. Appends heading old new (query_answered plans folds kept query moment))
by_since r old new plans folds kept query moment since is given =
    subst (λ (o : Option FeedSince). IfOk r (λ heading. Appends heading old new (answered_since plans folds query moment o))) (sym is) given

pub by_none : {E : Type 0} (r : Result Heading E) (old new : List ℕ) (plans : Schedules) (folds : List FeedFold) (kept : List KeptView)
    (query : Query) (moment : ℕ) → feed_since query kept ≡ None
    → IfOk r (λ heading. Appends heading old new (whole_answered plans folds query moment))
    → IfOk r (λ heading. Appends heading old new (query_answered plans folds kept query moment))
by_none r old new plans folds kept query moment is given =
    subst (λ (o : Option FeedSince). IfOk r (λ heading. Appends heading old new (answered_since plans folds query moment o))) (sym is) given

-- what changed in the feed of a schedule of that number, or of none
abbrev changes_of : Schedules → List FeedFold → List FeedFold → Option ℕ → Answered
changes_of plans old folds plan = found Message (option_map (λ p. changes_bytes plans p old folds) plan)

pub no_schedule : {E : Type 0} (r : Result Heading E) (old new : List ℕ) (plans : Schedules) (folds : List FeedFold) (since : FeedSince)
    → None ≡ schedule_number plans since.schedule → IfOk r (λ heading. Appends heading old new (refused 404))
    → IfOk r (λ heading. Appends heading old new (found Message (changes_answer plans folds since)))
no_schedule r old new plans folds since none given =
    subst (λ (o : Option ℕ). IfOk r (λ heading. Appends heading old new (changes_of plans since.old folds o))) none given

pub has_schedule : {E : Type 0} (r : Result Heading E) (old new : List ℕ) (plans : Schedules) (folds : List FeedFold) (since : FeedSince)
    (plan : ℕ) → Some plan ≡ schedule_number plans since.schedule
    → IfOk r (λ heading. Appends heading old new (found Message (Some (changes_bytes plans plan since.old folds))))
    → IfOk r (λ heading. Appends heading old new (found Message (changes_answer plans folds since)))
has_schedule r old new plans folds since plan at given =
    subst (λ (o : Option ℕ). IfOk r (λ heading. Appends heading old new (changes_of plans since.old folds o))) at given
