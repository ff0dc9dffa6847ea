-- What ingesters and readers did at their places is what is told of feeds and doors.
use Rattle.std.proofs.Common.{◌≡◌, ℕ, zero, suc, ◌+◌, Bool, false, List, [], ◌∷◌, length, map, Option, Some, None, refl, sym, ap, ◌∙◌, subst}
use Rattle.std.specs.Prelude.{IfSome}
use Rattle.std.specs.List.{All, AllByRecursion, range_with_len}
use Rattle.std.proofs.lemmas.List.Elements.{recursion_from_All, All-from_recursion}
use mathlib.Core.List.{IsPrefix}
use Rattle.sched_types.specs.Schedules.{Schedules}
use Rattle.exit_status.specs.Codes.{code_of}
use Rattle.hub_history.specs.Log.{entries_of}
use Rattle.hub_history.specs.Told.{Told, history_of}
use Rattle.snapshot_cell.specs.Seen.{PassSeen}
use Rattle.delta_defs.specs.Kept.{KeptView}
use Rattle.http_door.specs.Doors.{ServesDoor}
use Rattle.http_door.specs.Visits.{Ends as LinkEnds, Hub, hub}
use Rattle.place_jobs.specs.Places.{PlacesChanged}
use Rattle.hub_shared.specs.Seats.{Ties, SeatSeen, fresh_seat, fresh_seats}
use Rattle.hub_shared.specs.Calls.{Ends, IsFresh}
use Rattle.hub_shared.specs.declared.report.PortReport.{PortReport}
use Rattle.hub_serve.proofs.HistoryRead.{history_read}
use Rattle.hub_serve.proofs.Placed.{by_places}
use Rattle.hub_serve.specs.declared.readers.Post.{Post}
use Rattle.hub_serve.specs.Words.{PortWords, DoorWords}
use Rattle.hub_serve.specs.Feeds.{IngestsBy, ingests_at, FeedsRan}
use Rattle.hub_serve.specs.Readers.{serves_at, DoorsRan}
use Rattle.hub_serve.specs.Runs.{Ran, status_by}
use Rattle.hub_serve.specs.Steps.{EndsRun, lasts_of}

-- the first of what is said of all, and the rest
first_told : {A : Type 0} (ending : Option Told) (P : A → Told → Type 0) (x : A) (xs : List A) → IfSome ending (λ e. AllByRecursion (λ y. P y e) (x ∷ xs)) → IfSome ending (P x)
first_told None P x xs h = tt
first_told (Some e) P x xs h = h.0

rest_told : {A : Type 0} (ending : Option Told) (P : A → Told → Type 0) (x : A) (xs : List A) → IfSome ending (λ e. AllByRecursion (λ y. P y e) (x ∷ xs)) → IfSome ending (λ e. AllByRecursion (λ y. P y e) xs)
rest_told None P x xs h = tt
rest_told (Some e) P x xs h = h.1

-- fresh seats, one after another
abbrev AreFreshSeats : Ties → ℕ → List SeatSeen → Type 0
AreFreshSeats hub first [] = Unit {0}
AreFreshSeats hub first (s ∷ ss) = (s ≡ fresh_seat hub first) × AreFreshSeats hub (first + 1) ss

-- the seats of a hub that was opened are fresh
are_fresh : (ties : Ties) (first n : ℕ) → AreFreshSeats ties first (map (fresh_seat ties) (range_with_len first n))
are_fresh ties first zero = tt
are_fresh ties first (suc n) = (refl, are_fresh ties (first + 1) n)

fresh_are : (ties : Ties) (seats : List SeatSeen) → seats ≡ fresh_seats ties → AreFreshSeats ties 0 seats
fresh_are ties seats fresh = subst (λ (xs : List SeatSeen). AreFreshSeats ties 0 xs) (sym fresh) (are_fresh ties 0 (length ties.plans.feeds))

module _ {P : Type 0} (words : PortWords P) (hub : Ties) where
  -- a feed's ingester, at a seat that was fresh
  pub feeds_ran : (ending : Option Told) (first : ℕ) (ps : List P) (ss : List SeatSeen) (rs : List PortReport) (ps' : List P) (ss' : List SeatSeen) (rs' : List PortReport)
      → PlacesChanged (ingests_at words) first ps ss rs ps' ss' rs' → AreFreshSeats hub first ss
      → IfSome ending (λ e. AllByRecursion (λ seat. Ends seat e) ss') → FeedsRan words hub ending first ps ps' rs' (lasts_of ss')
  feeds_ran ending =
      by_places (ingests_at words)
      (λ (first : ℕ) (ps : List P) (ss : List SeatSeen) (rs : List PortReport) (ps' : List P) (ss' : List SeatSeen) (rs' : List PortReport). AreFreshSeats hub first ss → IfSome ending (λ e. AllByRecursion (λ seat. Ends seat e) ss') → FeedsRan words hub ending first ps ps' rs' (lasts_of ss'))
      (λ first fresh ends. tt)
      (λ first p s r p' s' r' ps ss rs ps' ss' rs' does rest fresh ends. (
        record {
          seat = s';
          ingests = subst (λ (x : SeatSeen). IngestsBy x s' (words.ahead p) (words.ahead p') (words.faults p) (words.faults p') r') fresh.0 does;
          ended = first_told ending (λ (seat : SeatSeen) (ended : Told). Ends seat ended) s' ss' ends;
          last_is = refl;
        },
        rest fresh.1 (rest_told ending (λ (seat : SeatSeen) (ended : Told). Ends seat ended) s' ss' ends),
      ))

  -- a seat stays of its hub
  ties_from : (first : ℕ) (ps : List P) (ss : List SeatSeen) (rs : List PortReport) (ps' : List P) (ss' : List SeatSeen) (rs' : List PortReport)
      → PlacesChanged (ingests_at words) first ps ss rs ps' ss' rs' → AreFreshSeats hub first ss → AllByRecursion (λ seat. seat.ties ≡ hub) ss'
  ties_from =
      by_places (ingests_at words)
      (λ (first : ℕ) (ps : List P) (ss : List SeatSeen) (rs : List PortReport) (ps' : List P) (ss' : List SeatSeen) (rs' : List PortReport). AreFreshSeats hub first ss → AllByRecursion (λ seat. seat.ties ≡ hub) ss')
      (λ first fresh. tt)
      (λ first p s r p' s' r' ps ss rs ps' ss' rs' does rest fresh. (does.sorts.hub ∙ ap (λ (x : SeatSeen). x.ties) fresh.0, rest fresh.1))

  pub ties_kept : (ps : List P) (ss : List SeatSeen) (rs : List PortReport) (ps' : List P) (ss' : List SeatSeen) (rs' : List PortReport)
      → PlacesChanged (ingests_at words) 0 ps ss rs ps' ss' rs' → ss ≡ fresh_seats hub → All (λ seat. seat.ties ≡ hub) ss'
  ties_kept ps ss rs ps' ss' rs' does fresh = All-from_recursion (λ (seat : SeatSeen). seat.ties ≡ hub) ss' (ties_from 0 ps ss rs ps' ss' rs' does (fresh_are hub ss fresh))

module _ {D I O C : Type 0} (words : DoorWords D I O) (seen : LinkEnds I O) (ahead : C → Option (List ℕ)) (ties : Ties) where
  -- a pass that is fresh begins as a hub that nothing is known of
  begins_fresh : (pass : PassSeen) (clock : Option (List ℕ)) (kept : List KeptView) → IsFresh ties pass → kept ≡ []
      → hub clock pass.shown.plans (history_of pass.line) pass.reads false kept ≡ hub clock ties.plans [] 0 false []
  begins_fresh pass clock kept fresh none = λ i. hub clock (fresh.shown i).plans (entries_of (fresh.log i)) (fresh.reads i) false (none i)

  -- a door's reader, with a pass that was fresh
  pub doors_ran : (ending : Option Told) (place : ℕ) (ds : List D) (passes : List PassSeen) (posts : List (Post C)) (ds' : List D) (passes' : List PassSeen) (posts' : List (Post C))
      → PlacesChanged (serves_at words seen ahead) place ds passes posts ds' passes' posts' → AllByRecursion (IsFresh ties) passes
      → AllByRecursion (λ (post : Post C). post.kept ≡ []) posts → IfSome ending (λ e. AllByRecursion (λ (pass : PassSeen). IsPrefix pass.line.log e.log) passes')
      → DoorsRan words seen ties.plans ending ds ds' (map (λ (post : Post C). ahead post.clock) posts) (map (λ (post : Post C). post.report) posts')
  doors_ran ending =
      by_places (serves_at words seen ahead)
      (λ (place : ℕ) (ds : List D) (passes : List PassSeen) (posts : List (Post C)) (ds' : List D) (passes' : List PassSeen) (posts' : List (Post C)). AllByRecursion (IsFresh ties) passes → AllByRecursion (λ (post : Post C). post.kept ≡ []) posts → IfSome ending (λ e. AllByRecursion (λ (pass : PassSeen). IsPrefix pass.line.log e.log) passes') → DoorsRan words seen ties.plans ending ds ds' (map (λ (post : Post C). ahead post.clock) posts) (map (λ (post : Post C). post.report) posts'))
      (λ place fresh none begins. tt)
      (λ place d s r d' s' r' ds ss rs ds' ss' rs' does rest fresh none begins. (
        record {
          left = hub (ahead r'.clock) s'.shown.plans (history_of s'.line) s'.reads false r'.kept;
          line = s'.line;
          history = refl;
          serves = subst (λ (x : Hub). ServesDoor seen (words.links d) (words.links d') (words.faults d) (words.faults d') x (hub (ahead r'.clock) s'.shown.plans (history_of s'.line) s'.reads false r'.kept) r'.report)
              (begins_fresh s (ahead r.clock) r.kept fresh.0 none.0) does;
          begins = first_told ending (λ (pass : PassSeen) (ended : Told). IsPrefix pass.line.log ended.log) s' ss' begins;
        },
        rest fresh.1 none.1 (rest_told ending (λ (pass : PassSeen) (ended : Told). IsPrefix pass.line.log ended.log) s' ss' begins),
      ))

-- what is said of all of a list, by its items
under : {A : Type 0} (ending : Option Told) (P : A → Told → Type 0) (xs : List A) → IfSome ending (λ e. All (λ y. P y e) xs) → IfSome ending (λ e. AllByRecursion (λ y. P y e) xs)
under None P xs h = tt
under (Some e) P xs h = recursion_from_All (λ y. P y e) xs h

module _ {P D I O C : Type 0} (ports : PortWords P) (doors : DoorWords D I O) (seen : LinkEnds I O) (ahead : C → Option (List ℕ)) (ties : Ties) (schedules : Schedules) (plans : ties.plans ≡ schedules) where
  -- a hub that was opened, and went through all steps of a run
  pub ran : (ps ps' : List P) (ss ss' : List SeatSeen) (rs rs' : List PortReport) (ds ds' : List D) (passes passes' : List PassSeen) (posts posts' : List (Post C))
      → length ps ≡ length schedules.feeds → ss ≡ fresh_seats ties → All (IsFresh ties) passes → All (λ (post : Post C). post.kept ≡ []) posts
      → PlacesChanged (ingests_at ports) 0 ps ss rs ps' ss' rs'
      → PlacesChanged (serves_at doors seen ahead) 0 ds passes posts ds' passes' posts'
      → (written written' : Option (List ℕ)) (faults faults' status : ℕ)
      → EndsRun ties schedules.feeds ss' rs' passes' (map (λ (post : Post C). post.report) posts') written written' faults faults' status
      → Ran ports doors seen schedules ps ps' ds ds' (map (λ (post : Post C). ahead post.clock) posts) written written' faults faults' status
  ran ps ps' ss ss' rs rs' ds ds' passes passes' posts posts' count fresh known none fed served written written' faults faults' status ends =
      let fed_by = feeds_ran ports ties ends.closes.ending 0 ps ss rs ps' ss' rs' fed (fresh_are ties ss fresh) (under ends.closes.ending (λ (seat : SeatSeen) (ended : Told). Ends seat ended) ss' ends.closes.ends) in
      record {
        hub = ties;
        plans = plans;
        ending = ends.closes.ending;
        of = ends.closes.of;
        legal = ends.closes.legal;
        read = history_read ports ties ends.closes.ending ps ps' rs' (lasts_of ss') (count ∙ sym (ap (λ (s : Schedules). length s.feeds) plans)) ends.closes.of ends.closes.legal fed_by;
        reports = rs';
        lasts = lasts_of ss';
        feeds_ran = fed_by;
        door_reports = map (λ (post : Post C). post.report) posts';
        doors_ran = subst (λ (s : Schedules). DoorsRan doors seen s ends.closes.ending ds ds' (map (λ (post : Post C). ahead post.clock) posts) (map (λ (post : Post C). post.report) posts')) plans
            (doors_ran doors seen ahead ties ends.closes.ending 0 ds passes posts ds' passes' posts' served (recursion_from_All (IsFresh ties) passes known)
            (recursion_from_All (λ (post : Post C). post.kept ≡ []) posts none)
            (under ends.closes.ending (λ (pass : PassSeen) (ended : Told). IsPrefix pass.line.log ended.log) passes' ends.closes.begins));
        writing = ends.writing;
        wrote = ends.wrote;
        cause = ends.cause;
        status_is = ends.status_is ∙ ap (λ (b : Bool). code_of (status_by ends.writing b rs' (map (λ (post : Post C). post.report) posts'))) (sym ends.closes.there);
      }

-- what is read of the clocks of posts
pub ahead_of : {C : Type 0} (ahead : C → Option (List ℕ)) (posts : List (Post C)) (clocks : List C) → map (λ (post : Post C). post.clock) posts ≡ clocks → map (λ (post : Post C). ahead post.clock) posts ≡ map ahead clocks
ahead_of ahead posts clocks clocked = twice posts ∙ ap (λ (xs : List _). map ahead xs) clocked
  where
    twice : (xs : List (Post _)) → map (λ (post : Post _). ahead post.clock) xs ≡ map ahead (map (λ (post : Post _). post.clock) xs)
    twice [] = refl
    twice (x ∷ xs) = ap (λ (ys : List (Option (List ℕ))). ahead x.clock ∷ ys) (twice xs)
