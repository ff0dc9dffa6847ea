-- Views that are kept stay views of the history.
use Rattle.std.proofs.Common.{◌≡◌, ℕ, ◌≤◌, true, List, [], ◌∷◌, ◌++◌, length, take, Option, refl, sym, ◌∙◌, subst, arith}
use Rattle.std.specs.List.{AllByRecursion}
use Rattle.feed_defs.specs.declared.history.Entry.{Entry}
use Rattle.feed_defs.specs.History.{is_rising, stamps_of}
use Rattle.sched_types.specs.Schedules.{Schedules}
use Rattle.board_parts.specs.Looks.{GoesOn}
use Rattle.board_defs.specs.Fold.{fold_of}
use Rattle.board_defs.specs.Views.{HubKept, StandsFor}
use Rattle.delta_defs.specs.Kept.{KeptView, view_of, views_with}
use Rattle.delta_defs.specs.OneHistory.{AreOfOneHistory}
use Rattle.delta_defs.proofs.OneHistory.{of_longer, of_history_with, view_of_history}
use Rattle.http_defs.specs.declared.request.Item.{Item}
use Rattle.http_serve_defs.specs.Connections.{view_seen}
use Rattle.http_serve.specs.declared.session.End.{End}
use Rattle.http_serve.specs.declared.session.End.TheVariants.{Ended, Closed, Bad, ReadFault, WriteFault, NoMemory}
use Rattle.http_serve.specs.Setting.{Setting, NeverFall}
use Rattle.http_serve.specs.Views.{IsOfHistory, AreOfHistory}
use Rattle.http_serve.specs.Replies.{Reply, items_of, numbers_of, kept_at, kept_behind, Begun, none_begun}
use Rattle.http_serve.specs.Serves.{IsBegun, Serves}
use Rattle.http_serve.specs.Turns.{Answers}
use Rattle.http_serve.proofs.Chains.{never_fall_below}

-- ---- lists

all_append : {X : Type 0} (P : X → Type 0) (xs ys : List X) → AllByRecursion P xs → AllByRecursion P ys → AllByRecursion P (xs ++ ys)
all_append P [] ys a b = b
all_append P (x ∷ xs) ys a b = (a.0, all_append P xs ys a.1 b)

-- ---- one look more

-- a look at so many messages sees the first of them
seen_then : (plans : Schedules) (h : List Entry) (n : ℕ) → n ≤ length h → IsOfHistory plans h (view_seen n (fold_of (length plans.feeds) (take n h)))
seen_then plans h n within = record { within = within; folds = refl }

kept_all : (plans : Schedules) (h : List Entry) (kept : List KeptView) (ns : List ℕ) → AllByRecursion (λ n. n ≤ length h) ns
    → AreOfHistory plans h kept → AreOfHistory plans h (kept_behind plans h kept ns)
kept_all plans h kept [] within are = are
kept_all plans h kept (n ∷ ns) within are =
    kept_all plans h (kept_at plans h n kept) ns within.1
    (of_history_with plans h (view_seen n (fold_of (length plans.feeds) (take n h))) kept (seen_then plans h n within.0) are)

-- ---- a history that goes on

all_later : (plans : Schedules) (h later : List Entry) (kept : List KeptView) → GoesOn h later → AreOfHistory plans h kept
    → AreOfHistory plans later kept
all_later plans h later kept g are = subst (λ (xs : List Entry). AreOfHistory plans xs kept) (sym g.is) (of_longer plans h g.more kept are)

-- ---- the numbers of looks

within_all : (low high : ℕ) (ns : List ℕ) → NeverFall low ns high → AllByRecursion (λ n. n ≤ high) ns
within_all low high [] f = tt
within_all low high (n ∷ ns) f = (never_fall_below low n high ns f, within_all n high ns f.1)

whole_within : (high : ℕ) (ns : List ℕ) → AllByRecursion (λ n. n ≡ high) ns → AllByRecursion (λ n. n ≤ high) ns
whole_within high [] all = tt
whole_within high (n ∷ ns) all = let same = all.0 in (omega arith, whole_within high ns all.1)

none_seen : (high : ℕ) (begun : Begun) → begun ≡ none_begun → AllByRecursion (λ n. n ≤ high) begun.seen
none_seen high begun none = subst (λ (b : Begun). AllByRecursion (λ n. n ≤ high) b.seen) (sym none) tt

seen_within : (end : End) (plans : Schedules) (h : List Entry) (kept : List KeptView) (input : List ℕ) (items : List Item) (begun : Begun)
    → IsBegun plans h kept input items begun end → AllByRecursion (λ n. n ≤ length h) begun.seen
seen_within Ended plans h kept input items begun is = none_seen (length h) begun is
seen_within Closed plans h kept input items begun is = none_seen (length h) begun is
seen_within Bad plans h kept input items begun is = none_seen (length h) begun is
seen_within ReadFault plans h kept input items begun is = none_seen (length h) begun is
seen_within WriteFault plans h kept input items begun is =
    let whole = is.number in
    subst (λ (ns : List ℕ). AllByRecursion (λ n. n ≤ length h) ns) (sym is.seen) (omega arith, tt)
seen_within NoMemory plans h kept input items begun is = whole_within (length h) begun.seen is.seen_whole

-- ---- one response

-- the view itself may be kept too
pub put_one : (view : HubKept) (kept put : List KeptView) → put ≡ views_with (view_of view) kept → AreOfOneHistory kept view → AreOfOneHistory put view
put_one view kept put is one = record {
  history = one.history;
  rising = one.rising;
  stands = one.stands;
  are = subst (AreOfHistory view.plans one.history) (sym is) (of_history_with view.plans one.history (view_of view) kept (view_of_history one.history view one.stands) one.are);
}

-- the view of a look goes on from those that were kept before it
pub look_one : (plans later : Schedules) (h h' : List Entry) (v seen : HubKept) (kept : List KeptView) → GoesOn h h' → ((feed : ℕ) → is_rising (stamps_of feed h') ≡ true)
    → StandsFor h' v → seen ≡ v → seen.plans ≡ later → later ≡ plans → AreOfHistory plans h kept → AreOfOneHistory kept seen
look_one plans later h h' v seen kept goes rising stood same its_plans stay are = record {
  history = h';
  rising = rising;
  stands = subst (StandsFor h') (sym same) stood;
  are = subst (λ (p : Schedules). AreOfHistory p h' kept) (sym (its_plans ∙ stay)) (all_later plans h h' kept goes are);
}

-- ---- a connection

-- after some responses
pub answered_kept : (place : ℕ) (a b : Setting) (replies : List Reply) → Answers place a b replies none_begun → AreOfHistory a.plans a.history a.kept → AreOfHistory b.plans b.history b.kept
answered_kept place a b replies s are =
    let numbers : AllByRecursion (λ n. n ≤ length b.history) (numbers_of replies ++ []) =
    all_append (λ n. n ≤ length b.history) (numbers_of replies) [] (within_all (length a.history) (length b.history) (numbers_of replies) s.numbers) tt in
    subst (λ (p : Schedules). AreOfHistory p b.history b.kept) (sym s.hub.plans_stay)
    (subst (λ (views : List KeptView). AreOfHistory a.plans b.history views) (sym s.kept)
    (kept_all a.plans b.history a.kept (numbers_of replies ++ []) numbers (all_later a.plans a.history b.history a.kept s.hub.history_goes_on are)))

-- the views that were kept before a connection, and those of its looks
pub stay_kept : (left later : Option (List ℕ)) (f f' : ℕ) (a c : Setting) (end : End) (ns ms : List ℕ) → Serves left later f f' a c end ns ms
    → AreOfHistory a.plans a.history a.kept → AreOfHistory c.plans c.history c.kept
stay_kept left later f f' a c end ns ms s are =
    let numbers : AllByRecursion (λ n. n ≤ length c.history) (numbers_of s.replies) =
    within_all (length a.history) (length c.history) (numbers_of s.replies)
    (subst (λ (xs : List ℕ). NeverFall (length a.history) xs (length c.history)) s.numbers_are s.numbers_never_fall)
    in
    let seen = seen_within end a.plans c.history (kept_behind a.plans c.history a.kept (numbers_of s.replies)) s.input (items_of s.replies) s.begun s.is_begun in
    let kept : AreOfHistory a.plans c.history (kept_behind a.plans c.history a.kept (numbers_of s.replies ++ s.begun.seen)) =
    kept_all a.plans c.history a.kept (numbers_of s.replies ++ s.begun.seen)
    (all_append (λ n. n ≤ length c.history) (numbers_of s.replies) s.begun.seen numbers seen)
    (all_later a.plans a.history c.history a.kept s.hub_goes_on.history_goes_on are)
    in
    subst (λ (p : Schedules). AreOfHistory p c.history c.kept) (sym s.hub_goes_on.plans_stay)
    (subst (λ (views : List KeptView). AreOfHistory a.plans c.history views) (sym s.views_are_kept) kept)
