-- A hub of one feed whose messages have the stamps 1, 2, 3 and so on.
use Rattle.std.proofs.Common.{◌≡◌, ℕ, List, ◌+◌, ◌<◌, [], ◌∷◌, ◌++◌, length, true, Some, Result, Ok, Err, codes, refl, sym, ap, ◌∙◌, subst, arith}
use Rattle.std.specs.Prelude.{IfOk, nat_le, unwrap_or}
use Rattle.std.proofs.lemmas.Bool.Decides.{nat_tests}
use Rattle.text_defs.specs.Moments.{last_moment}
use Rattle.rt_types.specs.declared.message.FeedMessage.{FeedMessage}
use Rattle.feed_defs.specs.declared.history.Entry.{Entry}
use Rattle.feed_defs.specs.History.{IsLegal, last_stamp, stamp_of, is_sound, has_version, has_moment}
use Rattle.feed_defs.proofs.Legal.{grown, legal_more}
use Rattle.board_defs.specs.Views.{HubKept, StandsFor, feed_at}
use Rattle.board_defs.proofs.ViewLaws.{fold_at}
use Rattle.hub_history.specs.declared.item.LogItem.TheVariants.{Accepted}
use Rattle.hub_history.specs.Told.{Told, history_of}
use Rattle.hub_history.proofs.Logs.{entries_append}

-- a receipt of a history with one message more
pub published : {E : Type 0} (r : Result Told E) (line : Told) (e named : Entry) → IfOk r (λ t. t ≡ record line { log = line.log ++ Accepted e ∷ [] }) → e ≡ named
    → IfOk r (λ t. history_of t ≡ history_of line ++ named ∷ [])
published (Ok t) line e named is same =
    ap (λ (x : Told). history_of x) is ∙ entries_append line.log (Accepted e ∷ []) ∙ ap (λ (x : Entry). history_of line ++ x ∷ []) same
published (Err x) line e named is same = tt

-- the next message may follow
has_next_moment : (m : FeedMessage) (stamp : ℕ) → stamp < last_moment → stamp_of m ≡ stamp + 1 → has_moment m ≡ true
has_next_moment m stamp few is =
    let low : nat_le 1 (stamp + 1) ≡ true = grind (arith, nat_tests) in
    let high : nat_le (stamp + 1) last_moment ≡ true = grind (arith, nat_tests) in
    rw (is, low, high) refl

pub may_follow : (line : Told) (kept : HubKept) (m : FeedMessage) (stamp : ℕ) → IsLegal line.feeds (history_of line) → StandsFor (history_of line) kept → line.feeds ≡ 1 → length kept.plans.feeds ≡ 1
    → stamp ≡ (feed_at kept 0).fold.stamp → stamp < last_moment → m.header.timestamp ≡ Some (stamp + 1) → m.header.version ≡ codes "2.0" → IsLegal line.feeds (grown (history_of line) 0 m)
may_follow line kept m stamp legal stands feeds one is few time version =
    let next : stamp_of m ≡ stamp + 1 = ap (λ t. unwrap_or t 0) time in
    let known : has_version m ≡ true = rw version refl in
    let sound : is_sound m ≡ true = rw (known, has_next_moment m stamp few next) refl in
    let within : 0 < length kept.plans.feeds = omega (arith, one) in
    let last : last_stamp 0 (history_of line) ≡ stamp = sym (is ∙ ap (λ fold. fold.stamp) (fold_at (history_of line) kept 0 stands within)) in
    let newer : last_stamp 0 (history_of line) < stamp_of m = omega (arith, last, next) in
    legal_more line.feeds (history_of line) 0 m legal (omega (arith, feeds)) sound newer

-- what stands for the history with a copy of the message stands for that with the message
pub stands_as : (h h' : List Entry) (copy m : FeedMessage) (next shared : HubKept) → copy ≡ m → h' ≡ grown h 0 m → shared ≡ next → StandsFor (grown h 0 copy) next → StandsFor h' shared
stands_as h h' copy m next shared same more share stands =
    let moved : StandsFor (grown h 0 m) next = subst (λ (x : FeedMessage). StandsFor (grown h 0 x) next) same stands in
    subst (λ (es : List Entry). StandsFor es shared) (sym more) (subst (λ (k : HubKept). StandsFor (grown h 0 m) k) (sym share) moved)

pub legal_as : (h h' : List Entry) (m : FeedMessage) (feeds feeds' : ℕ) → feeds' ≡ feeds → h' ≡ grown h 0 m → IsLegal feeds (grown h 0 m) → IsLegal feeds' h'
legal_as h h' m feeds feeds' few more legal =
    subst (λ (n : ℕ). IsLegal n h') (sym few) (subst (λ (es : List Entry). IsLegal feeds es) (sym more) legal)
