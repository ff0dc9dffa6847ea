-- Histories that begin with one another, and what they have of a feed.
use Rattle.std.proofs.Common.{◌≡◌, ℕ, ◌+◌, ◌≤◌, List, [], ◌∷◌, ◌++◌, ◌-◌, length, Option, Some, refl, sym, ap, ◌∙◌, subst, arith, append-nil, length-append}
use Rattle.std.specs.Prelude.{slice_get}
use Rattle.std.specs.Option.{option_map}
use mathlib.Core.List.{IsPrefix}
use Rattle.rt_types.specs.declared.message.FeedMessage.{FeedMessage}
use Rattle.feed_defs.specs.declared.history.Entry.{Entry}
use Rattle.feed_defs.specs.History.{messages_of, message_of}
use Rattle.hub_history.specs.declared.item.LogItem.{LogItem}
use Rattle.hub_history.specs.Log.{entries_of}
use Rattle.hub_history.proofs.Logs.{entries_append}
use Rattle.std.proofs.lemmas.List.Elements.{filter_map-append}
use Rattle.hub_shared.specs.Seats.{Begins, count_of, last_feed}

pub begins_append : (xs ys : List Entry) → Begins xs (xs ++ ys)
begins_append [] ys = refl
begins_append (x ∷ xs) ys = ap (λ (zs : List Entry). x ∷ zs) (begins_append xs ys)

-- what stands behind it
pub rest_of : (xs zs : List Entry) → Begins xs zs → (ys : List Entry) × (zs ≡ xs ++ ys)
rest_of [] zs b = (zs, refl)
rest_of (x ∷ xs) [] b = absurd (cc)
rest_of (x ∷ xs) (z ∷ zs) b = let t = rest_of xs zs (cc) in let same : z ≡ x = cc in (t.0, ap (λ (w : Entry). w ∷ zs) same ∙ ap (λ (ws : List Entry). x ∷ ws) t.1)

pub begins_trans : (xs ys zs : List Entry) → Begins xs ys → Begins ys zs → Begins xs zs
begins_trans xs ys zs a b =
    let s = rest_of xs ys a in
    let t = rest_of ys zs b in
    let whole : zs ≡ xs ++ (s.0 ++ t.0) = t.1 ∙ ap (λ (ws : List Entry). ws ++ t.0) s.1 ∙ grouped xs s.0 t.0 in
    subst (λ (ws : List Entry). Begins xs ws) (sym whole) (begins_append xs (s.0 ++ t.0))
  where
    grouped : (a b c : List Entry) → (a ++ b) ++ c ≡ a ++ (b ++ c)
    grouped [] b c = refl
    grouped (x ∷ a) b c = ap (λ (ws : List Entry). x ∷ ws) (grouped a b c)

-- the messages of a log that begins another begin its messages
pub prefix_begins : (old new : List LogItem) → IsPrefix old new → Begins (entries_of old) (entries_of new)
prefix_begins old new pre = grind (arith, entries_append, begins_append)

pub messages_append : (feed : ℕ) (xs ys : List Entry) → messages_of feed (xs ++ ys) ≡ messages_of feed xs ++ messages_of feed ys
unfolding messages_of
messages_append feed xs ys = filter_map-append (message_of feed) xs ys

pub none_left : (xs : List FeedMessage) → length xs ≡ 0 → xs ≡ []
none_left [] e = refl
none_left (x ∷ xs) e = absurd (omega arith)

-- a history that begins with another, and has no more of a feed, has the same messages of it
pub level : (feed : ℕ) (old new : List Entry) → Begins old new → count_of feed new ≤ count_of feed old → messages_of feed new ≡ messages_of feed old
level feed old new begins few =
    grind (arith, rest_of, messages_append, none_left, length-append, append-nil)

last_of_more : (xs : List Entry) (x : Entry) → slice_get (xs ++ x ∷ []) (length (xs ++ x ∷ []) - 1) ≡ Some x
last_of_more xs x = let e : length (xs ++ x ∷ []) - 1 ≡ length xs = omega (arith, length-append xs (x ∷ [])) in
    ap (slice_get (xs ++ x ∷ [])) e ∙ at xs
  where
    at : (ys : List Entry) → slice_get (ys ++ x ∷ []) (length ys) ≡ Some x
    at [] = refl
    at (y ∷ ys) = at ys

-- a history with one message more ends with it
pub last_feed_more : (h : List Entry) (entry : Entry) → last_feed (h ++ entry ∷ []) ≡ Some entry.feed
last_feed_more h entry = ap (λ (o : Option Entry). option_map (λ e. e.feed) o) (last_of_more h entry)
