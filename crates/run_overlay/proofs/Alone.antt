-- A feed by itself: its updates are those of a hub that has it alone, and of a feed that holds nothing nothing is kept.
use Rattle.std.proofs.Common.{◌≡◌, ℕ, List, [], ◌∷◌, ◌++◌, Option, Some, None, map, refl, ap, ◌∙◌, append-nil}
use Rattle.std.specs.List.{cons_option, filter_map, flat_map}
use Rattle.feed_defs.specs.declared.history.Stored.{Stored}
use Rattle.feed_defs.specs.History.{Change as EntityChange}
use Rattle.sched_types.specs.Timetable.{Timetable}
use Rattle.board_defs.specs.Choice.{Update, chosen, if_counting, update_at, updates_at}
use Rattle.board_defs.specs.Fold.{FeedFold}
use Rattle.sched_types.specs.Runs.{all_runs}
use Rattle.keyed_lists.specs.Keyed.{by_key}
use Rattle.run_overlay.specs.Keys.{live_run_key, row_cmp, row_key, run_cmp}
use Rattle.run_overlay.specs.Kept.{live_of, live_run, mentions_of, no_mentions, no_overlay, nothing_live, overlay_of}
use Rattle.run_overlay.specs.Live.{live_rows}
use Rattle.run_overlay.specs.Updates.{feed_alone, held_alone, update_alone, updates_of}
use Rattle.keyed_lists.proofs.Tables.{filter_map_same}

-- ---- the updates of a feed alone are those of a hub of it, at whatever moment

always : (at : ℕ) (s : Stored) (given : Option Update) → if_counting at (held_alone s) given ≡ given
always at s None = refl
always at s (Some u) = refl

filter_map_of_map : {A B X : Type 0} (f : B → Option X) (g : A → B) (items : List A) → filter_map f (map g items) ≡ filter_map (λ a. f (g a)) items
filter_map_of_map f g [] = refl
filter_map_of_map f g (a ∷ items) = ap (cons_option (f (g a))) (filter_map_of_map f g items)

pub updates_alone : (at : ℕ) (fold : FeedFold) → updates_at 0 at (feed_alone ∷ []) (fold ∷ []) ≡ updates_of fold.entities
unfolding updates_of
updates_alone at fold =
    ap (filter_map (update_at at)) (append-nil (map (λ (c : EntityChange). held_alone c.1) fold.entities))
    ∙ filter_map_of_map (update_at at) (λ (c : EntityChange). held_alone c.1) fold.entities
    ∙ filter_map_same (λ (c : EntityChange). update_at at (held_alone c.1)) (λ c. update_alone c.1) (λ c. always at c.1 (update_alone c.1)) fold.entities

-- ---- nothing

none_given : {A X : Type 0} (f : A → Option X) → ((a : A) → f a ≡ None) → (items : List A) → filter_map f items ≡ []
none_given f none [] = refl
none_given f none (a ∷ items) = ap (λ o. cons_option o (filter_map f items)) (none a) ∙ none_given f none items

nothing_flat : {A X : Type 0} (f : A → List X) → ((a : A) → f a ≡ []) → (items : List A) → flat_map f items ≡ []
nothing_flat f none [] = refl
nothing_flat f none (a ∷ items) = ap (λ xs. xs ++ flat_map f items) (none a) ∙ nothing_flat f none items

no_mentions_kept : (t : Timetable) → mentions_of t [] ≡ no_mentions
unfolding mentions_of by_key
no_mentions_kept t = refl

nothing_lives : (t : Timetable) → live_of t (updates_of []) ≡ nothing_live
unfolding live_of live_rows updates_of chosen by_key
nothing_lives t = λ i. record {
  runs = ap (by_key run_cmp live_run_key) (none_given (live_run t []) (λ run. refl) (all_runs t)) i;
  rows = ap (by_key row_cmp row_key) (nothing_flat (live_rows t []) (λ run. refl) (all_runs t)) i;
}

-- the overlay of a feed that holds nothing has nothing
pub none_kept : (t : Timetable) → overlay_of t [] ≡ no_overlay
unfolding overlay_of
none_kept t = λ i. record { mentions = no_mentions_kept t i; live = nothing_lives t i }
