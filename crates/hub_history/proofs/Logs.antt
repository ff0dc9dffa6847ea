-- Logs with one item more.
use Rattle.std.proofs.Common.{◌≡◌, ℕ, ◌+◌, Bool, true, false, List, [], ◌∷◌, ◌++◌, length, ◌≤◌, refl, sym, ap, ◌∙◌, subst, arith, append-nil, length-append}
use mathlib.Core.List.{IsPrefix}
use Rattle.feed_defs.specs.declared.history.Entry.{Entry}
use Rattle.hub_history.specs.declared.item.LogItem.{LogItem}
use Rattle.hub_history.specs.declared.item.LogItem.TheVariants.{Accepted, Ended}
use Rattle.logbook.specs.Pages.{Book, Named, Nib, nib, may_write}
use Rattle.feed_defs.specs.History.{IsLegal}
use Rattle.hub_history.specs.Log.{entries_of, is_ended, is_orderly}
use Rattle.hub_history.specs.Rules.{head_of, count_of}
use Rattle.hub_history.specs.Told.{IsLine, first_away}
use Rattle.hub_history.specs.Authors.{IsAuthor}

pub entries_append : (log more : List LogItem) → entries_of (log ++ more) ≡ entries_of log ++ entries_of more
entries_append [] more = refl
entries_append (Accepted e ∷ log) more = ap (λ es. e ∷ es) (entries_append log more)
entries_append (Ended ∷ log) more = entries_append log more

-- an item may follow where the end isn't marked
pub orderly_more : (log : List LogItem) (item : LogItem) → is_orderly log ≡ true → is_ended log ≡ false → is_orderly (log ++ item ∷ []) ≡ true
orderly_more [] (Accepted e) orderly goes_on = refl
orderly_more [] Ended orderly goes_on = refl
orderly_more (Accepted e ∷ log) item orderly goes_on = orderly_more log item orderly goes_on
orderly_more (Ended ∷ log) item orderly goes_on = absurd (cc)

-- nothing stands behind an end
pub ended_whole : (log more : List LogItem) → is_ended log ≡ true → is_orderly (log ++ more) ≡ true → more ≡ []
ended_whole [] more ended orderly = absurd (cc)
ended_whole (Accepted e ∷ log) more ended orderly = ended_whole log more ended orderly
ended_whole (Ended ∷ []) [] ended orderly = refl
ended_whole (Ended ∷ []) (item ∷ more) ended orderly = absurd (cc)
ended_whole (Ended ∷ item ∷ log) more ended orderly = absurd (cc)

-- a log has no more messages than items
pub entries_few : (log : List LogItem) → length (entries_of log) ≤ length log
entries_few [] = omega arith
entries_few (Accepted e ∷ log) = let few = entries_few log in omega arith
entries_few (Ended ∷ log) = let few = entries_few log in omega arith

-- ---- lines with one item more

pub line_more : (items entries feeds : ℕ) (log new : List LogItem) (e : Entry) → IsLine items entries feeds log → is_ended log ≡ false → IsLegal feeds (entries_of log ++ e ∷ []) → new ≡ log ++ Accepted e ∷ [] → IsLine (items + 1) (entries + 1) feeds new
line_more items entries feeds log new e line goes_on legal is = subst (λ (xs : List LogItem). IsLine (items + 1) (entries + 1) feeds xs) (sym is) (record {
  items_are = omega (arith, line.items_are, length-append log (Accepted e ∷ []));
  entries_are = omega (arith, line.entries_are, ap length (entries_append log (Accepted e ∷ [])), length-append (entries_of log) (e ∷ []));
  orderly = orderly_more log (Accepted e) line.orderly goes_on;
  legal = subst (λ (es : List Entry). IsLegal feeds es) (sym (entries_append log (Accepted e ∷ []))) legal;
})

pub line_ended : (items entries feeds : ℕ) (log new : List LogItem) → IsLine items entries feeds log → is_ended log ≡ false → new ≡ log ++ Ended ∷ [] → IsLine (items + 1) entries feeds new
line_ended items entries feeds log new line goes_on is =
    let same : entries_of (log ++ Ended ∷ []) ≡ entries_of log = entries_append log (Ended ∷ []) ∙ append-nil (entries_of log) in
    subst (λ (xs : List LogItem). IsLine (items + 1) entries feeds xs) (sym is) (record {
      items_are = omega (arith, line.items_are, length-append log (Ended ∷ []));
      entries_are = line.entries_are ∙ sym (ap length same);
      orderly = orderly_more log Ended line.orderly goes_on;
      legal = subst (λ (es : List Entry). IsLegal feeds es) (sym same) line.legal;
    })

-- the author of a log with one item more has the pen of the next cell
pub author_more : (head count : Named) (pen_book : Book) (pen : Nib) (book : Book) (log : List LogItem) (item : LogItem) (items : ℕ) (pen_book' : Book) (pen' : Nib) (book' : Book) (new : List LogItem)
    → IsAuthor head count pen_book pen book log → items ≡ length log → new ≡ log ++ item ∷ [] → book' ≡ book → pen_book' ≡ book → pen' ≡ nib may_write (items + 1 + 2) 0 → IsAuthor head count pen_book' pen' book' new
author_more head count pen_book pen book log item items pen_book' pen' book' new author len is same_book same_pen nib_is = record {
  head_is = author.head_is ∙ ap (λ (b : Book). head_of b) (sym same_book);
  count_is = author.count_is ∙ ap (λ (b : Book). count_of b) (sym same_book);
  pen_is = same_pen ∙ sym same_book;
  away = nib_is ∙ ap (λ (n : ℕ). first_away n) (omega (arith, len, ap length is, length-append log (item ∷ [])));
}

pub goes_on_more : (log : List LogItem) (e : Entry) → is_ended log ≡ false → is_ended (log ++ Accepted e ∷ []) ≡ false
goes_on_more [] e goes_on = refl
goes_on_more (Accepted x ∷ log) e goes_on = goes_on_more log e goes_on
goes_on_more (Ended ∷ log) e goes_on = absurd (cc)

pub ended_more : (log : List LogItem) → is_ended (log ++ Ended ∷ []) ≡ true
ended_more [] = refl
ended_more (Accepted x ∷ log) = ended_more log
ended_more (Ended ∷ log) = refl

-- the messages of a log that was closed
pub entries_closed : (log : List LogItem) → entries_of (log ++ Ended ∷ []) ≡ entries_of log
entries_closed log = entries_append log (Ended ∷ []) ∙ append-nil (entries_of log)
