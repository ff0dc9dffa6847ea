-- Nothing stands in the log at first.
use Rattle.std.proofs.Common.{◌≡◌, ℕ, List, [], refl, sym, subst, rules}
use Rattle.feed_defs.proofs.Legal.{empty_legal}
use Rattle.hub_history.specs.declared.item.LogItem.{LogItem}
use Rattle.hub_history.specs.Told.{IsLine}
use Rattle.hub_history.proofs.author.Author.open.Goals as goal

first_line : (feeds : ℕ) → IsLine 0 0 feeds []
first_line feeds = record { items_are = refl; entries_are = refl; orderly = refl; legal = empty_legal feeds }

pub invariant_of-result : goal.invariant_of-result
invariant_of-result c = record {
  line = subst (λ (log : List LogItem). IsLine 0 0 c.args.feeds log) (sym c.open-seen.ensures.1) (first_line c.args.feeds);
  words = record { head_is = search rules; count_is = search rules; pen_is = search rules; away = search rules };
  few = search rules;
}
