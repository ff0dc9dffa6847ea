-- Numbers and the word of the state are plain, and the texts stand behind them.
use Rattle.std.proofs.Common.{[], ◌∷◌, ◌++◌, ap, ◌∙◌}
use Rattle.std.specs.List.{flat_map}
use Rattle.board_text_defs.specs.BoardText.{state_word}
use Rattle.board_text.specs.Fields.{before_tab}
use Rattle.board_text.proofs.Plain.{plain_state}
use Rattle.board_text.proofs.Tabs.{texts_then}
use Rattle.board_text.proofs.as_text.push_cells.Goals as goal

pub returns-clause-written : goal.returns-clause-written
returns-clause-written c =
    let row = c.args.row.now in
    texts_then c.push_texts.result (c.args.expected.now ∷ c.args.scheduled.now ∷ c.args.delay.now ∷ state_word row.state ∷ []) row.route (row.headsign ∷ row.trip ∷ row.date ∷ row.platform ∷ []) _ _ _
    (c.requires.expected, (c.requires.scheduled, (c.requires.delay, (plain_state row.state, tt))))
    (c.in_ok-push_plain.ensures.written
    ∙ ap (λ word. c.args.out.now.items ++ flat_map before_tab (c.args.expected.now ∷ c.args.scheduled.now ∷ c.args.delay.now ∷ word ∷ [])) c.word_of-state.ensures)
    c.push_texts.ensures.written
