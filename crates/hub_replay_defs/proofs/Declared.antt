-- Which feeds may be declared, and lines with odd words: each line computes.
use Rattle.std.specs.Prelude.{◌≡◌, [], ◌∷◌, ◌++◌, Some, None, refl, codes}
use Rattle.std.specs.Str.{is_utf8, chars}
use Rattle.std.specs.Fmt.{digits}
use lib.Utf8.{encode}
use Rattle.percent_encoding.specs.Percent.{percent_decode}
use Rattle.text_defs.specs.Names.{is_name}
use Rattle.text_defs.specs.Numbers.{number}
use Rattle.pb_wire_defs.specs.Writing.{groups, varint, payload_bytes, field_bytes}
use Rattle.feed_defs.specs.History.{messages_of, since_full, changes_by_id, entities_of}
use Rattle.feed_defs.specs.Rows.{fields_of_all, value, message_bytes, merged_message, values, numbered_values}
use Rattle.feed_defs.specs.Table.{read, write}
use Rattle.board_defs.specs.Feed.{feed_bytes}
use Rattle.board_defs.specs.Fold.{fold_of}
use Rattle.board_text_defs.specs.Answers.{feed_answer, feed_number, schedule_number}
use Rattle.board_text_defs.specs.Answers.Question.{FeedOf}
use Rattle.hub_replay_defs.specs.Lines.{head_of, line_within, texts_of}
use Rattle.hub_replay_defs.specs.Lines.Head.{Ask}
use Rattle.hub_replay_defs.specs.Record.{payload_at, start, turn, waits}
use Rattle.hub_replay_defs.specs.Output.{replayed, run, run_within}
use Rattle.hub_replay_defs.specs.Examples.{done, feed, header, line, plain, refused_at}

-- a name once, of the right form, and before all other records; a message of no feed
feeds_are_declared :
    (replayed start (line (codes "F a") ++ (line (codes "F b") ++ line (codes "E"))) ≡ done [])
    × (replayed start (line (codes "F a") ++ line (codes "F a")) ≡ refused_at 4)
    × (replayed start (line (codes "F A")) ≡ refused_at 0)
    × (replayed start (line (codes "F ")) ≡ refused_at 0)
    × (replayed start (line (codes "F a") ++ (plain ++ line (codes "F b")))
    ≡ record { written = feed (header 0 0) ++ (refused_at 12).written; status = 7 })
    × (replayed start (line (codes "F a") ++ (line (codes "M b 2") ++ line (codes "ab"))) ≡ refused_at 4)
unfolding is_utf8 chars digits encode groups varint payload_bytes field_bytes fields_of_all value message_bytes merged_message values numbered_values read write messages_of since_full changes_by_id entities_of feed_bytes fold_of feed_answer feed_number schedule_number line_within percent_decode texts_of head_of payload_at turn run_within run replayed is_name number waits
feeds_are_declared = (refl, refl, refl, refl, refl, refl)

-- nothing behind the end of a script is looked at
end_ends : replayed start (line (codes "E") ++ (line (codes "X") ++ line (codes "F a"))) ≡ done []
unfolding is_utf8 chars digits encode line_within percent_decode texts_of head_of payload_at turn run_within run replayed
end_ends = refl

-- an empty word is one, of a schedule that isn't there; two spaces are two words; a space behind a
-- last word is a word more
empty_words :
    (head_of (codes "O ") ≡ Some (Ask (FeedOf []))) × (head_of (codes "O") ≡ None) × (head_of (codes "O  ") ≡ None)
    × (head_of (codes " O") ≡ None) × (head_of (codes "E ") ≡ None) × (head_of [] ≡ None)
    × (head_of (codes "O %c3%a4") ≡ Some (Ask (FeedOf (195 ∷ 164 ∷ []))))
    × (head_of (codes "O %c3") ≡ None)
    × (head_of (codes "O a%2") ≡ Some (Ask (FeedOf (codes "a%2"))))
unfolding is_utf8 chars encode percent_decode texts_of head_of number
empty_words = (refl, refl, refl, refl, refl, refl, refl, refl, refl)
