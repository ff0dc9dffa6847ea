-- Whole scripts, computed by the definitions.
use Rattle.std.specs.Prelude.{◌≡◌, ℕ, List, [], ◌∷◌, ◌++◌, length, replicate, Some, None, true, false, refl, codes}
use Rattle.std.specs.Str.{is_utf8, chars}
use Rattle.std.specs.Fmt.{decimal, digits}
use lib.Utf8.{encode}
use Rattle.pb_wire_defs.specs.Reading.{groups_at, varint_at, span_at, tag_at, payload_at as wire_payload_at, field_with, behind_end, group_at, field_at, fields_within, fields_of}
use Rattle.pb_wire_defs.specs.Writing.{groups, varint, payload_bytes, field_bytes}
use Rattle.feed_defs.specs.Rows.{occurrences_of, last_of, unknown_bytes_of, fields_of_all, value, message_bytes, merged_message, values, numbered_values}
use Rattle.feed_defs.specs.Table.{read, write}
use Rattle.feed_defs.specs.History.{well_formed, messages_of, since_full, changes_by_id, entities_of}
use Rattle.board_defs.specs.Feed.{feed_bytes}
use Rattle.board_defs.specs.Fold.{fold_of}
use Rattle.board_text_defs.specs.Answers.{feed_answer, feed_number, schedule_number}
use Rattle.percent_encoding.specs.Percent.{percent_decode}
use Rattle.text_defs.specs.Cleaned.{line_feed}
use Rattle.text_defs.specs.Names.{is_name}
use Rattle.text_defs.specs.Numbers.{number}
use Rattle.hub_replay_defs.specs.Lines.{line_within, longest_line, texts_of, head_of, length_in}
use Rattle.hub_replay_defs.specs.Record.{payload_at, turn, start, waits}
use Rattle.hub_replay_defs.specs.Output.{Output, run_within, run, is_open_within, is_open, replayed, refused_line}

-- a header of version 2.0 with that incrementality and that stamp, both below 128
abbrev pub header : ℕ → ℕ → List ℕ
header kind stamp = 0x0a ∷ 0x09 ∷ 0x0a ∷ 0x03 ∷ 0x32 ∷ 0x2e ∷ 0x30 ∷ 0x10 ∷ kind ∷ 0x18 ∷ stamp ∷ []

-- an embedded entity of those bytes, fewer than 128
abbrev pub entity : List ℕ → List ℕ
entity content = 0x12 ∷ length content ∷ content

-- the id of an entity, fewer than 128 bytes
abbrev pub id : List ℕ → List ℕ
id text = 0x0a ∷ length text ∷ text

abbrev pub line : List ℕ → List ℕ
line text = text ++ line_feed

-- the record that offers a message to the feed a
abbrev pub offer : List ℕ → List ℕ
offer message = line (codes "M a " ++ decimal (length message)) ++ line message

-- the script of the feed a with those records, and its output where it is done
abbrev pub script : List ℕ → List ℕ
script records = line (codes "F a") ++ records ++ line (codes "E")

abbrev pub done : List ℕ → Output
done text = record { written = text; status = 0 }

abbrev pub refused_at : ℕ → Output
refused_at place = record { written = refused_line place; status = 7 }

abbrev pub plain : List ℕ
plain = line (codes "O plain")

-- the lines of a combined feed
abbrev pub feed : List ℕ → List ℕ
feed message = line (codes "feed " ++ decimal (length message)) ++ line message

abbrev pub accepted : ℕ → List ℕ
accepted count = line (codes "accepted " ++ decimal count)

-- a message comes out as it came in; two headers are one; feeds that sent nothing; a schedule that
-- is not there
pub messages_are_fed :
    (replayed start (script (offer (header 0 5) ++ plain)) ≡ done (accepted 1 ++ feed (header 0 5)))
    × (replayed start
    (script (offer (0x0a ∷ 0x05 ∷ 0x0a ∷ 0x03 ∷ codes "2.0" ++ 0x0a ∷ 0x02 ∷ 0x18 ∷ 0x05 ∷ [])
    ++ plain))
    ≡ done (accepted 1 ++ feed (header 0 5)))
    × (replayed start (script plain) ≡ done (feed (header 0 0)))
    × (replayed start (script (line (codes "O city"))) ≡ done (line (codes "feed none")))
unfolding is_utf8 chars digits encode groups_at varint_at span_at tag_at wire_payload_at field_with
    behind_end group_at field_at fields_within fields_of groups varint payload_bytes field_bytes
    occurrences_of last_of unknown_bytes_of fields_of_all value message_bytes merged_message values
    numbered_values read write well_formed messages_of since_full changes_by_id entities_of
    feed_bytes fold_of feed_answer feed_number schedule_number line_within percent_decode texts_of
    head_of payload_at turn run_within run replayed is_name number waits is_open_within is_open
messages_are_fed = (refl, refl, refl, refl)

-- an entity goes out under its feed, and what is unknown within it as it came; one that the same
-- message deletes is gone
pub entities_are_named :
    (replayed start (script (offer (header 0 5 ++ entity (id (codes "x"))) ++ plain))
    ≡ done (accepted 1 ++ feed (header 0 5 ++ entity (id (codes "a:x")))))
    × (replayed start
    (script (offer (header 0 5 ++ entity (id (codes "x") ++ 0x4a ∷ 0x02 ∷ codes "hi"))
    ++ plain))
    ≡ done (accepted 1 ++ feed (header 0 5
    ++ entity (id (codes "a:x") ++ 0x4a ∷ 0x02 ∷ codes "hi"))))
    × (replayed start
    (script (offer (header 1 5 ++ entity (id (codes "x"))
    ++ entity (id (codes "x") ++ 0x10 ∷ 0x01 ∷ [])) ++ plain))
    ≡ done (accepted 1 ++ feed (header 0 5)))
unfolding is_utf8 chars digits encode groups_at varint_at span_at tag_at wire_payload_at field_with
    behind_end group_at field_at fields_within fields_of groups varint payload_bytes field_bytes
    occurrences_of last_of unknown_bytes_of fields_of_all value message_bytes merged_message values
    numbered_values read write well_formed messages_of since_full changes_by_id entities_of
    feed_bytes fold_of feed_answer feed_number schedule_number line_within percent_decode texts_of
    head_of payload_at turn run_within run replayed is_name number waits is_open_within is_open
entities_are_named = (refl, refl, refl)

-- a whole data set takes the place of all before it
pub full_starts_anew :
    replayed start (script (offer (header 1 1 ++ entity (id (codes "p")))
    ++ offer (header 1 2 ++ entity (id (codes "q")))
    ++ offer (header 1 3 ++ entity (id (codes "r")))
    ++ offer (header 0 4 ++ entity (id (codes "s"))) ++ plain))
    ≡ done (accepted 1 ++ accepted 2 ++ accepted 3 ++ accepted 4
    ++ feed (header 0 4 ++ entity (id (codes "a:s"))))
unfolding is_utf8 chars digits encode groups_at varint_at span_at tag_at wire_payload_at field_with
    behind_end group_at field_at fields_within fields_of groups varint payload_bytes field_bytes
    occurrences_of last_of unknown_bytes_of fields_of_all value message_bytes merged_message values
    numbered_values read write well_formed messages_of since_full changes_by_id entities_of
    feed_bytes fold_of feed_answer feed_number schedule_number line_within percent_decode texts_of
    head_of payload_at turn run_within run replayed is_name number waits is_open_within is_open
full_starts_anew = refl

-- a message is taken once; another version, and one whose control characters would break the line;
-- no stamp
pub messages_are_refused :
    (replayed start (script (offer (header 0 5) ++ offer (header 0 5))) ≡ done (accepted 1
    ++ line (codes "refused stale 5 5")))
    × (replayed start
    (script (offer (0x0a ∷ 0x09 ∷ 0x0a ∷ 0x03 ∷ codes "3.0" ++ 0x10 ∷ 0x00 ∷ 0x18 ∷ 0x05 ∷ [])))
    ≡ done (line (codes "refused version 3.0")))
    × (replayed start
    (script (offer (0x0a ∷ 0x09 ∷ 0x0a ∷ 0x03 ∷ 0x0a ∷ 0x7f ∷ 0x30 ∷ 0x10 ∷ 0x00 ∷ 0x18 ∷ 0x05
    ∷ [])))
    ≡ done (line (codes "refused version   0")))
    × (replayed start (script (offer (0x0a ∷ 0x05 ∷ 0x0a ∷ 0x03 ∷ codes "2.0"))) ≡ done
    (line (codes "refused stamp 0")))
unfolding is_utf8 chars digits encode groups_at varint_at span_at tag_at wire_payload_at field_with
    behind_end group_at field_at fields_within fields_of groups varint payload_bytes field_bytes
    occurrences_of last_of unknown_bytes_of fields_of_all value message_bytes merged_message values
    numbered_values read write well_formed messages_of since_full changes_by_id entities_of
    feed_bytes fold_of feed_answer feed_number schedule_number line_within percent_decode texts_of
    head_of payload_at turn run_within run replayed is_name number waits is_open_within is_open
messages_are_refused = (refl, refl, refl, refl)

-- faults tell the entity that they are in, and change nothing
pub faults_are_named :
    replayed start (script (offer (header 0 5 ++ entity (0x0a ∷ 0x01 ∷ []))
    ++ offer (header 0 5 ++ 0x12 ∷ 0x03 ∷ 0x0a ∷ 0x01 ∷ []) ++ offer (header 0 5)))
    ≡ done (line (codes "refused malformed 1 cut FeedEntity 0")
    ++ line (codes "refused malformed 0 cut FeedMessage 0") ++ accepted 1)
unfolding is_utf8 chars digits encode groups_at varint_at span_at tag_at wire_payload_at field_with
    behind_end group_at field_at fields_within fields_of groups varint payload_bytes field_bytes
    occurrences_of last_of unknown_bytes_of fields_of_all value message_bytes merged_message values
    numbered_values read write well_formed messages_of since_full changes_by_id entities_of
    feed_bytes fold_of feed_answer feed_number schedule_number line_within percent_decode texts_of
    head_of payload_at turn run_within run replayed is_name number waits is_open_within is_open
faults_are_named = refl

-- so many groups, one within the other
abbrev pub nested : ℕ → List ℕ
nested depth = replicate depth 0x4b ++ replicate depth 0x4c

-- groups nest 64 deep
pub groups_nest :
    replayed start (script (offer (header 0 5 ++ nested 64) ++ offer (header 0 6 ++ nested 65)))
    ≡ done (accepted 1 ++ line (codes "refused malformed 0 group FeedMessage 0"))
unfolding is_utf8 chars digits encode groups_at varint_at span_at tag_at wire_payload_at field_with
    behind_end group_at field_at fields_within fields_of groups varint payload_bytes field_bytes
    occurrences_of last_of unknown_bytes_of fields_of_all value message_bytes merged_message values
    numbered_values read write well_formed messages_of since_full changes_by_id entities_of
    feed_bytes fold_of feed_answer feed_number schedule_number line_within percent_decode texts_of
    head_of payload_at turn run_within run replayed is_name number waits is_open_within is_open
groups_nest = refl

-- a line that is no record; an input that ends before E
pub scripts_are_refused :
    (replayed start (line (codes "X")) ≡ refused_at 0)
    × (replayed start (line (codes "F a")) ≡ refused_at 4)
unfolding is_utf8 chars digits encode groups_at varint_at span_at tag_at wire_payload_at field_with
    behind_end group_at field_at fields_within fields_of groups varint payload_bytes field_bytes
    occurrences_of last_of unknown_bytes_of fields_of_all value message_bytes merged_message values
    numbered_values read write well_formed messages_of since_full changes_by_id entities_of
    feed_bytes fold_of feed_answer feed_number schedule_number line_within percent_decode texts_of
    head_of payload_at turn run_within run replayed is_name number waits is_open_within is_open
scripts_are_refused = (refl, refl)

-- a length of 12 digits is one, a length of 13 digits and one above the greatest are none
pub lengths :
    (length_in (codes "000000000011") ≡ Some 11) × (length_in (codes "0000000000011") ≡ None)
    × (length_in (codes "999999999") ≡ Some 999999999) × (length_in (codes "1000000000") ≡ None)
    × (length_in [] ≡ None)
unfolding number
lengths = (refl, refl, refl, refl, refl)

-- a line has 4096 bytes at most, its LF included
pub lines_are_bounded :
    (line_within longest_line (line (replicate 4095 0x78)) ≡ Some (replicate 4095 0x78, []))
    × (line_within longest_line (line (replicate 4096 0x78)) ≡ None)
unfolding line_within
lines_are_bounded = (refl, refl)

-- what waits for more bytes, and what is refused whatever follows
pub records_wait :
    (waits start (codes "X") ≡ true) × (waits start (line (codes "X")) ≡ false)
    × (is_open start (line (codes "F a") ++ line (codes "M a 2") ++ codes "ab") ≡ true)
    × (is_open start (line (codes "F a") ++ line (codes "M b 2")) ≡ false)
    × (is_open start (line (codes "F a") ++ line (codes "E")) ≡ false)
unfolding is_utf8 chars digits encode groups_at varint_at span_at tag_at wire_payload_at field_with
    behind_end group_at field_at fields_within fields_of groups varint payload_bytes field_bytes
    occurrences_of last_of unknown_bytes_of fields_of_all value message_bytes merged_message values
    numbered_values read write well_formed messages_of since_full changes_by_id entities_of
    feed_bytes fold_of feed_answer feed_number schedule_number line_within percent_decode texts_of
    head_of payload_at turn run_within run replayed is_name number waits is_open_within is_open
records_wait = (refl, refl, refl, refl, refl)
