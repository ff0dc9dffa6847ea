-- Draws, lines and a message of the sample of the seed 1, computed by the definitions.
use Rattle.std.specs.Prelude.{◌≡◌, [], ◌∷◌, ◌++◌, refl, codes, take, map, pos, negsuc}
use Rattle.std.specs.Fmt.{digits}
use Rattle.text_defs.specs.Cleaned.{line_feed}
use Rattle.rt_types.specs.declared.enums.Incrementality.TheVariants.{FullDataset, Differential}
use Rattle.pb_wire_defs.specs.Writing.{groups, varint, payload_bytes, field_bytes}
use Rattle.feed_defs.specs.Rows.{message_bytes}
use Rattle.feed_defs.specs.Table.{write}
use Rattle.hub_gen_defs.specs.Draws.{draw, state_after, state_behind}
use Rattle.hub_gen_defs.specs.Network.{route_line, stop_line, stop_time_line, time_text, trip_line}
use Rattle.hub_gen_defs.specs.Messages.{delay_by, deleted, entities_from, feed_of, incrementality_of, late, offer_of}

-- the first six numbers of the seed 1, and the first three of the last seed
pub first_draws : map (draw 1) (0 ∷ 1 ∷ 2 ∷ 3 ∷ 4 ∷ 5 ∷ []) ≡ 908834774 ∷ 1093944153 ∷ 1392341196 ∷ 822192870 ∷ 1708211034 ∷ 1074839795 ∷ []
unfolding state_after state_behind
first_draws = refl

pub last_seed_draws : map (draw 18446744073709551615) (0 ∷ 1 ∷ 2 ∷ []) ≡ 1574552488 ∷ 1490332343 ∷ 1207502677 ∷ []
unfolding state_after state_behind
last_seed_draws = refl

-- ---- lines

pub a_stop : stop_line 99 ≡ codes "S99,S99,," ++ line_feed
unfolding digits
a_stop = refl

pub a_route : route_line 9 ≡ codes "R9,A,R9,,3" ++ line_feed
unfolding digits
a_route = refl

pub a_trip : trip_line 1234 ≡ codes "T1234,R4,X,,0" ++ line_feed
unfolding digits
a_trip = refl

-- the last place of the trip that begins in a day's last minute
pub past_midnight : stop_time_line 1439 19 ≡ codes "T1439,S30,20,24:37:00,24:37:00,0" ++ line_feed
unfolding digits time_text
past_midnight = refl

-- ---- messages

-- whole data sets
pub which_are_whole : map incrementality_of (1 ∷ 2 ∷ 3 ∷ 50 ∷ 51 ∷ 52 ∷ [])
    ≡ FullDataset ∷ FullDataset ∷ Differential ∷ Differential ∷ FullDataset ∷ FullDataset ∷ []
which_are_whole = refl

pub which_feed : map feed_of (1 ∷ 2 ∷ 3 ∷ []) ≡ 0 ∷ 1 ∷ 0 ∷ []
which_feed = refl

-- five minutes early at the earliest, fifteen late at the latest
pub delays : (delay_by 0 ≡ negsuc 299) × (delay_by 153600 ≡ pos 0) × (delay_by 614911 ≡ pos 900) × (delay_by 614912 ≡ negsuc 299)
delays = (refl, refl, refl, refl)

pub first_entities : entities_from 1 10 0 3 ≡ late 4 10 (negsuc 269) ∷ deleted 6 ∷ late 4 8 (pos 849) ∷ []
unfolding state_after state_behind entities_from
first_entities = refl

-- the first message's header and its first two entities
pub first_message : take 65 (offer_of 1 10 1).bytes
    ≡ 0x0a ∷ 0x0d ∷ 0x0a ∷ 0x03 ∷ 0x32 ∷ 0x2e ∷ 0x30 ∷ 0x10 ∷ 0x00 ∷ 0x18 ∷ 0x81 ∷ 0x8b ∷ 0xd2 ∷ 0xbb ∷ 0x06
    ∷ 0x12 ∷ 0x27 ∷ 0x0a ∷ 0x02 ∷ 0x65 ∷ 0x34 ∷ 0x1a ∷ 0x21 ∷ 0x0a ∷ 0x0e ∷ 0x0a ∷ 0x02 ∷ 0x54 ∷ 0x34 ∷ 0x1a ∷ 0x08
    ∷ 0x32 ∷ 0x30 ∷ 0x32 ∷ 0x35 ∷ 0x30 ∷ 0x31 ∷ 0x30 ∷ 0x31 ∷ 0x12 ∷ 0x0f ∷ 0x08 ∷ 0x0a ∷ 0x1a ∷ 0x0b ∷ 0x08
    ∷ 0xf2 ∷ 0xfd ∷ 0xff ∷ 0xff ∷ 0xff ∷ 0xff ∷ 0xff ∷ 0xff ∷ 0xff ∷ 0x01
    ∷ 0x12 ∷ 0x06 ∷ 0x0a ∷ 0x02 ∷ 0x65 ∷ 0x36 ∷ 0x10 ∷ 0x01 ∷ 0x12 ∷ []
unfolding state_after state_behind entities_from digits message_bytes field_bytes payload_bytes varint groups write
first_message = refl
