-- Lines of files, as they are put together of texts.
use Rattle.std.specs.Prelude.{ℕ, List, [], ◌∷◌, ◌++◌, codes}
use Rattle.text_defs.specs.Cleaned.{line_feed}
use Rattle.hub_gen_defs.specs.Network.{csv_line, time_text}

-- an id: a letter, and the digits of a number
abbrev pub id_of : List ℕ → List ℕ → List ℕ
id_of letter digits = letter ++ digits

-- a stop, a route, and a trip of a route, of the digits of their numbers
abbrev pub stop_cells : List ℕ → List ℕ
stop_cells number =
    csv_line (id_of (codes "S") number ∷ id_of (codes "S") number ∷ [] ∷ [] ∷ [])

abbrev pub route_cells : List ℕ → List ℕ
route_cells number =
    csv_line (id_of (codes "R") number ∷ codes "A" ∷ id_of (codes "R") number ∷ [] ∷ codes "3" ∷ [])

abbrev pub trip_cells : List ℕ → List ℕ → List ℕ
trip_cells number route =
    csv_line (id_of (codes "T") number ∷ id_of (codes "R") route ∷ codes "X" ∷ [] ∷ codes "0" ∷ [])

-- a place of a trip up to its times, and its times with what is behind them
abbrev pub place_front : List ℕ → List ℕ → List ℕ → List ℕ
place_front trip stop sequence =
    id_of (codes "T") trip ++ codes "," ++ id_of (codes "S") stop ++ codes "," ++ sequence
    ++ codes ","

abbrev pub times_end : ℕ → List ℕ
times_end seconds = time_text seconds ++ codes "," ++ time_text seconds ++ codes ",0" ++ line_feed
