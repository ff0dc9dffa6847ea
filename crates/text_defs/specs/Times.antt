-- Times of a service day as GTFS Schedule writes them, "Field Types", Time.
use Rattle.std.specs.Prelude.{ℕ, ◌+◌, ◌-◌, ◌*◌, ◌&&◌, ◌==◌, if◌then◌else◌, List, [], ◌∷◌, length, take, drop, Option, None}
use Rattle.std.specs.Option.{option_and_then, option_map}
use Rattle.text_defs.specs.Numbers.{digits, within}

-- two digits of minutes or seconds
abbrev pub sixtieth : List ℕ → Option ℕ
sixtieth bytes = option_and_then (within 0 59) (digits 2 2 bytes)

-- the seconds of hours, minutes and seconds, where there are all three
abbrev pub seconds_of : Option ℕ → Option ℕ → Option ℕ → Option ℕ
seconds_of hours minutes seconds =
    option_and_then
    (λ h. option_and_then (λ m. option_map (λ s. h * 3600 + m * 60 + s) seconds) minutes)
    hours

-- a time whose hours are cut from the rest: a colon, two digits, a colon, two digits
abbrev pub clock_of : List ℕ → List ℕ → Option ℕ
clock_of hours (colon ∷ a ∷ b ∷ colon2 ∷ c ∷ d ∷ []) =
    if (colon == 58) && (colon2 == 58)
    then seconds_of (digits 1 3 hours) (sixtieth (a ∷ b ∷ [])) (sixtieth (c ∷ d ∷ []))
    else None
clock_of hours _ = None

-- a time H:MM:SS, HH:MM:SS or HHH:MM:SS in seconds; the hours may pass a day
unfoldable pub time_in : List ℕ → Option ℕ
time_in bytes = clock_of (take (length bytes - 6) bytes) (drop (length bytes - 6) bytes)
