-- Texts, computed: each line is one rule.
use Rattle.std.specs.Prelude.{◌≡◌, refl, codes, true, false, Some, None, ◌∷◌, []}
use Rattle.text_defs.specs.Numbers.{number}
use Rattle.text_defs.specs.Dates.{is_day, date_in}
use Rattle.text_defs.specs.Times.{time_in}
use Rattle.text_defs.specs.Names.{is_name}
use Rattle.text_defs.specs.Cleaned.{cleaned_text}

with_zeros : number 10 0 1 (codes "0000000001") ≡ Some 1
unfolding number
with_zeros = refl

eleven_digits : number 10 0 1 (codes "00000000001") ≡ None
unfolding number
eleven_digits = refl

twelve_digits : number 12 0 999999999 (codes "000999999999") ≡ Some 999999999
unfolding number
twelve_digits = refl

too_large : number 10 0 4294967295 (codes "4294967296") ≡ None
unfolding number
too_large = refl

signed : number 10 0 9 (codes "+1") ≡ None
unfolding number
signed = refl

-- a time past midnight, and one of three digits of hours
past_midnight : time_in (codes "25:10:00") ≡ Some 90600
unfolding time_in
past_midnight = refl

hundred_hours : time_in (codes "100:00:01") ≡ Some 360001
unfolding time_in
hundred_hours = refl

one_digit : time_in (codes "8:40:00") ≡ Some 31200
unfolding time_in
one_digit = refl

sixty_seconds : time_in (codes "08:00:60") ≡ None
unfolding time_in
sixty_seconds = refl

no_hours : time_in (codes ":00:00") ≡ None
unfolding time_in
no_hours = refl

short_time : time_in (codes "0:00") ≡ None
unfolding time_in
short_time = refl

-- the leap day of a leap year, and of another year
leap_day : date_in (codes "20240229") ≡ Some 20240229
unfolding date_in is_day
leap_day = refl

no_leap_day : date_in (codes "20230229") ≡ None
unfolding date_in is_day
no_leap_day = refl

no_leap_century : date_in (codes "21000229") ≡ None
unfolding date_in is_day
no_leap_century = refl

no_month : date_in (codes "20251301") ≡ None
unfolding date_in is_day
no_month = refl

name : is_name (codes "city_2") ≡ true
unfolding is_name
name = refl

no_name : is_name (codes "City") ≡ false
unfolding is_name
no_name = refl

tab_is_space : cleaned_text (97 ∷ 9 ∷ 127 ∷ 195 ∷ []) ≡ 97 ∷ 32 ∷ 32 ∷ 195 ∷ []
tab_is_space = refl
