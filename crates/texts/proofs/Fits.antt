-- How large a number of few digits is.
use Rattle.std.proofs.Common.{ℕ, zero, ◌^◌, ◌<◌, ◌≤◌, arith, lit<}
use Rattle.std.proofs.Math.Nat.{pow-le-pow_right}

-- what at most 18 digits write
pub below_limit : (value count length : ℕ) → value < 10 ^ count → count < length → length ≤ 19 → value < 10 ^ 18
below_limit value count length small more most =
    let few : count ≤ 18 = omega arith in
    let ten : zero < 10 = lit< tt in
    let wide : 10 ^ count ≤ 10 ^ 18 = pow-le-pow_right {n = 10} ten {i = count} {j = 18} few in
    omega (arith, small, wide)
