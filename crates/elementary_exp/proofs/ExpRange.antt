-- The numbers of the exponential's reduction, over one denominator Q: x = (Xp - Xn) / Q, q = x * 64 / ln 2 = (Up - Un) / Q and z = q + 131071.25 = Z / Q, each
-- rounded once, and u = K / Q the whole number nearest z; u - zero_steps = (Kp - Kn) / Q. Then x less that times 0.0108304246959.. lies between 0.002 and 0.014.
-- Nothing here is about floats. Assumes nothing.
use Rattle.std.proofs.Common.{◌≡◌, ℕ, ◌+◌, ◌*◌, ◌<◌, ◌≤◌, mul-le-mul_right, mul-le-mul_left, le_of_mul-le-mul_right, arith}
use Rattle.elementary_exp.proofs.ExpConstants.{fewest_steps, most_steps, per_unit_high, per_unit_low, remainder_least, remainder_most, shift_top, slope_high, slope_low, slope_most, start_low, start_most, step_least, step_most, zero_steps}

-- a ≤ b * q / p and q / p ≤ u / v
pub ratio : (a b p q u v : ℕ) → 0 < p → a * p ≤ b * q → q * v ≤ u * p → a * v ≤ b * u
ratio a b p q u v P h k = le_of_mul-le-mul_right {k = p} (omega (arith, mul-le-mul_right v h, mul-le-mul_left b k)) P

pub above : (Q Xp Xn Up Un Z W : ℕ) → Up * 1000000 ≤ Xp * per_unit_high → Xn * per_unit_low ≤ Un * 1000000 → W + 4 * Un ≡ 4 * Up + shift_top * Q → 4 * Z * 10000000 ≤ W * 10000001
    → Z * 10000000 + slope_low * Xn ≤ slope_most * Xp + start_most * Q
above Q Xp Xn Up Un Z W a b w z = omega arith

pub below : (Q Xp Xn Up Un Z W : ℕ) → Xp * per_unit_low ≤ Up * 1000000 → Un * 1000000 ≤ Xn * per_unit_high → W + 4 * Un ≡ 4 * Up + shift_top * Q → W * 10000000 ≤ 4 * Z * 10000001
    → Xp * slope_low + start_low * Q ≤ Z * 10000001 + slope_high * Xn
below Q Xp Xn Up Un Z W a b w z = omega arith

pub far_of : (Q Xp Xn Z K Kp Kn : ℕ) → Z * 10000000 + slope_low * Xn ≤ slope_most * Xp + start_most * Q → K * 10000 ≤ Z * 10000 + 5001 * Q → Kp + zero_steps * Q ≡ K + Kn → Kn ≤ zero_steps * Q → Xp ≤ 700 * Q → Xn ≤ 700 * Q
    → Xn * 10000000000 + Kp * step_most + remainder_least * Q ≤ Xp * 10000000000 + Kn * step_least
far_of Q Xp Xn Z K Kp Kn z k e l a b = omega arith

near_whole : (Q Xp Xn Z K : ℕ) → Xp * slope_low + start_low * Q ≤ Z * 10000001 + slope_high * Xn → Z * 10000 ≤ K * 10000 + 5001 * Q → Xp * slope_low + 1310707498999 * Q ≤ K * 10000001 + slope_high * Xn
near_whole Q Xp Xn Z K z k = omega arith

near_parts : (Q Xp Xn K Kp Kn : ℕ) → Xp * slope_low + 1310707498999 * Q ≤ K * 10000001 + slope_high * Xn → Kp + zero_steps * Q ≡ K + Kn → Xp * slope_low + Kn * 10000001 ≤ Kp * 10000001 + slope_high * Xn + 12632073 * Q
near_parts Q Xp Xn K Kp Kn z e = omega arith

near_last : (Q Xp Xn Kp Kn : ℕ) → Xp * slope_low + Kn * 10000001 ≤ Kp * 10000001 + slope_high * Xn + 12632073 * Q → Kn ≤ zero_steps * Q → Xp ≤ 700 * Q → Xn ≤ 700 * Q
    → Xp * 10000000000 + Kn * step_most ≤ Xn * 10000000000 + Kp * step_least + remainder_most * Q
near_last Q Xp Xn Kp Kn z l a b = omega arith

pub near_of : (Q Xp Xn Z K Kp Kn : ℕ) → Xp * slope_low + start_low * Q ≤ Z * 10000001 + slope_high * Xn → Z * 10000 ≤ K * 10000 + 5001 * Q → Kp + zero_steps * Q ≡ K + Kn → Kn ≤ zero_steps * Q → Xp ≤ 700 * Q → Xn ≤ 700 * Q
    → Xp * 10000000000 + Kn * step_most ≤ Xn * 10000000000 + Kp * step_least + remainder_most * Q
near_of Q Xp Xn Z K Kp Kn z k e l a b = near_last Q Xp Xn Kp Kn (near_parts Q Xp Xn K Kp Kn (near_whole Q Xp Xn Z K z k) e) l a b

pub few_of : (Q Xp Xn Z K : ℕ) → Z * 10000000 + slope_low * Xn ≤ slope_most * Xp + start_most * Q → K * 10000 ≤ Z * 10000 + 5001 * Q → Xp ≤ 700 * Q → K ≤ most_steps * Q
few_of Q Xp Xn Z K z k a = omega arith

pub some_of : (Q Xp Xn Z K : ℕ) → Xp * slope_low + start_low * Q ≤ Z * 10000001 + slope_high * Xn → Z * 10000 ≤ K * 10000 + 5001 * Q → Xn ≤ 700 * Q → fewest_steps * Q ≤ K
some_of Q Xp Xn Z K z k a = omega arith
