-- e ^ (u * L + r), L the step: 2 ^ (u / 64) times the table's entry times the sum of the series to degree 6, to 4 roundings. Assumes nothing.
use mathlib.Core.Path.{◌≡◌, sym}
use Prim.Native.Nat.{ℕ, zero, suc, ◌+◌, ◌*◌, ◌/◌, ◌%◌, ◌^◌, ◌≤◌, ◌<◌}
use native.Mathlib.Nat.{le_of_eq, mul-le-mul_left, div-add-mod', pow-suc, pow-zero}
use native.Mathlib.Omega.{arith}
use lib.Dec.{lit≤}
use Rattle.numerics.specs.Frac.{Frac, ◌⊑◌, ◌⊞◌, ◌⊠◌, nat, big, small, small_le, Under}
use Rattle.numerics.specs.Round.{val}
use Rattle.numerics.specs.Series.{sum_top, sum_bot, S, U, Above, Below, above_by, below_by, above_more, below_less}
use Rattle.numerics.specs.Law.{times, power, above_power, below_power}
use Rattle.numerics.specs.Tail.{rho, under_rho, tail_under, power_top, power_bot, pow_slack, power_two, rho⁻}
use Rattle.numerics.specs.Bound.{Bound, bound_mul, bound_arg}
use Rattle.elementary_exp.proofs.ExpConstants.{step, two⁺}
use Rattle.elementary_exp.proofs.ExpEntries.{table_entry}
use Rattle.elementary_exp.proofs.ExpTableGood.{entry_good}

-- ---- 64 steps: e ^ (64 * L) is 2, to 2 ^ -87
abbrev pub doubling : Frac
doubling = times 64 step

doubling_above : Above doubling two⁺
unfolding sum_top sum_bot
doubling_above = above_by 30 doubling two⁺ (lit≤ tt) (lit≤ tt)

doubling_below : Below doubling (nat 2)
unfolding sum_top sum_bot
doubling_below = below_by 30 doubling (nat 2) (lit≤ tt)

mul_pow : (a b k : ℕ) → (a * b) ^ k ≡ a ^ k * b ^ k
mul_pow a b zero = rw (pow-zero (a * b), pow-zero a, pow-zero b)
mul_pow a b (suc k) = rw (pow-suc (a * b) k, pow-suc a k, pow-suc b k, mul_pow a b k) (omega arith)

slack : (2 ^ 88 + 1) ^ 3072 * small ^ 1 ≤ (2 * 2 ^ 87) ^ 3072 * big ^ 1
unfolding small big
slack = lit≤ tt

powers_above : (k : ℕ) → k ≤ 3072 → power k two⁺ ⊑ nat (2 ^ k) ⊠ rho 1
powers_above k h =
    let u : (2 ^ 88 + 1) ^ k * small ^ 1 ≤ (2 * 2 ^ 87) ^ k * big ^ 1 = pow_slack (2 ^ 88 + 1) (2 * 2 ^ 87) (small ^ 1) (big ^ 1) 3072 k (lit≤ tt) (lit≤ tt) h slack in
    rw (power_top k two⁺, power_bot k two⁺) (turn ((2 ^ 88 + 1) ^ k) (small ^ 1) (2 ^ k) ((2 ^ 87) ^ k) (big ^ 1) (rw (mul_pow 2 (2 ^ 87) k) at u))
  where
    turn : (a s t p b : ℕ) → a * s ≤ t * p * b → a * (1 * s) ≤ t * b * p
    turn a s t p b h = omega arith

pub powers_of_two : (k : ℕ) → k ≤ 3072 → Bound 1 (times k doubling) (nat (2 ^ k))
powers_of_two k h = record {
  above = above_more (times k doubling) (power k two⁺) (nat (2 ^ k) ⊠ rho 1) (powers_above k h) (above_power k doubling two⁺ doubling_above);
  below = below_less (times k doubling) (power k (nat 2)) (nat (2 ^ k) ⊠ rho⁻ 1) (rw ((power_two k).0, (power_two k).1) (less (2 ^ k) (small ^ 1) (big ^ 1) one_small)) (below_power k doubling (nat 2) doubling_below);
}
  where
    one_small : small ^ 1 ≤ big ^ 1
    one_small = native.Mathlib.Nat.pow-le-pow_left small_le 1

    less : (t s b : ℕ) → s ≤ b → t * s * 1 ≤ t * (1 * b)
    less t s b h = omega (arith, mul-le-mul_left t h)

-- ---- the series to degree 6, for r up to 0.01401
abbrev most : Frac
most = record { top = 1401; bot = 100000; good = lit≤ tt }

cut : (r : Frac) → r ⊑ most → Under 1 (U 6 r) (S 6 r)
unfolding sum_bot small big
cut r h = tail_under 6 1 r most h (lit≤ tt)

pub series_bound : (r : Frac) → r ⊑ most → Bound 1 r (S 6 r)
series_bound r h = record {
  above = above_by 6 r (S 6 r ⊠ rho 1) (omega arith) (under_rho 1 (U 6 r) (S 6 r) (cut r h));
  below = (6, less (sum_top 6 r.top r.bot) (sum_bot 6 r.bot) (small ^ 1) (big ^ 1) (native.Mathlib.Nat.pow-le-pow_left small_le 1));
}
  where
    less : (t d s b : ℕ) → s ≤ b → t * s * d ≤ t * (d * b)
    less t d s b h = omega (arith, mul-le-mul_left (t * d) h)

-- ---- u steps and r
halves : (u : ℕ) → (times (u / 64) doubling ⊞ times (u % 64) step ⊑ times u step) × (times u step ⊑ times (u / 64) doubling ⊞ times (u % 64) step)
halves u =
    let e : u / 64 * 64 + u % 64 ≡ u = div-add-mod' u 64 in
    (le_of_eq (join (u / 64) (u % 64) u step.top step.bot e), le_of_eq (sym (join (u / 64) (u % 64) u step.top step.bot e)))
  where
    join : (q r u t b : ℕ) → q * 64 + r ≡ u → (q * (64 * t) * b + r * t * b) * b ≡ u * t * (b * b)
    join q r u t b e = rw (← e) (omega arith)

pub steps_bound : (u : ℕ) (r : Frac) → u / 64 ≤ 3072 → r ⊑ most → Bound 4 (times u step ⊞ r) (nat (2 ^ (u / 64)) ⊠ val (table_entry (u % 64)) ⊠ S 6 r)
steps_bound u r h l =
    let t = table_entry (u % 64) in
    let g : u % 64 < 64 = omega arith in
    bound_mul 3 1 (times u step) r (nat (2 ^ (u / 64)) ⊠ val t) (S 6 r)
    (bound_arg 3 (times (u / 64) doubling ⊞ times (u % 64) step) (times u step) (nat (2 ^ (u / 64)) ⊠ val t) (halves u).0 (halves u).1
    (bound_mul 1 2 (times (u / 64) doubling) (times (u % 64) step) (nat (2 ^ (u / 64))) (val t) (powers_of_two (u / 64) h) (entry_good (u % 64) g).good))
    (series_bound r l)
