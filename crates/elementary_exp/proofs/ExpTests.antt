-- What the tests of `exp_of` leave for its steps: a double from -700 to 700, and not smaller than 2 ^ -54 (`in_range`). Assumes nothing.
use Rattle.std.proofs.Common.{◌≡◌, ℕ, ◌+◌, ◌*◌, ◌^◌, ◌<◌, ◌≤◌, Bool, true, false, ◌&&◌, T, ltb, refl, subst, true≢false, arith, lt→ltb, ltb-false}
use lib.Ieee.{Float, nan, inf, fin, up, down, neg, lt, eq, ne, of_bits}
use lib.Ieee.Fits.{down_pos}
use Rattle.elementary_exp.specs.Exp.{most, least}
use Rattle.elementary_exp.specs.Range.{InRange}

right_false : (a b : Bool) → T a → (a && b) ≡ false → b ≡ false
right_false true b t e = e
right_false false b t e = absurd t

left_false : (a b : Bool) → T b → (a && b) ≡ false → a ≡ false
left_false true b t e = absurd (subst T e t)
left_false false b t e = refl

yes : (a b : ℕ) → 0 < a → T (ltb 0 (a + b))
yes a b h = lt→ltb 0 (a + b) (omega arith)

yes' : (a b : ℕ) → 0 < b → T (ltb 0 (a + b))
yes' a b h = lt→ltb 0 (a + b) (omega arith)

pub in_range : (x : Float) → ne x x ≡ false → lt most x ≡ false → lt x (neg most) ≡ false → (lt (neg least) x && lt x least) ≡ false → InRange x
unfolding lt eq ne neg of_bits
in_range nan a b c d = absurd (true≢false a)
in_range (inf false) a b c d = absurd (true≢false b)
in_range (inf true) a b c d = absurd (true≢false c)
in_range (fin false m e) a b c d = record {
  number = tt;
  most = high (m * up e) (down e) (ltb-false (700 * down e) (m * up e * 1) b);
  least = low (m * up e) (down e)
      (ltb-false (m * up e * 2 ^ 54) (1 * down e)
      (right_false (ltb 0 (1 * down e + m * up e * 2 ^ 54)) (ltb (m * up e * 2 ^ 54) (1 * down e)) (yes (1 * down e) (m * up e * 2 ^ 54) (unit (down e) (down_pos e))) d));
}
  where
    high : (a d : ℕ) → a * 1 ≤ 700 * d → a ≤ 700 * d
    high a d h = omega arith

    low : (a d : ℕ) → 1 * d ≤ a * 2 ^ 54 → d ≤ a * 2 ^ 54
    low a d h = omega arith

    unit : (d : ℕ) → 0 < d → 0 < 1 * d
    unit d h = omega arith
in_range (fin true m e) a b c d = record {
  number = tt;
  most = high (m * up e) (down e) (ltb-false (700 * down e) (m * up e * 1) c);
  least = low (m * up e) (down e)
      (ltb-false (m * up e * 2 ^ 54) (1 * down e)
      (left_false (ltb (m * up e * 2 ^ 54) (1 * down e)) (ltb 0 (m * up e * 2 ^ 54 + 1 * down e)) (yes' (m * up e * 2 ^ 54) (1 * down e) (unit (down e) (down_pos e))) d));
}
  where
    high : (a d : ℕ) → a * 1 ≤ 700 * d → a ≤ 700 * d
    high a d h = omega arith

    low : (a d : ℕ) → 1 * d ≤ a * 2 ^ 54 → d ≤ a * 2 ^ 54
    low a d h = omega arith

    unit : (d : ℕ) → 0 < d → 0 < 1 * d
    unit d h = omega arith
