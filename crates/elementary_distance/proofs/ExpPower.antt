-- The power of two that the exponential's steps make from its exponent's field: 2 ^ n / 2 ^ 2048 for n from 1026 to 3071. Assumes nothing.
use mathlib.Core.Path.{◌≡◌, refl, sym, ap, ◌∙◌}
use Prim.Native.Nat.{ℕ, suc, ◌+◌, ◌-◌, ◌*◌, ◌/◌, ◌%◌, ◌^◌, ◌≤◌, ◌<◌}
use native.Mathlib.Nat.{pow-suc}
use native.Mathlib.Omega.{arith}
use mathlib.Core.Bool.{false}
use lib.Pow.{pow-add, pow_pos}
use lib.Ieee.{binary64, of_bits}
use lib.Ieee.Exact.{HasValue}
use lib.Ieee.Positive.{positive_of_value, value→cross}
use Rattle.numerics.specs.Frac.{Frac, close_same}
use Rattle.numerics.specs.Round.{val, Rel}
use Rattle.numerics.specs.Patterns.{normal_value, rescale}
use Rattle.elementary_exp.proofs.ExpConstants.{zero_power}
use Rattle.elementary_distance.proofs.ExpEarlier.{scale_of}

field_value : (f : ℕ) → 0 < f → f ≤ 2046 → HasValue (of_bits binary64 (f * 2 ^ 52)) false (2 ^ f) (2 ^ 1023)
field_value f p h =
    let b = f * 2 ^ 52 in
    let q : b / 2 ^ 52 ≡ f = omega arith in
    let r : b % 2 ^ 52 ≡ 0 = omega arith in
    let s : f ≡ suc (f - 1) = omega arith in
    rescale (of_bits binary64 b) ((2 ^ 52 + 0) * 2 ^ (f - 1)) (2 ^ 1074) (2 ^ f) (2 ^ 1023) (pow_pos 1074) (level (2 ^ f) (2 ^ (f - 1)) (2 ^ 1023) (2 ^ 1074) (2 ^ 52) (ap (λ (k : ℕ). 2 ^ k) s ∙ pow-suc 2 (f - 1)) refl)
    (rw (q, r) at (normal_value b (omega arith) (omega arith)))
  where
    level : (a k b c d : ℕ) → a ≡ k * 2 → 2 * c ≡ d * b → a * c ≡ d * k * b
    level a k b c d g e = rw g (omega (arith, ap (λ (z : ℕ). k * z) e))

abbrev pub scale : ℕ → Frac
scale n = record { top = 2 ^ n; bot = 2 ^ zero_power; good = pow_pos zero_power }

pub power_rel : (n : ℕ) → 1025 < n → n < 3072 → Rel 0 (scale_of n) (scale n)
unfolding scale_of
power_rel n a b =
    let f = n - 1025 in
    let v = field_value f (omega arith) (omega arith) in
    let w = of_bits binary64 (f * 2 ^ 52) in
    let e : f + 1025 ≡ n = omega arith in
    record {
      pos = positive_of_value w (2 ^ f) (2 ^ 1023) v (pow_pos f);
      near = close_same (val w) (scale n) (cross (lib.Ieee.Positive.num w) (lib.Ieee.Positive.den w) (2 ^ f) (2 ^ n) (2 ^ 1023) (2 ^ 1025) (2 ^ zero_power) refl (ap (λ (z : ℕ). 2 ^ z) (sym e) ∙ pow-add 2 f 1025) (value→cross w (2 ^ f) (2 ^ 1023) v));
    }
  where
    cross : (t d F N a b c : ℕ) → c ≡ a * b → N ≡ F * b → t * a ≡ F * d → t * c ≡ N * d
    cross t d F N a b c e g h = rw (e, g) (omega (arith, ap (λ (z : ℕ). z * b) h))
