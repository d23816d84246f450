-- What sqrt gives at single arguments, and what the layers above may cite of it without its steps. Assumes nothing.
use mathlib.Core.Path.{◌≡◌, refl, sym, subst, ◌∙◌}
use mathlib.Core.Bool.{true, false}
use Prim.Native.Nat.{◌+◌, ◌*◌, ◌≤◌, ◌<◌}
use native.Mathlib.Nat.{zero-mul}
use native.Mathlib.Omega.{arith}
use borrow.Author.Tests.{le-ltb, ne_eqb}
use lib.Dec.{T, ltb→lt}
use lib.Ieee.{Float, nan, inf, fin, up, down, lt, le, eq, neg, of_bits, to_bits}
use Rattle.numerics.specs.Double.{+0, two, bits}
use Rattle.elementary_sqrt.specs.Sqrt.{with_digit, root_of, nearest_root, shift_of, significand_of, exponent_of, root_bits, sqrt_of}

-- "sqrt 4 = 2"
pub sqrt_four : sqrt_of (bits 0x4010_0000_0000_0000) ≡ two
unfolding sqrt_of root_bits nearest_root root_of with_digit significand_of exponent_of shift_of lt le eq of_bits to_bits
sqrt_four = refl

-- "±0 and +infinity give themselves"
pub sqrt_zero : sqrt_of +0 ≡ +0
unfolding sqrt_of lt le eq of_bits
sqrt_zero = refl

pub sqrt_minus_zero : sqrt_of (neg +0) ≡ neg +0
unfolding sqrt_of lt le eq neg of_bits
sqrt_minus_zero = refl

pub sqrt_infinity : sqrt_of (inf false) ≡ inf false
unfolding sqrt_of lt le eq of_bits
sqrt_infinity = refl

-- "All else, NaN included, gives NaN"
pub sqrt_nan : sqrt_of nan ≡ nan
unfolding sqrt_of lt le eq of_bits
sqrt_nan = refl

pub sqrt_negative : (x : Float) → lt x +0 ≡ true → sqrt_of x ≡ nan
unfolding sqrt_of lt le eq of_bits
sqrt_negative nan e = absurd (subst T (sym e) tt)
sqrt_negative (inf true) e = refl
sqrt_negative (inf false) e = absurd (subst T (sym e) tt)
sqrt_negative (fin false m d) e = let z : 0 * 1 * down d ≤ m * up d * 1 = rw (zero-mul (down d)) (omega arith) in absurd (subst T (sym e ∙ le-ltb (m * up d * 1) (0 * 1 * down d) z) tt)
sqrt_negative (fin true m d) e =
    let h : 0 < m * up d * 1 + 0 * 1 * down d = ltb→lt _ _ (subst T (sym e) tt) in
    let z : 0 * 1 * down d ≡ 0 = zero-mul (down d) in
    rw (ne_eqb (m * up d * 1) (0 * 1 * down d) (λ k. omega arith))
