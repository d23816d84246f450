-- What ln gives at single arguments, and what the layers above may cite of it without its steps. Assumes nothing.
use mathlib.Core.Path.{◌≡◌, refl}
use mathlib.Core.Bool.{true, false}
use Prim.Native.Nat.{ℕ, suc, ◌*◌, ◌<◌}
use native.Mathlib.Nat.{mul-pos, zero-lt-suc, zero-mul}
use native.Mathlib.Omega.{arith}
use borrow.Author.Tests.{ne_eqb}
use lib.IntN.{ℤ}
use lib.Ieee.{nan, inf, fin, up, down, lt, le, eq, neg, add, sub, mul, div, of_int, of_bits, to_bits}
use lib.Ieee.Fits.{up_pos}
use Rattle.numerics.specs.Double.{+0, one}
use Rattle.elementary_ln.specs.LnTable.{log_table}
use Rattle.elementary_ln.specs.Ln.{log_node, ln_ratio, ln_significand, ln_parts, ln_pattern, ln_of}

-- "ln 1 = +0"
pub ln_one : ln_of one ≡ +0
unfolding ln_of ln_pattern ln_parts ln_significand ln_ratio log_node log_table add sub mul div le eq of_int of_bits to_bits
ln_one = refl

-- "±0 gives −infinity, +infinity itself"
pub ln_zero : ln_of +0 ≡ inf true
unfolding ln_of le eq of_bits
ln_zero = refl

pub ln_minus_zero : ln_of (neg +0) ≡ inf true
unfolding ln_of le eq of_bits neg
ln_minus_zero = refl

pub ln_infinity : ln_of (inf false) ≡ inf false
unfolding ln_of le eq of_bits
ln_infinity = refl

-- "All else, NaN included, gives NaN"
pub ln_nan : ln_of nan ≡ nan
unfolding ln_of le eq of_bits
ln_nan = refl

pub ln_minus_infinity : ln_of (inf true) ≡ nan
unfolding ln_of le eq of_bits
ln_minus_infinity = refl

pub ln_negative : (m : ℕ) (e : ℤ) → ln_of (fin true (suc m) e) ≡ nan
unfolding ln_of le lt eq of_bits
ln_negative m e =
    let h : 0 < suc m * up e = mul-pos (zero-lt-suc m) (up_pos e) in
    let z : 0 * down e ≡ 0 = zero-mul (down e) in
    rw (ne_eqb (0 * down e) (suc m * up e * 1) (λ k. omega arith))
