-- The powers of a fraction just below 2 are those of 2 to one rounding, up to the exponent 1074 of the least subnormal.
-- Assumes nothing.
use mathlib.Core.Path.{sym, ◌∙◌}
use Prim.Native.Nat.{ℕ, ◌^◌, ◌≤◌}
use native.Mathlib.Nat.{le_of_eq, mul-one}
use lib.Dec.{lit≤}
use Rattle.numerics.specs.Frac.{◌⊑◌, ◌⊠◌, nat, big, small}
use Rattle.numerics.specs.Law.{power}
use Rattle.numerics.specs.Tail.{rho, power_slack, power_two}
use Rattle.elementary_ln.proofs.LnConstants.{two⁻}

pub power_above : (k : ℕ) → power k (nat 2) ⊑ nat (2 ^ k)
power_above k = le_of_eq (rw ((power_two k).0, (power_two k).1) (mul-one (2 ^ k) ∙ sym (mul-one (2 ^ k))))

pub power_below : (k : ℕ) → k ≤ 1074 → nat (2 ^ k) ⊑ power k two⁻ ⊠ rho 1
unfolding small big
power_below k h = power_slack 1 1074 k two⁻ (lit≤ tt) (lit≤ tt) h (lit≤ tt)
