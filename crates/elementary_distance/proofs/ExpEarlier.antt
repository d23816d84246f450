-- The steps of exp as they were before request 04: the sum of the table's entry and its product with the polynomial, times a power of two made from its exponent's field by a subtraction.
use mathlib.Core.Bool.{false, ◌&&◌}
use Prim.Native.Nat.{ℕ, ◌-◌, ◌*◌, ◌/◌, ◌%◌}
use lib.Ieee.{Float, nan, inf, neg, lt, ne}
use Rattle.numerics.specs.Double.{◌⊕◌, ◌⊗◌, bits, +0, one, pick}
use Rattle.elementary_exp.specs.Exp.{counted_of, steps_of, remainder_of, polynomial_of, most, least}
use Rattle.elementary_exp.proofs.ExpEntries.{table_entry}

-- 2 ^ (n − 2048) for 1025 < n < 3072, by its exponent's field
unfoldable pub scale_of : ℕ → Float
scale_of n = bits ((n - 1025) * 0x10_0000_0000_0000)

unfoldable pub earlier_within_of : Float → Float
earlier_within_of x =
    let w = counted_of x in
    let t = table_entry (steps_of w % 64) in
    (t ⊕ t ⊗ polynomial_of (remainder_of x w)) ⊗ scale_of (steps_of w / 64)

unfoldable pub earlier_exp_of : Float → Float
earlier_exp_of x =
    pick (ne x x) nan
    (pick (lt most x) (inf false)
    (pick (lt x (neg most)) +0
    (pick (lt (neg least) x && lt x least) one (earlier_within_of x))))
