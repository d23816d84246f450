-- What the cells of an exponent below 8 hold. Assumes nothing.
use mathlib.Core.Path.{◌≡◌, ◌∙◌}
use Prim.Native.Nat.{ℕ, ◌+◌, ◌-◌, ◌<◌, ◌≤◌}
use native.Mathlib.Omega.{arith}
use borrow.Author.Tests.{lt-ltb, le-ltb}
use lib.Ieee.{Float, nan, neg}
use lib.ListN.{get_or}
use Rattle.numerics.specs.Fill.{get_d_tabulate}
use Rattle.elementary_exp.specs.Exp.{exp_of}
use Rattle.elementary.specs.Power.{powf_of, signed_double_of}
use Rattle.gerg_derivatives.specs.Parts.{damping_of}
use Rattle.gerg_derivatives.specs.Powers.{power_cell, powers_of}

pub power_small : (delta : Float) (b : ℕ) → b < 8 → get_or (powers_of delta) b nan ≡ powf_of delta (signed_double_of b)
unfolding powers_of power_cell
power_small delta b h = get_d_tabulate (power_cell delta) 24 b nan (omega arith) ∙ rw (lt-ltb b 8 h)

pub damping_small : (delta : Float) (q : ℕ) → q < 8 → get_or (powers_of delta) (8 + q) nan ≡ damping_of delta q
unfolding powers_of power_cell
damping_small delta q h =
    let e : 8 + q - 8 ≡ q = omega arith in
    let low : 8 ≤ 8 + q = omega arith in
    let high : 8 + q < 16 = omega arith in
    get_d_tabulate (power_cell delta) 24 (8 + q) nan (omega arith) ∙ rw (le-ltb (8 + q) 8 low, lt-ltb (8 + q) 16 high, e)

pub exponential_small : (delta : Float) (q : ℕ) → q < 8 → get_or (powers_of delta) (16 + q) nan ≡ exp_of (neg (damping_of delta q))
unfolding powers_of power_cell
exponential_small delta q h =
    let e : 16 + q - 16 ≡ q = omega arith in
    let low : 8 ≤ 16 + q = omega arith in
    let high : 16 ≤ 16 + q = omega arith in
    get_d_tabulate (power_cell delta) 24 (16 + q) nan (omega arith) ∙ rw (le-ltb (16 + q) 8 low, le-ltb (16 + q) 16 high, e)
