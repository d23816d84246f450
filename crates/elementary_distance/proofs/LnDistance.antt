-- The distance of ln: for each positive finite double x, subnormals included, `ln_of x` is finite and within 2^-lnBits × max(1, |ln x|) of ln x. Assumes nothing.
use mathlib.Core.Bool.{true, false}
use mathlib.Core.Logic.{inl, inr}
use Prim.Native.Nat.{ℕ, ◌*◌, ◌^◌, ◌≤◌}
use native.Mathlib.Omega.{arith}
use lib.Dec.{T}
use lib.Ieee.{Float, nan, inf, fin, neg}
use lib.Ieee.Positive.{positive}
use Rattle.numerics.specs.Frac.{Frac, ◌⊑◌, ◌⊠◌, part}
use Rattle.numerics.specs.Round.{val}
use Rattle.numerics.specs.Rel.{num_pos}
use Rattle.numerics.specs.Nonneg.{nonneg}
use Rattle.numerics.proofs.Logarithm.{ln_near_of, ln_near_of_inv}
use Rattle.elementary_ln.specs.Ln.{ln_of}
use Rattle.elementary_distance.proofs.LnDistanceParts.{share, NearLog}
use Rattle.elementary_distance.proofs.LnDistanceDouble.{reciprocal, NearLn, ln_near}
use Rattle.elementary_distance.specs.Distances.{WithinOfLn, LnDistance, ln_bits}

-- ---- by the sign of y
module _ (x : Float) (X : T (positive x)) where
  room : (l : Frac) → share ln_bits l ⊑ part ln_bits ⊠ l
  room l = fit l.top l.bot (2 ^ ln_bits)
    where
      fit : (t b P : ℕ) → t * (P * b) ≤ 1 * t * (b * P)
      fit t b P = omega arith

  from : (y : Float) → T (nonneg y) → NearLog (val x) (val y) → WithinOfLn ln_bits x y
  from nan s n = absurd s
  from (inf t) s n = absurd s
  from (fin true m e) s n = absurd s
  from (fin false m e) s n =
      record { number = tt; near = ln_near_of (part ln_bits) n.size (share ln_bits n.size) (val x) (val (fin false m e)) n.near.low n.near.high (room n.size) n.modest }

  below : (y : Float) → T (nonneg (neg y)) → NearLog (reciprocal x X) (val y) → WithinOfLn ln_bits x y
  unfolding neg
  below nan s n = absurd s
  below (inf t) s n = absurd s
  below (fin false m e) s n = absurd s
  below (fin true m e) s n =
      record { number = tt; near = ln_near_of_inv (part ln_bits) n.size (share ln_bits n.size) (val x) (val (fin true m e)) (num_pos x X) n.near.low n.near.high (room n.size) n.modest }

  of_near : (y : Float) → NearLn x X y → WithinOfLn ln_bits x y
  of_near y (inl h) = from y h.0 h.1
  of_near y (inr h) = below y h.0 h.1

-- for every x that binary64 holds, finite and above 0
pub ln_distance : LnDistance ln_bits
ln_distance x f p = of_near x p (ln_of x) (ln_near x f p)
