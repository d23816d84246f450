-- One division of two whole numbers that are doubles gives their fraction rounded once. Assumes nothing.
use mathlib.Core.Path.{◌≡◌, refl, ap, ◌∙◌}
use mathlib.Core.Bool.{false}
use Prim.Native.Nat.{ℕ, ◌*◌, ◌^◌, ◌≤◌}
use native.Mathlib.Nat.{mul-pos}
use native.Mathlib.Omega.{arith}
use lib.Dec.{lit≤}
use lib.IntN.{pos}
use lib.Ieee.{Float, fin, binary64, round, of_int, of_bits}
use lib.Ieee.Back.{round_whole}
use lib.Ieee.Exact.{HasValue}
use lib.Ieee.Positive.{num, den, den_pos, value→cross}
use lib.Ieee.Scale.{round_same}
use Rattle.numerics.specs.Double.{◌⊘◌, bits}
use Rattle.numerics.specs.Nonneg.{div_is0, nonneg_value}
use Rattle.packed_decimal.specs.Record.{fraction_of}

-- 1000000.0
million : Float
million = bits 0x412e_8480_0000_0000

million_is : million ≡ fin false 15625 (pos 6)
unfolding million of_bits
million_is = refl

pub quotient : (p : ℕ) → p ≤ 2 ^ 53 → of_int binary64 (pos p) ⊘ bits 0x412e_8480_0000_0000 ≡ fraction_of p
unfolding fraction_of of_int million
quotient p h =
    let x = round binary64 false p 1 in
    let v : HasValue x false p 1 = round_whole binary64 false p h in
    let y = fin false 15625 (pos 6) in
    ap (λ (d : Float). x ⊘ d) million_is ∙ div_is0 binary64 x y (nonneg_value x p 1 v) tt
    ∙ round_same binary64 false (num x * 1) (1_000_000 * den x) p 1_000_000 (mul-pos (lit≤ tt) (den_pos x)) (lit≤ tt) (cross (num x) (den x) p (value→cross x p 1 v))
  where
    cross : (n d p : ℕ) → n * 1 ≡ p * d → n * 1 * 1_000_000 ≡ p * (1_000_000 * d)
    cross n d p e = omega (arith, ap (λ (k : ℕ). k * 1_000_000) e)
