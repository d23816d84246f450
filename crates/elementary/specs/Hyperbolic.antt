-- sinh, cosh, tanh.
use Rattle.std.specs.Prelude.{Float}
use Rattle.std.specs.Float.Ieee.{lt, neg}
use Rattle.numerics.specs.Double.{◌⊕◌, ◌⊖◌, ◌⊗◌, ◌⊘◌, half, one, bits, pick}
use Rattle.elementary_exp.specs.Exp.{exp_of}

-- 20.0
abbrev pub twenty : Float
twenty = bits 0x4034_0000_0000_0000

-- "half of exp v ∓ exp(−v)": the difference or sum is rounded, then its half
unfoldable pub sinh_of : Float → Float
sinh_of v = half ⊗ (exp_of v ⊖ exp_of (neg v))

unfoldable pub cosh_of : Float → Float
cosh_of v = half ⊗ (exp_of v ⊕ exp_of (neg v))

-- "tanh their quotient, ±1 beyond |v| = 20"
unfoldable pub tanh_of : Float → Float
tanh_of v = pick (lt twenty v) one (pick (lt v (neg twenty)) (neg one) (sinh_of v ⊘ cosh_of v))
