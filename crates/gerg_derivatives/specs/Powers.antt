-- What the terms at one density share: powers of delta, dampings and their exponentials for the exponents 0 to 7, which are the ones of the published file.
use Rattle.std.specs.Prelude.{List, ℕ, ◌-◌, ltb, Float}
use Rattle.std.specs.Float.Ieee.{neg}
use Rattle.numerics.specs.Double.{pick}
use Rattle.numerics.specs.Fill.{tabulate}
use Rattle.elementary_exp.specs.Exp.{exp_of}
use Rattle.elementary.specs.Power.{powf_of, signed_double_of}
use Rattle.gerg_derivatives.specs.Parts.{damping_of}

-- cell c: the power for an exponent c below 8, the damping for c - 8, its exponential for c - 16
unfoldable pub power_cell : Float → ℕ → Float
power_cell delta c =
    pick (ltb c 8) (powf_of delta (signed_double_of c))
    (pick (ltb c 16) (damping_of delta (c - 8)) (exp_of (neg (damping_of delta (c - 16)))))

unfoldable pub powers_of : Float → List Float
powers_of delta = tabulate (power_cell delta) 24
