-- What a pure term, a departure term and a part of the ideal gas add to the nine derivatives, their powers worked out.
use Rattle.std.specs.Prelude.{ℕ, eqb, Float}
use Rattle.std.specs.Float.Ieee.{neg}
use Rattle.numerics.specs.Double.{◌⊕◌, ◌⊖◌, ◌⊗◌, bits, +0, two, pick}
use Rattle.elementary.specs.Power.{powi_byte_of}
use Rattle.gerg_derivatives.specs.declared.derivatives.GergDerivatives.{GergDerivatives}
use Rattle.gerg_derivatives.specs.declared.parts.Damped.{Damped}
use Rattle.gerg_derivatives.specs.declared.parts.Departed.{Departed}
use Rattle.gerg_derivatives.specs.Derivatives.{term_of}

unfoldable pub damping_of : Float → ℕ → Float
damping_of delta q = pick (eqb q 0) +0 (powi_byte_of delta q)

-- a term with a damping of exponent q, its powers worked out
unfoldable pub damped_term : Damped → GergDerivatives → GergDerivatives
damped_term p a =
    term_of a (p.x ⊗ p.n ⊗ p.delta_power ⊗ p.tau_power ⊗ p.exponential) p.t (p.d ⊖ p.q ⊗ p.damping) (neg (p.q ⊗ p.q) ⊗ p.damping)

-- a part of the ideal gas: added to a0 and its first derivative, or taken from them; taken from the second derivative
abbrev pub ideal_by : (Float → Float → Float) → Float → Float → Float → GergDerivatives → GergDerivatives
ideal_by by value slope curvature a = record {
  ar = a.ar;
  ar_d = a.ar_d;
  ar_dd = a.ar_dd;
  ar_t = a.ar_t;
  ar_tt = a.ar_tt;
  ar_dt = a.ar_dt;
  a0 = by a.a0 value;
  a0_t = by a.a0_t slope;
  a0_tt = a.a0_tt ⊖ curvature;
}

unfoldable pub ideal_added : Float → Float → Float → GergDerivatives → GergDerivatives
ideal_added value slope curvature a = ideal_by ◌⊕◌ value slope curvature a

unfoldable pub ideal_taken : Float → Float → Float → GergDerivatives → GergDerivatives
ideal_taken value slope curvature a = ideal_by ◌⊖◌ value slope curvature a

-- 4.0
abbrev pub four : Float
four = bits 0x4010_0000_0000_0000

-- a departure term, its powers worked out; its factor is x_i × x_j × fij
unfoldable pub departed_term : Departed → GergDerivatives → GergDerivatives
departed_term p a =
    term_of a (p.factor ⊗ p.n ⊗ p.delta_power ⊗ p.tau_power ⊗ p.exponent.exponential) p.t
    (p.d ⊕ two ⊗ p.exponent.c ⊕ p.exponent.e) (four ⊗ p.exponent.c ⊕ p.exponent.e)
