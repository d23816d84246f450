-- What a call works out once: powers of delta and damping factors.
use Rattle.std.specs.Prelude.{true, false, List, ℕ, leb, ltb, Float, Option, Some, None}
use Rattle.std.specs.Float.Ieee.{neg}
use Rattle.numerics.specs.Double.{+0, pick}
use Rattle.elementary_exp.specs.Exp.{exp_of}
use Rattle.elementary.specs.Power.{powi_byte_of}
use Rattle.gerg_tables.specs.Tables.{kpol, coik}
use Rattle.gerg_composition.specs.Composition.{damping_factor}

-- exp(−delta^q) for q below 16, else exp(−0)
unfoldable pub damping_at : Float → ℕ → Float
damping_at delta q = exp_of (neg (pick (ltb q 16) (powi_byte_of delta q) +0))

-- the exponent of term k's damping past kpol, none before
abbrev pub damping_exponent : List ℕ → ℕ → ℕ → Option ℕ
damping_exponent integers i k = pick (leb (kpol integers i) k) (Some (coik integers i k)) None

-- the damping factor with an exponent, and with none
abbrev pub damping_of : Float → Option ℕ → Float
damping_of delta (Some c) = damping_factor delta true c
damping_of delta None = damping_factor delta false 0
