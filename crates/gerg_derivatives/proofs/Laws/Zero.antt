-- The default derivatives are nine zeros. Assumes nothing.
use mathlib.Core.Path.{◌≡◌}
use Rattle.numerics.specs.Double.{+0}
use Rattle.gerg_derivatives.specs.declared.derivatives.GergDerivatives.{GergDerivatives}
use Rattle.gerg_derivatives.specs.Derivatives.{zero_derivatives}

pub zeros : (d : GergDerivatives) →
    (d.ar ≡ +0) × ((d.ar_d ≡ +0) × ((d.ar_dd ≡ +0) × ((d.ar_t ≡ +0) × ((d.ar_tt ≡ +0) × ((d.ar_dt ≡ +0) × ((d.a0 ≡ +0) × ((d.a0_t ≡ +0) × ((d.a0_tt ≡ +0))))))))) → d ≡ zero_derivatives
unfolding zero_derivatives
zeros d e =
    let fields :
    record { ar = d.ar; ar_d = d.ar_d; ar_dd = d.ar_dd; ar_t = d.ar_t; ar_tt = d.ar_tt; ar_dt = d.ar_dt; a0 = d.a0; a0_t = d.a0_t; a0_tt = d.a0_tt } ≡ zero_derivatives
    = rw (e.0, e.1.0, e.1.1.0, e.1.1.1.0, e.1.1.1.1.0, e.1.1.1.1.1.0, e.1.1.1.1.1.1.0, e.1.1.1.1.1.1.1.0, e.1.1.1.1.1.1.1.1) in
    fields
