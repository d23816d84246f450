-- The nine scaled derivatives, and a term added to them.
use Rattle.std.specs.Prelude.{Float}
use Rattle.numerics.specs.Double.{◌⊕◌, ◌⊖◌, ◌⊗◌, +0, one}
use Rattle.gerg_derivatives.specs.declared.derivatives.GergDerivatives.{GergDerivatives}

-- nine zeros
unfoldable pub zero_derivatives : GergDerivatives
zero_derivatives = record { ar = +0; ar_d = +0; ar_dd = +0; ar_t = +0; ar_tt = +0; ar_dt = +0; a0 = +0; a0_t = +0; a0_tt = +0 }

-- "a term is added to it as `term` does and the record handed back"
unfoldable pub term_of : GergDerivatives → Float → Float → Float → Float → GergDerivatives
term_of a value t slope curvature = record {
  ar = a.ar ⊕ value;
  ar_d = a.ar_d ⊕ value ⊗ slope;
  ar_dd = a.ar_dd ⊕ value ⊗ (slope ⊗ slope ⊖ slope ⊕ curvature);
  ar_t = a.ar_t ⊕ value ⊗ t;
  ar_tt = a.ar_tt ⊕ value ⊗ t ⊗ (t ⊖ one);
  ar_dt = a.ar_dt ⊕ value ⊗ t ⊗ slope;
  a0 = a.a0;
  a0_t = a.a0_t;
  a0_tt = a.a0_tt;
}
