-- The case of document 01 on `term`, proved about the definition. Assumes nothing.
use mathlib.Core.Path.{◌≡◌, refl}
use lib.Ieee.{add, sub, mul, neg, of_bits}
use Rattle.numerics.specs.Double.{bits, +0, two}
use Rattle.gerg_derivatives.specs.Derivatives.{zero_derivatives, term_of}

-- "`term`, zero record, value 2, t 2, slope 3, curvature 0: ar 2, ar_d 6, ar_dd 12, ar_t 4, ar_tt 4, ar_dt 12"
pub term_case :
    term_of zero_derivatives two two (bits 0x4008_0000_0000_0000) +0 ≡
    record {
      ar = two;
      ar_d = bits 0x4018_0000_0000_0000;
      ar_dd = bits 0x4028_0000_0000_0000;
      ar_t = bits 0x4010_0000_0000_0000;
      ar_tt = bits 0x4010_0000_0000_0000;
      ar_dt = bits 0x4028_0000_0000_0000;
      a0 = +0;
      a0_t = +0;
      a0_tt = +0;
    }
unfolding zero_derivatives term_of add sub mul neg of_bits
term_case = refl
