-- Rows 6 to 9, and the nine derivatives at a temperature and a molar density where they pass.
use Rattle.std.specs.Prelude.{Bool, not, ◌&&◌, Float, Result, Ok, Err}
use Rattle.std.specs.Float.Ieee.{le}
use Rattle.std.specs.Float.Ieee.Scale.{finite}
use Rattle.numerics.specs.Double.{bits, +0, pick}
use Rattle.gerg_tables.specs.declared.Tables.{Tables}
use Rattle.gerg_reducing.specs.declared.GergModel.{GergModel}
use Rattle.gerg_reducing.specs.Reduced.{delta_of, tau_of}
use Rattle.gerg_derivatives.specs.declared.derivatives.GergDerivatives.{GergDerivatives}
use Rattle.gerg_derivatives.specs.Derivatives.{zero_derivatives}
use Rattle.gerg_terms.specs.Terms.{components_of}
use Rattle.gerg.specs.declared.Range.{Range}
use Rattle.gerg_refusals.specs.declared.Refusal.{Refusal}
use Rattle.gerg_refusals.specs.declared.Refusal.TheVariants as refusal

unfoldable pub all_finite : GergDerivatives → Bool
all_finite a =
    finite a.ar && finite a.ar_d && finite a.ar_dd && finite a.ar_t && finite a.ar_tt && finite a.ar_dt &&
    finite a.a0 && finite a.a0_t && finite a.a0_tt

-- "a derivative nonfinite": row 9
unfoldable pub checked_of : GergDerivatives → Result GergDerivatives Refusal
checked_of a = pick (all_finite a) (Ok a) (Err refusal.Derivative)

-- "T not in 200..450 or density not in 1e-3..30000, ends allowed", the ends of T as the range has them
unfoldable pub within_range : Range → Float → Float → Bool
within_range range temperature rho =
    le range.temperature_low temperature && le temperature range.temperature_high &&
    (le (bits 0x3f50_624d_d2f1_a9fc) rho && le rho (bits 0x40dd_4c00_0000_0000))

-- rows 6 to 9: "density nonfinite", "density ≤ 0", out of range, "a derivative nonfinite"
unfoldable pub helmholtz_of : Tables → GergModel → Range → Float → Float → Result GergDerivatives Refusal
helmholtz_of t m range temperature rho =
    pick (not (finite rho)) (Err refusal.DensityNotFinite)
    (pick (le rho +0) (Err refusal.DensityNotPositive)
    (pick (not (within_range range temperature rho)) (Err refusal.OutsideRange)
    (checked_of (components_of t m.fractions temperature rho (delta_of m rho) (tau_of m temperature) zero_derivatives))))

-- 200 K, 450 K, 35e6 Pa
unfoldable pub normal_range : Range
normal_range = record { temperature_low = bits 0x4069_0000_0000_0000; temperature_high = bits 0x407c_2000_0000_0000; pressure_high = bits 0x4180_b076_0000_0000 }

-- "60 to 700 K and up to 70 MPa": 60 K, 700 K, 70e6 Pa
unfoldable pub extended_range : Range
extended_range = record { temperature_low = bits 0x404e_0000_0000_0000; temperature_high = bits 0x4085_e000_0000_0000; pressure_high = bits 0x4190_b076_0000_0000 }
