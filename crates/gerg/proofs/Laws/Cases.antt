-- The cases of document 01 that rows 6 to 8 decide, for every mixture. Assumes nothing.
use mathlib.Core.Path.{◌≡◌, refl}
use lib.Ieee.{Float, neg, le, of_bits}
use Rattle.numerics.specs.Double.{bits, one}
use Rattle.gerg_tables.specs.declared.Tables.{Tables}
use Rattle.gerg_reducing.specs.declared.GergModel.{GergModel}
use Rattle.gerg_reducing.specs.Reduced.{delta_of, tau_of}
use Rattle.gerg_derivatives.specs.Derivatives.{zero_derivatives}
use Rattle.gerg_terms.specs.Terms.{components_of}
use Rattle.gerg.specs.Helmholtz.{helmholtz_of, within_range, normal_range, checked_of}
use Rattle.std.specs.Prelude.{Err}
use Rattle.gerg_refusals.specs.declared.Refusal.TheVariants as refusal

-- 200.0, and the double below it
abbrev T200 : Float
T200 = bits 0x4069_0000_0000_0000

abbrev below200 : Float
below200 = bits 0x4068_ffff_ffff_ffff

-- "T 200 passes": at 1 mol/m³ rows 6 to 8 refuse nothing, and the answer is that of the sums
pub passes_200 : (t : Tables) (m : GergModel) → helmholtz_of t m normal_range T200 one ≡ checked_of (components_of t m.fractions T200 one (delta_of m one) (tau_of m T200) zero_derivatives)
unfolding helmholtz_of within_range normal_range le of_bits
passes_200 t m = refl

-- "the double below is 8"
pub below_200 : (t : Tables) (m : GergModel) → helmholtz_of t m normal_range below200 one ≡ Err refusal.OutsideRange
unfolding helmholtz_of within_range normal_range le of_bits
below_200 t m = refl

-- "density −1 at T 100 is 7"
pub density_first : (t : Tables) (m : GergModel) → helmholtz_of t m normal_range (bits 0x4059_0000_0000_0000) (neg one) ≡ Err refusal.DensityNotPositive
unfolding helmholtz_of le neg of_bits
density_first t m = refl
