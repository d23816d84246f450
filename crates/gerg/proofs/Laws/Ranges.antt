-- The two ranges: 200 to 450 K, up to 35 MPa, and 60 to 700 K, up to 70 MPa. The first is inside the second. Assumes nothing.
use mathlib.Core.Path.{◌≡◌, refl}
use lib.IntN.{pos}
use lib.Ieee.{binary64, of_bits, of_int, le}
use Rattle.numerics.specs.Double.{bits}
use Rattle.gerg.specs.Helmholtz.{normal_range, extended_range}
use Rattle.gerg.proofs.Laws.Inside.{Inside}

-- the ends as whole numbers, so that no pattern has to be decoded
pub normal_ends :
    (normal_range.temperature_low ≡ of_int binary64 (pos 200)) × (normal_range.temperature_high ≡ of_int binary64 (pos 450)) × (normal_range.pressure_high ≡ of_int binary64 (pos 35_000_000))
unfolding normal_range of_bits of_int
normal_ends = (refl, refl, refl)

pub extended_ends :
    (extended_range.temperature_low ≡ of_int binary64 (pos 60)) × (extended_range.temperature_high ≡ of_int binary64 (pos 700)) × (extended_range.pressure_high ≡ of_int binary64 (pos 70_000_000))
unfolding extended_range of_bits of_int
extended_ends = (refl, refl, refl)

pub normal_low : normal_range.temperature_low ≡ bits 0x4069_0000_0000_0000
unfolding normal_range
normal_low = refl

pub normal_high : normal_range.temperature_high ≡ bits 0x407c_2000_0000_0000
unfolding normal_range
normal_high = refl

pub normal_inside : Inside normal_range extended_range
unfolding normal_range extended_range of_bits le
normal_inside = record { low = (tt, tt, tt); high = (tt, tt, tt); pressure = (tt, tt, tt) }
