-- Row 21 passed: a temperature from 230 to 350 K. Assumes nothing.
use mathlib.Core.Path.{◌≡◌}
use mathlib.Core.Bool.{true, ◌&&◌}
use lib.Dec.{T}
use lib.Ieee.{Float, le}
use Rattle.numerics.specs.Double.{bits}
use Rattle.numerics.specs.Tests.{holds, and_true}
use Rattle.gerg_root_list.specs.RootList.{within_envelope}

module _ (temperature pressure : Float) (e : within_envelope temperature pressure ≡ true) where
  temperatures : (le (bits 0x406c_c000_0000_0000) temperature && le temperature (bits 0x4075_e000_0000_0000)) ≡ true
  unfolding within_envelope
  temperatures = (and_true (le (bits 0x406c_c000_0000_0000) temperature && le temperature (bits 0x4075_e000_0000_0000)) (le (bits 0x40f8_6a00_0000_0000) pressure && le pressure (bits 0x4163_12d0_0000_0000)) e).0

  pub envelope_low : T (le (bits 0x406c_c000_0000_0000) temperature)
  envelope_low = holds _ (and_true (le (bits 0x406c_c000_0000_0000) temperature) (le temperature (bits 0x4075_e000_0000_0000)) temperatures).0

  pub envelope_high : T (le temperature (bits 0x4075_e000_0000_0000))
  envelope_high = holds _ (and_true (le (bits 0x406c_c000_0000_0000) temperature) (le temperature (bits 0x4075_e000_0000_0000)) temperatures).1
