-- The reduced variables of a model, and when a component is absent.
use Rattle.std.specs.Prelude.{Bool, Float}
use Rattle.std.specs.Float.Ieee.{eq}
use Rattle.numerics.specs.Double.{◌⊘◌, bits, +0}
use Rattle.gerg_reducing.specs.declared.GergModel.{GergModel}

-- 1000.0
abbrev pub thousand : Float
thousand = bits 0x408f_4000_0000_0000

-- "−0 counts as zero"
abbrev pub absent : Float → Bool
absent x = eq x +0

-- the reduced density and the inverse reduced temperature
abbrev pub delta_of : GergModel → Float → Float
delta_of m rho = rho ⊘ m.reducing_density

abbrev pub tau_of : GergModel → Float → Float
tau_of m temperature = m.reducing_temperature ⊘ temperature
