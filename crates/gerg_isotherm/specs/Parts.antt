-- The two kinds of parts of the ideal gas: the function of each.
use Rattle.std.specs.Prelude.{Float}
use Rattle.numerics.specs.Double.{◌⊗◌, ◌⊘◌}
use Rattle.elementary.specs.Hyperbolic.{sinh_of, cosh_of, tanh_of}
use Rattle.gerg_isotherm.specs.declared.part.Part.{Part}
use Rattle.gerg_isotherm.specs.declared.part.Part.TheVariants.{Sinh, Cosh}

abbrev pub function : Part → Float → Float
function Sinh v = sinh_of v
function Cosh v = cosh_of v

-- a times the derivative of the function's logarithm
abbrev pub slope : Part → Float → Float → Float
slope Sinh a v = a ⊘ tanh_of v
slope Cosh a v = a ⊗ tanh_of v
