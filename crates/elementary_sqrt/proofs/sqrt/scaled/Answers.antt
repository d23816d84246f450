-- `elementary_sqrt::sqrt::scaled` meets its contract: its patterns are below infinity's. Assumes nothing.
use native.Mathlib.Omega.{arith}
use Rattle.numerics.specs.Literals.{no_nan}
use Rattle.elementary_sqrt.proofs.sqrt.scaled.Goals as goal

pub float_from_bits-result : goal.float_from_bits-result
float_from_bits-result c = no_nan _ (omega arith)

pub float_from_bits-result-2 : goal.float_from_bits-result-2
float_from_bits-result-2 c = no_nan _ (omega arith)
