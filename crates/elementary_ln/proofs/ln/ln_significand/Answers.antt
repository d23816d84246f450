-- `elementary_ln::ln::ln_significand` meets its contract. Assumes nothing.
use native.Mathlib.Omega.{arith}
use Rattle.elementary_ln.specs.Ln.{ln_significand}
use Rattle.numerics.specs.Literals.{no_nan}
use Rattle.elementary_ln.proofs.ln.ln_significand.Goals as goal

pub float_from_bits-m : goal.float_from_bits-m
float_from_bits-m c = no_nan _ (omega arith)

pub float_from_bits-c : goal.float_from_bits-c
float_from_bits-c c = no_nan _ (omega arith)

pub returns : goal.returns
unfolding ln_significand
returns c = cc
