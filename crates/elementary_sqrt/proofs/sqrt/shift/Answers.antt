-- `elementary_sqrt::sqrt::shift` meets its contract: `highest_bit` says where the highest set bit is. Assumes nothing.
use native.Mathlib.Omega.{arith}
use Rattle.numerics.specs.Patterns.{highest_bit}
use Rattle.elementary_sqrt.specs.Sqrt.{shift_of}
use Rattle.elementary_sqrt.proofs.sqrt.shift.Goals as goal

pub overflow_sub-result : goal.overflow_sub-result
overflow_sub-result c = let l = highest_bit _ c.requires.0 (omega arith) in omega arith

pub returns : goal.returns
unfolding shift_of
returns c = let l = highest_bit _ c.requires.0 (omega arith) in omega arith
