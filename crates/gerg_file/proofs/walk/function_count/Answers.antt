use native.Mathlib.Omega.{arith}
use mathlib.Core.Path.{sym}
use Rattle.numerics.specs.CallTests.{same, other}
use Rattle.gerg_file.proofs.Chain.{more, no_more, all_counted}
use Rattle.gerg_file.proofs.walk.function_count.Goals as goal

pub returns-then-byte_at : goal.returns-then-byte_at
returns-then-byte_at c = (sym (no_more _ 10 _ _ (omega arith) (other c.byte_at.ensures.0 c.if-byte_at.true) c.loop-count.invariant), omega arith)

pub loop-count-preserved : goal.loop-count-preserved
loop-count-preserved c = more _ 10 _ _ (omega arith) (same c.byte_at.ensures.0 c.if-byte_at.false) c.loop-count.invariant

pub returns : goal.returns
returns c = (omega (arith, all_counted _ 10 _ _ (omega arith) c.loop-count.invariant), omega arith)
