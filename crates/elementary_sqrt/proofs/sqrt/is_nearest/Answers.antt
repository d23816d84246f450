-- `elementary_sqrt::sqrt::is_nearest` meets its contract: the products fit, and what the last test says is the law `nearest_tested`. Assumes nothing.
use native.Mathlib.Omega.{arith}
use mathlib.Core.Path.{refl}
use Rattle.elementary_sqrt.proofs.Root.{nearest_tested}
use Rattle.elementary_sqrt.proofs.sqrt.is_nearest.Goals as goal

pub returns : goal.returns
returns c =
    nearest_tested c.args.x c.args.q _ _ c.requires.0 refl refl (omega arith) (omega arith)
