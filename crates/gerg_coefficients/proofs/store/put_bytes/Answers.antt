use mathlib.Core.Path.{◌≡◌, refl}
use Rattle.gerg_coefficients.proofs.Put.{no_bytes, byte_on}
use native.Mathlib.Omega.{arith}
use Rattle.gerg_coefficients.proofs.store.put_bytes.Goals as goal

pub loop-k-init : goal.loop-k-init
loop-k-init c = no_bytes _ _ _ _

pub loop-k-preserved : goal.loop-k-preserved
loop-k-preserved c = byte_on _ _ _ _ _ c.loop-k.invariant refl

pub returns : goal.returns
returns c = let e : c.loop-k.k ≡ c.args.n = omega arith in rw e at c.loop-k.invariant
