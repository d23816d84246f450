-- `gerg_fugacity::fugacity::ln_phis` meets its contract. The invariant: the first k are written. Assumes nothing.
use mathlib.Core.Path.{◌≡◌}
use lib.Ieee.{nan}
use lib.ListN.{get_or}
use Rattle.numerics.specs.Fill.{filled}
use Rattle.gerg_fugacity.specs.Fugacity.{ln_phi}
use Rattle.gerg_fugacity.proofs.fugacity.ln_phis.Given as goal

abbrev pub invariant-loop-k : goal.invariant-loop-k
invariant-loop-k it = it.values ≡ filled (λ l. ln_phi it.a (get_or it.g (get_or it.mixture.model.now.component_indices l 0) nan) it.weighted it.ln_z) it.k it.initial.values
