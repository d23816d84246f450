use mathlib.Core.Path.{◌≡◌}
use lib.ListN.{length, take}
use Prim.Native.Nat.{◌<◌}
use native.Mathlib.Omega.{arith}
use Rattle.std.proofs.lemmas.List.{get_or-take, length-take, length-take-le}
use Rattle.numerics.specs.Fill.{fill_begins, fill_again, fill_done}
use Rattle.gerg_fugacity.proofs.Laws.Worked.{ln_phis_worked}
use Rattle.gerg_fugacity.proofs.fugacity.ln_phis.Goals as goal

pub loop-k-init : goal.loop-k-init
loop-k-init c = fill_begins _ _

pub loop-k-preserved : goal.loop-k-preserved
loop-k-preserved c =
    let m = c.args.mixture.model.now in
    let below : c.loop-k.k < m.components = omega (arith, length-take m.components m.component_indices, c.loop-k-test.true) in
    rw (c.ln_phi.ensures, c.from.ensures, get_or-take m.components m.component_indices c.loop-k.k 0 below) (fill_again _ _ _ c.loop-k.invariant (omega (arith, below, c.args.mixture.listed.few)))

pub returns : goal.returns
returns c =
    let m = c.args.mixture.model.now in
    let all : length (take m.components m.component_indices) ≡ m.components = grind (arith, length-take-le, c.args.mixture.listed.few) in
    ln_phis_worked _ _ _ _ _ _ _ _ _ c.molar_gradient-g.ensures c.weighted_sum-weighted.ensures c.ln-ln_z.ensures (fill_done _ _ _ _ c.loop-k.invariant (omega (arith, all)))
