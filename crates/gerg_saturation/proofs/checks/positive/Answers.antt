use mathlib.Core.Path.{◌≡◌, ◌∙◌}
use Prim.Native.Nat.{◌<◌}
use native.Mathlib.Omega.{arith}
use lib.ListN.{get_or}
use Rattle.std.proofs.lemmas.Grind.{common_steps}
use Rattle.std.proofs.lemmas.List.{get_or-take}
use Rattle.numerics.specs.Double.{pick}
use Rattle.numerics.specs.Iterate.{iter_turn}
use Rattle.gerg_saturation.proofs.checks.positive.Goals as goal

pub loop-k-preserved : goal.loop-k-preserved
loop-k-preserved c =
    let n : c.loop-k.k < c.args.model.now.components = grind (arith, common_steps) in
    let j : c.from.result ≡ get_or c.args.model.now.component_indices c.loop-k.k 0 = c.from.ensures ∙ get_or-take _ _ _ _ n in
    let h = rw j at c.joined-p.ensures in
    grind (arith, pick, iter_turn, h)
