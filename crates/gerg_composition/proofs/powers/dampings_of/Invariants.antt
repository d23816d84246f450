-- `gerg_composition::powers::dampings_of` meets its contract. The invariant: the first q factors are written. Assumes nothing.
use mathlib.Core.Path.{◌≡◌}
use lib.ListN.{length}
use Rattle.numerics.specs.Fill.{filled}
use Rattle.gerg_composition.specs.Powers.{damping_at}
use Rattle.gerg_composition.proofs.powers.dampings_of.Given as goal

abbrev pub invariant-loop-q : goal.invariant-loop-q
invariant-loop-q l = (length l.initial.a ≡ 17) × (l.a ≡ filled (damping_at l.powers.delta) l.q l.initial.a)
