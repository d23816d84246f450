-- `gerg_model::mixture::sum_of` meets its contract. The invariant: the sum is that of the fractions so far. Assumes nothing.
use mathlib.Core.Path.{◌≡◌}
use lib.Ieee.{nan}
use lib.ListN.{get_or}
use Rattle.numerics.specs.Double.{◌⊕◌}
use Rattle.numerics.specs.Iterate.{iter}
use Rattle.gerg_model.proofs.mixture.sum_of.Given as goal

abbrev pub invariant-loop-x : goal.invariant-loop-x
invariant-loop-x l = l.sum ≡ iter (λ k s. s ⊕ get_or l.fractions k nan) l.x-index l.initial.sum
