-- `gerg_fugacity::fugacity::weighted_sum` meets its contract. The invariant: the sum over the components so far. Assumes nothing.
use mathlib.Core.Path.{◌≡◌}
use lib.Ieee.{nan}
use lib.ListN.{length, get_or}
use Rattle.numerics.specs.Double.{◌⊕◌, ◌⊗◌}
use Rattle.numerics.specs.Iterate.{iter}
use Rattle.gerg_fugacity.proofs.fugacity.weighted_sum.Given as goal

abbrev pub invariant-loop-fraction : goal.invariant-loop-fraction
invariant-loop-fraction l = l.sum ≡ iter (λ k s. s ⊕ get_or l.x k nan ⊗ get_or l.g k nan) (length l.yielded) l.initial.sum
