-- `gerg_model::mixture::by_component` meets its contract. The invariant: the fractions so far are placed. Assumes nothing.
use mathlib.Core.Path.{◌≡◌}
use Prim.Native.Nat.{◌-◌}
use lib.Ieee.{nan}
use lib.ListN.{length, get_or, set}
use Rattle.numerics.specs.Iterate.{iter}
use Rattle.gerg_model.proofs.mixture.by_component.Given as goal

abbrev pub invariant-loop-number : goal.invariant-loop-number
invariant-loop-number l = l.x ≡ iter (λ i y. set y (get_or l.list i 0 - 1) (get_or l.fractions i nan)) (length l.yielded) l.initial.x
