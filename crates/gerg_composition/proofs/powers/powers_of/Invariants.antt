-- `gerg_composition::powers::powers_of` meets its contract. The invariant: the first q powers are written. Assumes nothing.
use mathlib.Core.Path.{◌≡◌}
use lib.ListN.{length}
use Rattle.numerics.specs.Fill.{filled}
use Rattle.elementary.specs.Power.{powi_byte_of}
use Rattle.gerg_composition.proofs.powers.powers_of.Given as goal

abbrev pub invariant-loop-q : goal.invariant-loop-q
invariant-loop-q l = (length l.initial.a ≡ 16) × (l.a ≡ filled (powi_byte_of l.delta) l.q l.initial.a)
