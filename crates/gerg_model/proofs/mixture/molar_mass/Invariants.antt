-- `gerg_model::mixture::molar_mass` meets its contract. The invariant: the mass is that of the first i components. Assumes nothing.
use mathlib.Core.Path.{◌≡◌}
use lib.Ieee.{nan}
use lib.ListN.{get_or}
use Rattle.numerics.specs.Double.{◌⊕◌, ◌⊗◌, ◌⊘◌}
use Rattle.numerics.specs.Iterate.{iter}
use Rattle.gerg_tables.specs.Tables.{mmi_gerg}
use Rattle.gerg_reducing.specs.Reduced.{thousand}
use Rattle.gerg_model.proofs.mixture.molar_mass.Given as goal

abbrev pub invariant-loop-i : goal.invariant-loop-i
invariant-loop-i l = l.mass ≡ iter (λ k m. m ⊕ get_or l.x k nan ⊗ mmi_gerg l.doubles k ⊘ thousand) l.i l.initial.mass
