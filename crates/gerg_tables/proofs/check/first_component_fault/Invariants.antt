use mathlib.Core.Path.{◌≡◌}
use Prim.Native.Nat.{◌-◌}
use Rattle.gerg_tables.specs.Check.{first, component_fault}
use Rattle.gerg_tables.proofs.check.first_component_fault.Given as goal

abbrev pub invariant-loop-i : goal.invariant-loop-i
invariant-loop-i l = first (component_fault l.doubles) 21 0 ≡ first (component_fault l.doubles) (21 - l.i) l.i
