use mathlib.Core.Path.{sym, ◌∙◌}
use native.Mathlib.Omega.{arith}
use Rattle.std.proofs.lemmas.Grind.{common_steps}
use Rattle.gerg_tables.proofs.Some.{fault_found, no_fault_yet, no_fault}
use Rattle.gerg_tables.proofs.check.first_component_fault.Goals as goal

pub returns-in_err-component_fault : goal.returns-in_err-component_fault
returns-in_err-component_fault c =
    let e = fault_found _ 21 _ c.loop-i.invariant (omega arith) (sym c.component_fault.ensures ∙ c.in_err-component_fault.was) in
    grind (arith, common_steps)

pub loop-i-preserved : goal.loop-i-preserved
loop-i-preserved c = no_fault_yet _ 21 _ c.loop-i.invariant (omega arith) (sym c.component_fault.ensures ∙ c.in_ok-component_fault.was)

pub returns : goal.returns
returns c = sym (no_fault _ 21 _ c.loop-i.invariant (omega arith))
