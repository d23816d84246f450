-- `elementary_sqrt::sqrt::root_digits` meets its contract. The invariant: the digits that are found and what is left are those of the radicand (`Found`). Assumes nothing.
use Prim.Native.Nat.{◌*◌, ◌^◌}
use Rattle.elementary_sqrt.proofs.Root.{Found}
use Rattle.elementary_sqrt.proofs.sqrt.root_digits.Given as goal

abbrev pub invariant-loop : goal.invariant-loop
invariant-loop l = Found (l.x * 2 ^ 54) l.counter l.root l.left l.bit
