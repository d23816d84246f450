-- `gerg_root_list::answer::put_roots` meets its contract. The invariant: the roots so far are written. Assumes nothing.
use mathlib.Core.Path.{◌≡◌}
use Prim.Native.Nat.{◌+◌}
use Rattle.gerg_root_list.specs.RootList.{roots_written}
use Rattle.gerg_root_list.proofs.answer.put_roots.Given as goal

abbrev pub invariant-loop-k : goal.invariant-loop-k
invariant-loop-k l = l.out ≡ roots_written l.roots (4 + l.components) l.k l.initial.out
