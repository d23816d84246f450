-- `gerg_flash::settle::settle` meets its contract. The invariant: what is kept of the roots so far, and left of all. Assumes nothing.
use mathlib.Core.Path.{◌≡◌}
use Prim.Native.Nat.{◌≤◌}
use lib.ListN.{length}
use Rattle.std.specs.Prelude.{Ok}
use Rattle.gerg_root_list.proofs.Laws.Keeping.{kept, leaving}
use Rattle.gerg_flash.specs.SoughtRoots.{root_for}
use Rattle.gerg_flash.proofs.settle.settle.Given as goal

abbrev pub invariant-loop-found : goal.invariant-loop-found
invariant-loop-found l = (length l.roots.items ≤ l.found-index) × (Ok l.roots.items ≡ kept (root_for l.sought) l.sought.densities.pressure l.scanned l.found-index) × leaving (root_for l.sought) l.sought.densities.pressure l.scanned l.found-index l.roots.items
