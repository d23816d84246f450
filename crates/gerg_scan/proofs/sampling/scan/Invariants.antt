-- `gerg_scan::sampling::scan` meets its contract. The invariant: what the scan over the grid points so far gives, and leaves. Assumes nothing.
use mathlib.Core.Path.{◌≡◌}
use Prim.Native.Nat.{◌≤◌, ◌+◌}
use lib.ListN.{length}
use Rattle.std.specs.Prelude.{Ok}
use Rattle.gerg_scan_steps.proofs.Laws.Loops.{scanned, leaving}
use Rattle.gerg_scan.specs.Sought.{sample_for}
use Rattle.gerg_scan.proofs.sampling.scan.Given as goal

abbrev pub invariant-loop-point : goal.invariant-loop-point
invariant-loop-point l = (length l.scanned.roots.items ≤ l.point-index) × (Ok l.scanned ≡ scanned (sample_for l.sought) l.sought.pressure l.grid (l.point-index + 1)) × leaving (sample_for l.sought) l.sought.pressure l.grid (l.point-index + 1) l.scanned
