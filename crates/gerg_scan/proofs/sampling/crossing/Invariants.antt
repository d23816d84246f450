-- `gerg_scan::sampling::crossing` meets its contract. The invariant: h is as the halvings so far left it. Assumes nothing.
use mathlib.Core.Path.{◌≡◌}
use Rattle.std.specs.Prelude.{Ok}
use Rattle.gerg_scan_steps.proofs.Laws.Loops.{halved}
use Rattle.gerg_scan.specs.Sought.{sample_for}
use Rattle.gerg_scan.proofs.sampling.crossing.Given as goal

abbrev pub invariant-loop : goal.invariant-loop
invariant-loop l = Ok l.h ≡ halved (sample_for l.sought) l.tolerance l.lo l.hi l.counter
