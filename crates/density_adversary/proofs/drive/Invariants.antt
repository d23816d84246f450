-- No more trials than steps, so that their count does not wrap.
use Rattle.std.proofs.Common.{◌≤◌}
use Rattle.density_adversary.proofs.drive.Given as goal

abbrev pub invariant-loop-step : goal.invariant-loop-step
invariant-loop-step l = l.search.trials ≤ l._step
