-- The text of the run's counts.
use Rattle.states.proofs.Lines.{counted_is}
use Rattle.states.proofs.report.Report.of_run.Goals as goal

pub returns-in-Ok : goal.returns-in-Ok
returns-in-Ok c =
    rw c.from.ensures (counted_is _ c.args.states _ _ _ _ c.in-Ok.is c.count_refusals.ensures.answer c.count_refusals.ensures.memory)
