-- `halvings` meets its contract. The invariant is `Ahead`: what is left to do ends where the whole ends; each need is one law of it. Assumes nothing.
use Rattle.gerg_saturation.proofs.Laws.Halvings.{Ahead}
use Rattle.gerg_ph.specs.Isobars.{verdict_along}
use Rattle.gerg_ph.proofs.saturation.halvings.Given as goal

abbrev pub invariant-loop-k : goal.invariant-loop-k
invariant-loop-k l = Ahead (verdict_along l.isobar) l.k-end l.initial.b l.k l.trials l.b
