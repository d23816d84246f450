-- `run` meets its contract. The invariant is `Ahead`: what is left to do from here ends where the whole search ends; each need is one law of it. Assumes nothing.
use Rattle.gerg_tables.specs.Lent.{lent}
use Rattle.gerg_density.specs.Density.{verdict_of}
use Rattle.gerg_search.proofs.Laws.Ahead.{Ahead, steps_left}
use Rattle.gerg_density.proofs.density.run.Given as goal

abbrev pub invariant-loop-x : goal.invariant-loop-x
invariant-loop-x l = Ahead l.o (verdict_of (lent l.isotherm.coefficients) l.isotherm.model.now l.range l.isotherm.temperature l.target) l.s

abbrev pub decreases-loop-x : goal.decreases-loop-x
decreases-loop-x l = steps_left l.o l.s
