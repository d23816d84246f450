-- `gerg_terms::sums::sums` meets its contract: the callee's equation, the zeros where it begins in it. Assumes nothing.
use mathlib.Core.Path.{◌∙◌}
use Rattle.gerg_derivatives.proofs.Laws.Zero.{zeros}
use Rattle.gerg_terms.proofs.sums.sums.Goals as goal

pub returns : goal.returns
returns c = c.components.ensures ∙ rw (zeros c.default.result c.default.ensures)
