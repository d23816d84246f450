-- `elementary::export::quieted` meets its contract: a value that differs from itself is `nan`, and so is the quotient of the zeros. Assumes nothing.
use mathlib.Core.Path.{sym, ◌∙◌}
use Rattle.numerics.specs.Literals.{zero_over_zero}
use Rattle.numerics.specs.Nan.{differs}
use Rattle.elementary.proofs.export.quieted.Goals as goal

pub returns-then-x : goal.returns-then-x
returns-then-x c = zero_over_zero ∙ sym (differs _ c.if-x.true)
