-- `elementary::export::elementary_powi` meets its contract, by the equations of its two calls; the exponent is read back on its way. Assumes nothing.
use mathlib.Core.Path.{◌∙◌}
use mir.Syntax.{w32}
use mir.ValLaws.{to_z-of_z}
use Rattle.elementary.proofs.export.elementary_powi.Goals as goal

pub returns : goal.returns
returns c = c.quieted.ensures ∙ c.powi.ensures ∙ rw (to_z-of_z w32 c.args.n c.ranges.n)
