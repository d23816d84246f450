-- `elementary::power::powf` meets its contract, by the logarithm that it hands on. Assumes nothing.
use mathlib.Core.Path.{◌∙◌}
use Rattle.elementary.proofs.Laws.{powf_from_ln}
use Rattle.elementary.proofs.power.powf.Goals as goal

pub returns : goal.returns
returns c = c.powf_of_ln.ensures ∙ powf_from_ln _ _ _ c.ln.ensures
