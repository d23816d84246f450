-- `elementary::power::powi_byte` meets its contract, by that of `powi`. Assumes nothing.
use mathlib.Core.Path.{ap, ◌∙◌}
use Rattle.elementary.specs.Power.{powi_of}
use Rattle.elementary.proofs.SignedIntegers.{byte_back, byte_wide}
use Rattle.elementary.proofs.power.powi_byte.Goals as goal

pub returns : goal.returns
returns c = let e = c.from.ensures ∙ byte_back c.args.b c.cast_signed.result c.ranges.b c.cast_signed.ensures in c.powi.ensures ∙ ap (powi_of c.args.x) (byte_wide c.args.b c.from.result c.ranges.b e)
