-- `elementary::power::signed_double` meets its contract. Assumes nothing.
use mathlib.Core.Path.{ap, ◌∙◌}
use lib.Ieee.{binary64, of_int}
use Rattle.elementary.proofs.SignedIntegers.{byte_back}
use Rattle.elementary.proofs.power.signed_double.Goals as goal

pub returns : goal.returns
returns c = c.from.ensures ∙ ap (of_int binary64) (byte_back c.args.b c.cast_signed.result c.ranges.b c.cast_signed.ensures)
