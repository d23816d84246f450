-- `elementary::power::powi` meets its contract: each way is a law of `proofs/SignedIntegers.antt`. Assumes nothing.
use Rattle.elementary.proofs.SignedIntegers.{powi_negative, powi_positive}
use Rattle.elementary.proofs.power.powi.Goals as goal

pub returns-then-n-lt0 : goal.returns-then-n-lt0
returns-then-n-lt0 c =
    rw (c.power-r.ensures, c.unsigned_abs.ensures.value) (powi_negative c.args.x c.args.n c.ranges.n c.if-n-lt0.true)

pub returns : goal.returns
returns c =
    rw (c.power-r.ensures, c.unsigned_abs.ensures.value) (powi_positive c.args.x c.args.n c.ranges.n c.if-n-lt0.false)
