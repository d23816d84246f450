-- The sample and the verdict at each temperature of what the code's struct `Isobar` stands for.
use Rattle.std.specs.Prelude.{Float}
use Rattle.gerg_tables.specs.Lent.{lent}
use Rattle.gerg_ph.specs.Sampling.{sample_of}
use Rattle.gerg_ph.specs.Saturation.{verdict_at}
use Rattle.gerg_ph.specs.declared.Isobar.{Isobar}
use Rattle.gerg_saturation.specs.Answer.{Sample, Tried}

abbrev pub sample_along : Isobar → Float → Sample
sample_along i = sample_of (lent i.mixture.coefficients) i.mixture.model.now i.mixture.gradients.now i.range i.pressure

abbrev pub verdict_along : Isobar → Float → Tried
verdict_along i = verdict_at (lent i.mixture.coefficients) i.mixture.model.now i.mixture.gradients.now i.range i.pressure
