-- What is sought, in the terms of the definitions: the sample at each density.
use Rattle.std.specs.Prelude.{Float}
use Rattle.gerg_tables.specs.Lent.{lent}
use Rattle.gerg_scan.specs.Sampling.{sample_of}
use Rattle.gerg_scan_steps.specs.Sample.{Sample}
use Rattle.gerg_scan.specs.declared.Sought.{Sought}

abbrev pub sample_for : Sought → Float → Sample
sample_for s = sample_of (lent s.isotherm.coefficients) s.isotherm.model.now s.range s.isotherm.temperature s.pressure
