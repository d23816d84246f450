-- What a root of what is sought gives.
use Rattle.std.specs.Prelude.{Float}
use Rattle.gerg_tables.specs.Lent.{lent}
use Rattle.gerg_root_list.specs.RootList.{Outcome}
use Rattle.gerg_flash.specs.Roots.{root_at}
use Rattle.gerg_flash.specs.declared.SoughtRoots.{SoughtRoots}

abbrev pub root_for : SoughtRoots → Float → Outcome
root_for s = root_at (lent s.mixture.coefficients) s.mixture.model.now s.mixture.gradients.now s.densities.range s.densities.isotherm.temperature
