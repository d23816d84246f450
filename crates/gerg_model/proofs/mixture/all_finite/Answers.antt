use Rattle.gerg_model.specs.Mixture.{all_finite}
use Rattle.gerg_model.proofs.Laws.First.{none_found}
use Rattle.gerg_model.proofs.mixture.all_finite.Goals as goal

pub returns : goal.returns
unfolding all_finite
returns c = rw c.told-gradient at (none_found _ _ c.first_nonfinite.ensures c.is_none.ensures)
