-- `gerg_composition::powers::Dampings::damping` meets its contract. Assumes nothing.
use Rattle.gerg_composition.proofs.Laws.{undamped_at}
use Rattle.gerg_composition.proofs.powers.Dampings.damping.Goals as goal

pub returns-in-None : goal.returns-in-None
returns-in-None c = rw c.in-None.is (undamped_at _ _ 0 c.args.self.cells_are)
