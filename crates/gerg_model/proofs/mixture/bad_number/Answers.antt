use native.Mathlib.Omega.{arith}
use lib.Dec.{eqb}
use lib.ListN.{get_or}
use Rattle.gerg_model.specs.MixtureCheck.{bad_number}
use Rattle.gerg_model.proofs.Laws.First.{any_first}
use Rattle.gerg_model.proofs.mixture.bad_number.Goals as goal

pub returns : goal.returns
unfolding bad_number
returns c = rw (c.contains.ensures.value, any_first (λ x. eqb x (get_or c.args.list.now c.args.k 0)) 0 c.args.list.now c.args.k (omega arith))
