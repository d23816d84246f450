use Rattle.numerics.specs.Iterate.{iter_begins, iter_turn}
use Rattle.gerg_root_list.specs.RootList.{roots_written}
use Rattle.gerg_root_list.proofs.answer.put_roots.Goals as goal

pub loop-k-init : goal.loop-k-init
unfolding roots_written
loop-k-init c = iter_begins _ _

pub loop-k-preserved : goal.loop-k-preserved
unfolding roots_written
loop-k-preserved c = iter_turn _ _ _ c.loop-k.invariant c.put_root.ensures
