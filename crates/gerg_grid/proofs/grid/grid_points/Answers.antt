use native.Mathlib.Omega.{arith}
use mathlib.Core.Path.{sym, ap, ◌∙◌}
use lib.ListN.{length}
use Rattle.gerg_grid.proofs.Laws.Held.{held}
use Rattle.gerg_grid.proofs.grid.grid_points.Goals as goal

pub returns : goal.returns
returns c =
    let e = c.copy_from_slice.ensures.after ∙ c.deref.ensures.0 in
    held c.len-count.result c.copy_from_slice.new.self _ (e ∙ c.grid-sorted.ensures) (c.len-count.ensures.value ∙ sym (ap length e)) (omega arith)
