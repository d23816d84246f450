use native.Mathlib.Omega.{arith}
use mathlib.Core.List.{List}
use mathlib.Core.Path.{ap, ◌∙◌}
use lib.Ieee.{nan}
use lib.ListN.{length, get_or}
use lib.Ieee.{Float}
use Rattle.numerics.specs.Iterate.{iter_begins, iter_turn, iter_done}
use Rattle.gerg_grid.specs.Grid.{sorted_points, kept, grid_of}
use Rattle.gerg_grid.proofs.Laws.GridFew.{kept_more}
use Rattle.gerg_grid.proofs.Laws.GridRises.{length_sorted}
use Rattle.gerg_grid.proofs.grid.grid.Goals as goal

pub loop-x-init : goal.loop-x-init
loop-x-init c = (omega (arith, ap length c.new-points.ensures), c.as_slice-x-items.ensures.value ∙ c.sorted_points-sorted.ensures, c.new-points.ensures ∙ iter_begins _ _)

pub loop-x-preserved : goal.loop-x-preserved
loop-x-preserved c =
    let t = c.loop-x in
    let e = c.keep.ensures ∙ ap (λ (l : List Float). kept (get_or l t.x-index nan) t.points.items) t.invariant.1 in
    (omega (arith, t.invariant.0, ap length e, kept_more (get_or sorted_points t.x-index nan) t.points.items), t.invariant.1, iter_turn _ _ _ t.invariant.2 e)

pub returns : goal.returns
unfolding grid_of
returns c = iter_done _ _ _ _ c.loop-x.invariant.2 (omega (arith, ap length c.loop-x.invariant.1, length_sorted))
