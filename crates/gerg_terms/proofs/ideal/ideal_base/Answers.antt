-- `gerg_terms::ideal::ideal_base` meets its contract: the callee's equation, with what the cells hold. Assumes nothing.
use native.Mathlib.Omega.{arith}
use mathlib.Core.Path.{◌∙◌}
use Prim.Native.Nat.{◌+◌, ◌*◌}
use Rattle.gerg_terms.specs.Terms.{ideal_base}
use Rattle.gerg_isotherm.specs.Isotherm.{base_cell}
use Rattle.gerg_isotherm.proofs.Laws.Rows.{row_first}
use Rattle.gerg_terms.proofs.ideal.ideal_base.Goals as goal

pub returns : goal.returns
unfolding ideal_base base_cell
returns c =
    let t = c.args.ideal in
    let cell = base_cell t.doubles.now t.x t.temperature t.i in
    let row = t.rows.base in
    c.added.ensures ∙
    rw (row_first cell (624 + 15 * t.i) 2 t.cells.now row, row 1 (omega arith), row 2 (omega arith), c.n0i-n3.ensures, c.n0i-n1.ensures, c.args.density.logarithm_is)
