-- `gerg_terms::ideal::ideal_term` meets its contract, for each part by its definition. Assumes nothing.
use native.Mathlib.Omega.{arith}
use Rattle.gerg_isotherm.specs.declared.part.Part.TheVariants.{Sinh, Cosh}
use Rattle.gerg_isotherm.specs.Isotherm.{cell_of}
use Rattle.gerg_isotherm.proofs.Laws.Rows.{row_first}
use Rattle.gerg_terms.specs.Terms.{part_term, ideal_term}
use Rattle.gerg_terms.proofs.ideal.ideal_term.Goals as goal

pub returns-in-Sinh : goal.returns-in-Sinh
unfolding ideal_term part_term cell_of
returns-in-Sinh c =
    let there = rw c.th0i.ensures at c.if-th0i.false in
    let row = (rw c.in-Sinh.is at c.requires.2) there in
    rw (c.in-Sinh.is, there, c.added.ensures, row_first (cell_of Sinh _ _ _) c.args.at 2 c.args.ideal.cells.now row, row 1 (omega arith), row 2 (omega arith))

pub returns-in-Cosh : goal.returns-in-Cosh
unfolding ideal_term part_term cell_of
returns-in-Cosh c =
    let there = rw c.th0i.ensures at c.if-th0i.false in
    let row = (rw c.in-Cosh.is at c.requires.2) there in
    rw (c.in-Cosh.is, there, c.taken.ensures, row_first (cell_of Cosh _ _ _) c.args.at 2 c.args.ideal.cells.now row, row 1 (omega arith), row 2 (omega arith))
