-- The cells of an isotherm that is lent hold all that the sums read. Assumes nothing.
use Rattle.gerg_tables.specs.Lent.{lent}
use Rattle.gerg_reducing.specs.Reduced.{tau_of}
use Rattle.gerg_isotherm.specs.declared.lent.Isotherm.{Isotherm}
use Rattle.gerg_isotherm.specs.Rows.{Rows}
use Rattle.gerg_isotherm.proofs.Laws.Reads.{isotherm_rows}

pub lent_rows : (t : Isotherm) → Rows (lent t.coefficients) t.model.now.fractions t.temperature (tau_of t.model.now t.temperature) t.cells.now
lent_rows t = rw t.worked (isotherm_rows _ _ _ t.coefficients.shaped)
