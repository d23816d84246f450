use Rattle.gerg_coefficients.proofs.Bounds.{code_is}
use Rattle.gerg_coefficients.proofs.gerg_tables_check.Goals as goal

pub returns : goal.returns
returns c = code_is _ c.read_tables_into-answer.ensures c.code.ensures
