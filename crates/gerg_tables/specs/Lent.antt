-- The tables that are lent as coefficients.
use Rattle.gerg_tables.specs.declared.Tables.{Tables}
use Rattle.gerg_tables.specs.declared.coefficients.Coefficients.{Coefficients}
use Rattle.gerg_tables.specs.Tables.{tables}

abbrev pub lent : Coefficients → Tables
lent c = tables c.doubles.now c.integers.now
