use mathlib.Core.Path.{◌∙◌}
use Rattle.gerg_coefficients.proofs.Cases.{read_answer, read_tables_are}
use Rattle.gerg_prepared.proofs.Laws.{prepared_answer, prepared_shaped, prepared_listed}
use Rattle.gerg_prepared.proofs.rows.prepare.Goals as goal

pub returns-clause-answer : goal.returns-clause-answer
returns-clause-answer c = c.mixed.ensures ∙ prepared_answer _ _ _ (read_tables_are _ c.read_tables_into-answer.ensures) (read_answer _ c.read_tables_into-answer.ensures)

pub returns-clause-tables : goal.returns-clause-tables
returns-clause-tables c = read_tables_are _ c.read_tables_into-answer.ensures

pub returns-clause-shaped : goal.returns-clause-shaped
returns-clause-shaped c =
    prepared_shaped _ _ _ _ (read_tables_are _ c.read_tables_into-answer.ensures)
    (c.mixed.ensures ∙ prepared_answer _ _ _ (read_tables_are _ c.read_tables_into-answer.ensures) (read_answer _ c.read_tables_into-answer.ensures))

pub returns-clause-listed : goal.returns-clause-listed
returns-clause-listed c =
    prepared_listed _ _ _ _ (c.mixed.ensures ∙ prepared_answer _ _ _ (read_tables_are _ c.read_tables_into-answer.ensures) (read_answer _ c.read_tables_into-answer.ensures))
