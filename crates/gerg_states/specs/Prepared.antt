-- The numbers and the counts of a mixture that is prepared once for the whole run.
use Rattle.std.specs.Prelude.{List, ℕ}
use Rattle.generator.specs.Generator.{state_of}
use Rattle.generator.specs.declared.State.{State}
use Rattle.gerg_tables.specs.declared.Tables.{Tables}
use Rattle.gerg_reducing.specs.declared.GergModel.{GergModel}
use Rattle.gerg.specs.Helmholtz.{normal_range}
use Rattle.gerg.specs.Evaluate.{evaluate_of}
use Rattle.gerg_refusals.specs.Answer.{number_of}
use Rattle.gerg_states.specs.declared.Run.{Run}
use Rattle.gerg_states.specs.States.{counts_by}

-- rows 6 to 12 in the normal range: the number, 0 where the state is accepted
unfoldable pub number_from : Tables → GergModel → State → ℕ
number_from t model state = number_of (evaluate_of t model normal_range state.temperature state.density)

unfoldable pub counts_from : Tables → GergModel → Run → List ℕ
counts_from t model run = counts_by (λ n. number_from t model (state_of run.seed n)) run
