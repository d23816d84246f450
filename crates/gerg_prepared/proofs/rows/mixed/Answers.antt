use mathlib.Core.Path.{sym, ◌∙◌}
use Rattle.gerg_model.proofs.Laws.Accepted.{accepted}
use Rattle.gerg_prepared.proofs.rows.mixed.Goals as goal

pub model-model-requires : goal.model-model-requires
model-model-requires c = accepted _ _ (sym c.check_mixture.ensures ∙ c.in_ok-check_mixture.was)
