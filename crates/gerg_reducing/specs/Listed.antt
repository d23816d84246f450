-- What the model of an accepted list has.
use Rattle.std.specs.Prelude.{ℕ, ◌≤◌, ◌<◌, get_or}
use Rattle.gerg_reducing.specs.declared.GergModel.{GergModel}

-- what the model of an accepted list has: at most 21 listed components, each of the 21
pub record Listed (m : GergModel) : Type 0 where
  pub few : m.components ≤ 21
  pub known : (k : ℕ) → k < m.components → get_or m.component_indices k 0 < 21
