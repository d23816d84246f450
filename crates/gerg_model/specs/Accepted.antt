-- What a list and fractions that passed rows 3 and 4 have.
use Rattle.std.specs.Prelude.{◌≡◌, List, ℕ, ◌≤◌, ◌<◌, Float, length, get_or}

-- what a list that passed has: at most 21 places, and a number from 1 to 21 at each
pub record KnownList (list : List ℕ) : Type 0 where
  pub few : length list ≤ 21
  pub known : (k : ℕ) → k < length list → (0 < get_or list k 0) × (get_or list k 0 ≤ 21)

-- and with fractions that passed: as many
pub record Accepted (list : List ℕ) (fractions : List Float) : Type 0 where
  pub listed : KnownList list
  pub paired : length fractions ≡ length list
