-- What the steps of the reader leave: arrays filled so far, and pairs that are finite.
use Rattle.std.specs.Prelude.{true, ◌≡◌, List, ◌++◌, ℕ, ◌+◌, ◌-◌, ◌*◌, ◌<◌, length, replicate}
use Rattle.std.specs.Float.Ieee.Scale.{finite}
use Rattle.gerg_file.specs.Kinds as Kinds
use Rattle.gerg_file.specs.Bytes.{double_at}
use Rattle.gerg_file.specs.Counts.{sum}

-- an array of n entries that holds l, and then zeros
unfoldable pub padded : {A : Type 0} → ℕ → A → List A → List A
padded n z l = l ++ replicate (n - length l) z

-- the doubles among them are finite
abbrev pub FiniteAt : List ℕ → ℕ → ℕ → Type 0
FiniteAt s at n = (k : ℕ) → k < n → finite (double_at s (at + 8 * k)) ≡ true

-- those numbers are finite, for row i
abbrev pub FinitePairs : List ℕ → ℕ → ℕ → Type 0
FinitePairs s from i =
    (j : ℕ) → j < 21 - i → FiniteAt s (from + (Kinds.pair).size * (sum (λ h. 20 - h) i + i) + (Kinds.pair).doubles + (Kinds.pair).size * j) 5
