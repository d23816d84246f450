-- Fractions that are not negative, and their order by cross multiplication: definitions only. `Frac` has their laws.
use Rattle.std.specs.Prelude.{ℕ, ◌+◌, ◌*◌, ◌^◌, ◌≤◌, ◌<◌, Float}
use Rattle.std.proofs.Common.{le_refl, mul-pos, pow_pos}
use Rattle.std.specs.Float.Ieee.Positive.{num, den, den_pos}

pub record Frac : Type 0 where
  pub top : ℕ
  pub bot : ℕ
  pub good : 0 < bot

infix 4 ◌⊑◌ ◌⊏◌
infixl 6 ◌⊞◌
infixl 7 ◌⊠◌
-- p ≤ q, p < q
abbrev pub ◌⊑◌ : Frac → Frac → Type 0
p ⊑ q = p.top * q.bot ≤ q.top * p.bot

abbrev pub ◌⊏◌ : Frac → Frac → Type 0
p ⊏ q = p.top * q.bot < q.top * p.bot

-- p + q, p q
abbrev pub ◌⊞◌ : Frac → Frac → Frac
p ⊞ q = record { top = p.top * q.bot + q.top * p.bot; bot = p.bot * q.bot; good = mul-pos p.good q.good }

abbrev pub ◌⊠◌ : Frac → Frac → Frac
p ⊠ q = record { top = p.top * q.top; bot = p.bot * q.bot; good = mul-pos p.good q.good }

-- a whole number, and 2 ^ -k
abbrev pub nat : ℕ → Frac
nat n = record { top = n; bot = 1; good = le_refl 1 }

abbrev pub part : ℕ → Frac
part k = record { top = 1; bot = 2 ^ k; good = pow_pos k }

-- |x| of a finite double
abbrev pub val : Float → Frac
val x = record { top = num x; bot = den x; good = den_pos x }
