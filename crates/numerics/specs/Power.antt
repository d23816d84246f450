-- The exact power x ^ t of a positive fraction x, t of either sign: e ^ (t ln x), from the exact exponential and the logarithm that it inverts (`Exponential`). No real number is named: ln x is known by
-- the fractions on either side of it, and x ^ t by the fractions above and below it, as e ^ x is. What it means is shown in `PowerLaws` (order, enclosure, x ^ 0, x ^ (s + t)), in `PowerSigns` (t l alone, by the
-- sign of t) and in `PowerAlgebra` (x ^ a against q ^ b for t = a / b, with neither exponential nor logarithm).
use Rattle.std.specs.Prelude.{◌+◌, ◌*◌}
use Rattle.std.proofs.Common.{mul-pos}
use Rattle.numerics.specs.Fraction.{Frac, ◌⊑◌, ◌⊞◌, ◌⊠◌}
use Rattle.numerics.specs.Exponential.{Signed, size, AboveExp, BelowExp, AboveLn, BelowLn, LnReaches}

-- t⁺ l - t⁻ k, where t = t⁺ - t⁻. A double has only one of the two parts, so that of a double it is t l (t ≥ 0) or t k (t ≤ 0)
abbrev pub product_bound : Signed → Signed → Signed → Signed
product_bound t l k = record {
  plus = t.plus * (l.plus * k.bot) + t.minus * (k.minus * l.bot);
  minus = t.plus * (l.minus * k.bot) + t.minus * (k.plus * l.bot);
  bot = t.bot * (l.bot * k.bot);
  good = mul-pos t.good (mul-pos l.good k.good);
}

-- q lies above x ^ t: above e ^ (t⁺ l - t⁻ k) for an l that is at least ln x and a k that is at most ln x, so that the exponent is at least t ln x. Below: with l and k changed over
abbrev pub AbovePower : Frac → Signed → Frac → Type 0
AbovePower x t q = (l : Signed) × ((k : Signed) × (AboveLn x l × (BelowLn x k × AboveExp (product_bound t l k) q)))

abbrev pub BelowPower : Frac → Signed → Frac → Type 0
BelowPower x t q = (l : Signed) × ((k : Signed) × (AboveLn x l × (BelowLn x k × BelowExp (product_bound t k l) q)))

-- r is within ε of x ^ t relatively: r ≤ (1 + ε) q for each q above, (1 - ε) q ≤ r for each q below
pub record PowerWithin (ε x : Frac) (t : Signed) (r : Frac) : Type 0 where
  pub high : (q : Frac) → AbovePower x t q → r ⊑ q ⊞ ε ⊠ q
  pub low : (q : Frac) → BelowPower x t q → q ⊑ r ⊞ ε ⊠ q

-- |t ln x| ≤ b: |t| c ≤ b for each c that |ln x| reaches
abbrev pub ProductWithin : Frac → Signed → Frac → Type 0
ProductWithin x t b = (c : Frac) → LnReaches c x → size t ⊠ c ⊑ b
