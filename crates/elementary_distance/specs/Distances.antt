-- How far exp, ln, sqrt and powf are from the exact values: statements, which proofs/Theorems.antt proves at the figures below. `exp_of`, `ln_of`, `sqrt_of` and `powf_of` are what the functions' contracts
-- name (elementary: Exp, Ln, Sqrt, Power). A double is a `Float` that binary64 holds (`fits`); `val x` is |x| as a fraction, `signed x` is x with its sign (numerics: Fraction, Exponential); and the
-- exact exponential, logarithm and power, from which `Within`, `LnNear` and `PowerWithin` measure, are known by the fractions above and below them (numerics: Exponential, Power).
use Rattle.std.specs.Prelude.{◌≡◌, true, ℕ, ◌+◌, ◌-◌, ◌*◌, T, Float}
use Rattle.std.proofs.Common.{mul-pos, zero-lt-suc}
use Rattle.std.specs.Float.{binary64}
use Rattle.std.specs.Float.Ieee.{lt, le, neg, fits}
use Rattle.std.specs.Float.Ieee.Positive.{positive}
use Rattle.std.specs.Float.Ieee.Scale.{finite}
use Rattle.numerics.specs.Fraction.{Frac, ◌⊑◌, ◌⊏◌, ◌⊠◌, nat, part, val}
use Rattle.numerics.specs.Exponential.{signed, size, Within, LnNear}
use Rattle.numerics.specs.Power.{PowerWithin, ProductWithin}
use Rattle.elementary_exp.specs.Exp.{exp_of, most}
use Rattle.elementary_ln.specs.Ln.{ln_of}
use Rattle.numerics.specs.Double.{positive_finite}
use Rattle.elementary_sqrt.specs.Sqrt.{sqrt_of}
use Rattle.elementary.specs.Power.{powf_of}

-- ---- the figures that are proved, in bits
abbrev pub exp_bits : ℕ
exp_bits = 48

abbrev pub ln_bits : ℕ
ln_bits = 48

abbrev pub powf_bits : ℕ
powf_bits = 36

-- exp: y is finite, above zero, and within 2 ^ -k of e ^ x relatively
pub record WithinOfExp (k : ℕ) (x y : Float) : Type 0 where
  pub pos : T (positive y)
  pub near : Within (part k) (signed x) (val y)

-- "exp: within 2^−40 of the exact value, relatively, for −700 to 700": that with 2^−k
abbrev pub ExpDistance : ℕ → Type 0
ExpDistance k = (x : Float) → T (le (neg most) x) → T (le x most) → WithinOfExp k x (exp_of x)

-- ln: y is finite, and within 2 ^ -k × max(1, |ln x|) of ln x
pub record WithinOfLn (k : ℕ) (x y : Float) : Type 0 where
  pub number : T (finite y)
  pub near : LnNear (part k) (val x) (signed y)

-- "ln: within 2^−44 × max(1, |ln x|) for each positive finite double x": that with 2^−k, subnormals included
abbrev pub LnDistance : ℕ → Type 0
LnDistance k = (x : Float) → T (fits binary64 x) → T (positive x) → WithinOfLn k x (ln_of x)

-- sqrt: (y + z) / 2, or 0 where that is negative
abbrev pub halfway : Float → Float → Frac
halfway y z =
    let a = signed y in
    let b = signed z in
    record { top = a.plus * b.bot + b.plus * a.bot - (a.minus * b.bot + b.minus * a.bot); bot = 2 * (a.bot * b.bot); good = mul-pos (zero-lt-suc 1) (mul-pos a.good b.good) }

-- y is nearer to the root of x than every other finite double z, of either sign: the root lies on y's side of halfway between them, and not on it, so that no tie happens
pub record NearestRoot (x y : Float) : Type 0 where
  pub pos : T (positive y)
  pub above : (z : Float) → T (fits binary64 z) → T (finite z) → lt y z ≡ true → val x ⊏ halfway y z ⊠ halfway y z
  pub below : (z : Float) → T (fits binary64 z) → T (finite z) → lt z y ≡ true → halfway y z ⊠ halfway y z ⊏ val x

-- "sqrt: the nearest double", for each positive finite double x
abbrev pub SqrtDistance : Type 0
SqrtDistance = (x : Float) → T (fits binary64 x) → positive_finite x ≡ true → NearestRoot x (sqrt_of x)

-- powf: y is a double, finite and above zero, and within 2 ^ -k of x ^ t relatively
pub record WithinOfPower (k : ℕ) (x t y : Float) : Type 0 where
  pub double : T (fits binary64 y)
  pub pos : T (positive y)
  pub near : PowerWithin (part k) (val x) (signed t) (val y)

-- "For |t| ≤ 64 and |t × ln x| ≤ 64, x positive and finite, .. powf lies within 2^−36 of the exact power, relatively" (request 02): that with b and 2^−k; ln x is the exact logarithm, x may be subnormal
abbrev pub PowerDistance : ℕ → ℕ → Type 0
PowerDistance b k = (x t : Float) → T (fits binary64 x) → positive_finite x ≡ true → T (finite t) → size (signed t) ⊑ nat b → ProductWithin (val x) (signed t) (nat b) → WithinOfPower k x t (powf_of x t)

-- "tau raised to a table exponent": x from 1 / 256 to 256 and |t| ≤ 32, no logarithm in the conditions
abbrev pub TablePowerDistance : ℕ → Type 0
TablePowerDistance k = (x t : Float) → T (fits binary64 x) → positive_finite x ≡ true → T (finite t) → nat 1 ⊑ val x ⊠ nat 256 → val x ⊑ nat 256 → size (signed t) ⊑ nat 32 → WithinOfPower k x t (powf_of x t)
