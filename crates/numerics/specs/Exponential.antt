-- The exact exponential and logarithm: the definitions that every stated distance rests on. "The exact exponential is defined by its power series over whole-number
-- fractions with a bound on the cut tail; a logarithm by the exponential that it inverts." No real number is named: e ^ x is known by the fractions above and below it.
-- `ExponentialLaws` has the laws, `Equivalence` the equal forms that proofs use, `Distance` and `Logarithm` the ways to show a distance.
use Rattle.std.specs.Prelude.{true, false, ◌⊎◌, Float, ℕ, zero, suc, ◌+◌, ◌-◌, ◌*◌, ◌^◌, ◌≤◌, ◌<◌}
use Rattle.std.specs.Float.{nan, inf, fin}
use Rattle.std.proofs.Common.{le_refl, mul-pos, zero-lt-suc}
use Rattle.numerics.specs.Fraction.{Frac, ◌⊑◌, ◌⊞◌, ◌⊠◌, nat, val}

-- a fraction of either sign: (plus - minus) / bot
pub record Signed : Type 0 where
  pub plus : ℕ
  pub minus : ℕ
  pub bot : ℕ
  pub good : 0 < bot

-- a and -a, and the value of a finite double
abbrev pub plus_of : Frac → Signed
plus_of a = record { plus = a.top; minus = 0; bot = a.bot; good = a.good }

abbrev pub minus_of : Frac → Signed
minus_of a = record { plus = 0; minus = a.top; bot = a.bot; good = a.good }

abbrev pub signed : Float → Signed
signed nan = plus_of (val nan)
signed (inf s) = plus_of (val (inf s))
signed (fin false m e) = plus_of (val (fin false m e))
signed (fin true m e) = minus_of (val (fin true m e))

-- |x|
abbrev pub size : Signed → Frac
size x = record { top = x.plus - x.minus + (x.minus - x.plus); bot = x.bot; good = x.good }

-- (p - m) ^ k, as a difference
unfoldable pub powers : ℕ → ℕ → ℕ → ℕ × ℕ
powers zero p m = (1, 0)
powers (suc k) p m = ((powers k p m).0 * p + (powers k p m).1 * m, (powers k p m).0 * m + (powers k p m).1 * p)

-- b ^ n * n!
unfoldable pub sum_bot : ℕ → ℕ → ℕ
sum_bot zero b = 1
sum_bot (suc n) b = sum_bot n b * (b * suc n)

pub sum_bot_pos : (n b : ℕ) → 0 < b → 0 < sum_bot n b
unfolding sum_bot
sum_bot_pos zero b B = le_refl 1
sum_bot_pos (suc n) b B = mul-pos (sum_bot_pos n b B) (mul-pos B (zero-lt-suc n))

-- 1 + x + x ^ 2 / 2! + .. + x ^ n / n! for x = (p - m) / b, as a difference over sum_bot n b
unfoldable pub sums : ℕ → ℕ → ℕ → ℕ → ℕ × ℕ
sums zero p m b = (1, 0)
sums (suc n) p m b = ((sums n p m b).0 * (b * suc n) + (powers (suc n) p m).0, (sums n p m b).1 * (b * suc n) + (powers (suc n) p m).1)

-- the partial sum is gain - loss
abbrev pub gain : ℕ → Signed → Frac
gain n x = record { top = (sums n x.plus x.minus x.bot).0; bot = sum_bot n x.bot; good = sum_bot_pos n x.bot x.good }

abbrev pub loss : ℕ → Signed → Frac
loss n x = record { top = (sums n x.plus x.minus x.bot).1; bot = sum_bot n x.bot; good = sum_bot_pos n x.bot x.good }

-- the bound on what is cut off, 2 |x| ^ (n + 1) / (n + 1)!, good once n + 2 ≥ 2 |x|: from there on a term is at most half of the one before
abbrev pub tail : ℕ → Signed → Frac
tail n x = record { top = 2 * (size x).top ^ suc n; bot = sum_bot (suc n) x.bot; good = sum_bot_pos (suc n) x.bot x.good }

abbrev pub Enough : ℕ → Signed → Type 0
Enough n x = 2 * (size x).top ≤ x.bot * suc (suc n)

-- q lies above e ^ x: some partial sum with the tail's bound added is at most q. (Some: each such sum is at least e ^ x, and they come as near as one likes, so one that is at most q shows e ^ x ≤ q, and one computation finds it. The same of `BelowExp`, from below.)
abbrev pub AboveExp : Signed → Frac → Type 0
AboveExp x q = (n : ℕ) × (Enough n x × (gain n x ⊞ tail n x ⊑ q ⊞ loss n x))

-- q lies below e ^ x: some partial sum with the tail's bound taken off is at least q
abbrev pub BelowExp : Signed → Frac → Type 0
BelowExp x q = (n : ℕ) × (Enough n x × (q ⊞ loss n x ⊞ tail n x ⊑ gain n x))

-- r is within ε of e ^ x relatively: r ≤ (1 + ε) q for each q above, (1 - ε) q ≤ r for each q below
pub record Within (ε : Frac) (x : Signed) (r : Frac) : Type 0 where
  pub high : (q : Frac) → AboveExp x q → r ⊑ q ⊞ ε ⊠ q
  pub low : (q : Frac) → BelowExp x q → q ⊑ r ⊞ ε ⊠ q

-- r + d and r - d
abbrev pub raised : Signed → Frac → Signed
raised r d = record { plus = r.plus * d.bot + d.top * r.bot; minus = r.minus * d.bot; bot = r.bot * d.bot; good = mul-pos r.good d.good }

abbrev pub lowered : Signed → Frac → Signed
lowered r d = record { plus = r.plus * d.bot; minus = r.minus * d.bot + d.top * r.bot; bot = r.bot * d.bot; good = mul-pos r.good d.good }

-- l is at least ln x: nothing above e ^ l is less than x. l is at most ln x: nothing below e ^ l exceeds x
abbrev pub AboveLn : Frac → Signed → Type 0
AboveLn x l = (q : Frac) → AboveExp l q → x ⊑ q

abbrev pub BelowLn : Frac → Signed → Type 0
BelowLn x l = (q : Frac) → BelowExp l q → q ⊑ x

-- r is within d of ln x: r - d is at most ln x, and r + d at least
pub record LnWithin (d x : Frac) (r : Signed) : Type 0 where
  pub low : BelowLn x (lowered r d)
  pub high : AboveLn x (raised r d)

-- c is at most |ln x|: it is at most ln x, or nothing below e ^ c exceeds 1 / x
abbrev pub LnReaches : Frac → Frac → Type 0
LnReaches c x = BelowLn x (plus_of c) ⊎ ((q : Frac) → BelowExp (plus_of c) q → q ⊠ x ⊑ nat 1)

-- r is within ε × max(1, |ln x|) of ln x: within a d that is at most ε, or at most ε c for a c that |ln x| reaches
pub record LnNear (ε x : Frac) (r : Signed) : Type 0 where
  pub d : Frac
  pub within : LnWithin d x r
  pub small : (d ⊑ ε) ⊎ ((c : Frac) × (LnReaches c x × (d ⊑ ε ⊠ c)))
