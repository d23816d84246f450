-- The exponential of a fraction x that is not negative, by the partial sums of its power series: S n x = 1 + x + x ^ 2 / 2! + .. + x ^ n / n!.
-- `Above x q` says that q is at least every partial sum, and so at least e ^ x. `Below x q` says that q is at most some partial sum, and so below e ^ x.
-- Assumes nothing.
use Rattle.std.specs.Prelude.{ℕ, zero, suc, ◌+◌, ◌*◌, ◌^◌, ◌≤◌, ◌<◌, T, leb, Bool, true, false, not}
use native.Mathlib.Nat.{le_refl, le_trans, mul-le-mul, mul-le-mul_right, mul-le-mul_left, pow-suc}
use Rattle.std.proofs.Math.Decide.{le_ind}
use Rattle.std.proofs.Common.{arith, leb→le}
use Rattle.std.proofs.Math.Dec.{nleb→lt}
unfoldable pub use Rattle.numerics.specs.Exponential.{sum_bot}
pub use Rattle.numerics.specs.Exponential.{sum_bot_pos}
use Rattle.numerics.specs.Frac.{Frac, ◌⊑◌, ⊑_refl, ⊑_trans}

-- ---- x = a / b: the sum up to x ^ n / n! is sum_top n a b / sum_bot n b, and sum_bot n b is b ^ n * n!
unfoldable pub sum_top : ℕ → ℕ → ℕ → ℕ
sum_top zero a b = 1
sum_top (suc n) a b = sum_top n a b * (b * suc n) + a ^ suc n

abbrev pub S : ℕ → Frac → Frac
S n x = record { top = sum_top n x.top x.bot; bot = sum_bot n x.bot; good = sum_bot_pos n x.bot x.good }

-- the sum up to n and twice the next term
abbrev pub U : ℕ → Frac → Frac
U n x = record {
  top = sum_top n x.top x.bot * (x.bot * suc n) + 2 * x.top ^ suc n;
  bot = sum_bot (suc n) x.bot;
  good = sum_bot_pos (suc n) x.bot x.good;
}

abbrev pub Above : Frac → Frac → Type 0
Above x q = (m : ℕ) → S m x ⊑ q

abbrev pub Below : Frac → Frac → Type 0
Below x q = (n : ℕ) × (q ⊑ S n x)

-- ---- a lower bound is at most an upper bound
pub below_above : (x p q : Frac) → Below x p → Above x q → p ⊑ q
below_above x p q (n, h) k = ⊑_trans p (S n x) q h (k n)

-- ---- the sums grow
grow : (E P Q k : ℕ) → E * (Q * k) ≤ (E * k + P) * Q
grow E P Q k = omega (arith, mul-le-mul_right Q (native.Mathlib.Nat.le-add_right (E * k) P))

pub S-step : (n : ℕ) (x : Frac) → S n x ⊑ S (suc n) x
unfolding sum_top sum_bot
S-step n x = grow (sum_top n x.top x.bot) (x.top ^ suc n) (sum_bot n x.bot) (x.bot * suc n)

pub S-mono : (m n : ℕ) (x : Frac) → m ≤ n → S m x ⊑ S n x
S-mono m n x h = le_ind (λ k. S m x ⊑ S k x) (⊑_refl (S m x)) (λ k _ ih. ⊑_trans (S m x) (S k x) (S (suc k) x) ih (S-step k x)) n h

-- ---- the upper sums shrink, from the first n with 2 * x ≤ n + 2 on
S-U : (n : ℕ) (x : Frac) → S n x ⊑ U n x
unfolding sum_top sum_bot
S-U n x = grow (sum_top n x.top x.bot) (2 * x.top ^ suc n) (sum_bot n x.bot) (x.bot * suc n)

shrink : (E P Q k j a : ℕ) → 2 * a ≤ j → ((E * k + P) * j + 2 * (P * a)) * (Q * k) ≤ (E * k + 2 * P) * (Q * k * j)
shrink E P Q k j a h = omega (arith, mul-le-mul_right (P * Q * k) h)

U-step : (n : ℕ) (x : Frac) → 2 * x.top ≤ x.bot * suc (suc n) → U (suc n) x ⊑ U n x
unfolding sum_top sum_bot
U-step n x h = rw (pow-suc x.top (suc n)) (shrink (sum_top n x.top x.bot) (x.top ^ suc n) (sum_bot n x.bot) (x.bot * suc n) (x.bot * suc (suc n)) x.top h)

later : (a b n m : ℕ) → n ≤ m → 2 * a ≤ b * suc (suc n) → 2 * a ≤ b * suc (suc m)
later a b n m h k = le_trans k (mul-le-mul_left b (omega arith))

U-anti : (n m : ℕ) (x : Frac) → 2 * x.top ≤ x.bot * suc (suc n) → n ≤ m → U m x ⊑ U n x
U-anti n m x h l = le_ind (λ k. U k x ⊑ U n x) (⊑_refl (U n x)) (λ k g ih. ⊑_trans (U (suc k) x) (U k x) (U n x) (U-step k x (later x.top x.bot n k g h)) ih) m l

-- every partial sum is at most an upper sum
pub S-below_U : (n m : ℕ) (x : Frac) → 2 * x.top ≤ x.bot * suc (suc n) → S m x ⊑ U n x
S-below_U n m x h = go (leb m n) (leb→le m n) (nleb→lt m n)
  where
    go : (b : Bool) → (T b → m ≤ n) → (T (not b) → n < m) → S m x ⊑ U n x
    go true p q = ⊑_trans (S m x) (S n x) (U n x) (S-mono m n x (p tt)) (S-U n x)
    go false p q = ⊑_trans (S m x) (U m x) (U n x) (S-U m x) (U-anti n m x h (native.Mathlib.Nat.le_of_lt (q tt)))

-- the two ways to know a bound, by computing one sum
pub above_by : (n : ℕ) (x q : Frac) → 2 * x.top ≤ x.bot * suc (suc n) → U n x ⊑ q → Above x q
above_by n x q h k m = ⊑_trans (S m x) (U n x) q (S-below_U n m x h) k

pub below_by : (n : ℕ) (x q : Frac) → q ⊑ S n x → Below x q
below_by n x q h = (n, h)

-- a bound may be loosened
pub above_more : (x q r : Frac) → q ⊑ r → Above x q → Above x r
above_more x q r h k m = ⊑_trans (S m x) q r (k m) h

pub below_less : (x q r : Frac) → r ⊑ q → Below x q → Below x r
below_less x q r h (n, k) = (n, ⊑_trans r q (S n x) h k)

-- ---- the sums grow with x
terms : (a b c d A B P Q k : ℕ) → a * d ≤ c * b → A * Q ≤ B * P → A * a * (Q * (d * k)) ≤ B * c * (P * (b * k))
terms a b c d A B P Q k h l = omega (arith, mul-le-mul_right k (mul-le-mul l h))

pub term_mono : (n a b c d : ℕ) → a * d ≤ c * b → a ^ n * sum_bot n d ≤ c ^ n * sum_bot n b
unfolding sum_bot
term_mono zero a b c d h = rw (native.Mathlib.Nat.pow-zero a, native.Mathlib.Nat.pow-zero c) (le_refl 1)
term_mono (suc n) a b c d h = rw (pow-suc a n, pow-suc c n) (terms a b c d (a ^ n) (c ^ n) (sum_bot n b) (sum_bot n d) (suc n) h (term_mono n a b c d h))

sums : (E P A F Q B k j : ℕ) → E * Q ≤ F * P → A * (Q * j) ≤ B * (P * k) → (E * k + A) * (Q * j) ≤ (F * j + B) * (P * k)
sums E P A F Q B k j h l = omega (arith, mul-le-mul_right (k * j) h)

pub S-arg : (n : ℕ) (x y : Frac) → x ⊑ y → S n x ⊑ S n y
unfolding sum_top sum_bot
S-arg zero x y h = le_refl 1
S-arg (suc n) x y h =
    sums (sum_top n x.top x.bot) (sum_bot n x.bot) (x.top ^ suc n) (sum_top n y.top y.bot) (sum_bot n y.bot) (y.top ^ suc n) (x.bot * suc n) (y.bot * suc n)
    (S-arg n x y h) (term_mono (suc n) x.top x.bot y.top y.bot h)

pub above_arg : (x y q : Frac) → x ⊑ y → Above y q → Above x q
above_arg x y q h k m = ⊑_trans (S m x) (S m y) q (S-arg m x y h) (k m)

pub below_arg : (x y q : Frac) → x ⊑ y → Below x q → Below y q
below_arg x y q h (n, k) = (n, ⊑_trans q (S n x) (S n y) k (S-arg n x y h))
