-- What every step of a loop keeps, the loop keeps; and what grows by one at most. Assumes nothing.
use Rattle.std.specs.Prelude.{List, [], ◌∷◌, ◌++◌, ℕ, zero, suc, ◌+◌, ◌≤◌, length}
use Rattle.std.proofs.Common.{arith, length-append}
use Rattle.numerics.specs.Iterate.{iter}

pub iter_keeps : {A : Type 0} (P : A → Type 0) (step : ℕ → A → A) (a : A) → P a → ((k : ℕ) (x : A) → P x → P (step k x)) → (n : ℕ) → P (iter step n a)
unfolding iter
iter_keeps P step a p h zero = p
iter_keeps P step a p h (suc n) = h n (iter step n a) (iter_keeps P step a p h n)

-- a size that each step makes greater by one at most
pub iter_grows : {A : Type 0} (size : A → ℕ) (step : ℕ → A → A) (a : A) → ((k : ℕ) (x : A) → size (step k x) ≤ size x + 1) → (n : ℕ) → size (iter step n a) ≤ size a + n
unfolding iter
iter_grows size step a h zero = omega arith
iter_grows size step a h (suc n) = omega (arith, h n (iter step n a), iter_grows size step a h n)

-- a list with one more at its end, and one as it was
pub one_more : {A : Type 0} (l : List A) (x : A) → length (l ++ (x ∷ [])) ≤ length l + 1
one_more l x = omega (arith, length-append l (x ∷ []))

pub none_more : (n : ℕ) → n ≤ n + 1
none_more n = omega arith
