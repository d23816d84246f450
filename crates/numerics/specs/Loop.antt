-- Loops as definitions, once for every loop. They stay shut, so that antt does not write out the steps of a literal n; `Iterate` and `Fill` have their laws.
use Rattle.std.specs.Prelude.{List, [], ◌∷◌, ◌++◌, ℕ, zero, suc, ◌+◌, ◌-◌, drop}

-- a after the steps 0, 1, .., n - 1
unfoldable pub iter : {A : Type 0} → (ℕ → A → A) → ℕ → A → A
iter step zero a = a
iter step (suc k) a = step k (iter step k a)

-- a after the steps lo, lo + 1, .., hi - 1
unfoldable pub range : {A : Type 0} → (ℕ → A → A) → ℕ → ℕ → A → A
range step lo hi a = iter (λ k. step (lo + k)) (hi - lo) a

-- f 0, f 1, .., f (n - 1)
unfoldable pub tabulate : {A : Type 0} → (ℕ → A) → ℕ → List A
tabulate f zero = []
tabulate f (suc n) = tabulate f n ++ (f n ∷ [])

-- d with its first n elements written
abbrev pub filled : {A : Type 0} → (ℕ → A) → ℕ → List A → List A
filled f n d = tabulate f n ++ drop n d
