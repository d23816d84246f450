-- A rule of a table's entries by one computed test over them all (`each`), which `each_entry` turns into the rule at one entry. Assumes nothing.
use Rattle.std.specs.Prelude.{◌≡◌, List, [], ◌∷◌, Bool, true, ◌&&◌, ℕ, zero, suc, ◌+◌, ◌<◌, T, get_or, length}
use Rattle.std.proofs.Common.{sym, subst, le_of_suc-le-suc, add-zero, zero-add, arith}
use Rattle.std.specs.Float.Ieee.Fits.{and_l, and_r}

-- the test of each entry and its number, which begin at j
unfoldable pub each : (ℕ → ℕ → Bool) → ℕ → List ℕ → Bool
each test j [] = true
each test j (p ∷ ps) = test j p && each test (suc j) ps

none : (i : ℕ) → i < 0 → ⊥
none i h = omega arith

each_at : (test : ℕ → ℕ → Bool) (ps : List ℕ) (j i : ℕ) → T (each test j ps) → i < length ps → T (test (j + i) (get_or ps i 0))
unfolding each
each_at test [] j i t h = absurd (none i h)
each_at test (p ∷ ps) j zero t h = subst (λ (k : ℕ). T (test k p)) (sym (add-zero j)) (and_l (test j p) (each test (suc j) ps) t)
each_at test (p ∷ ps) j (suc i) t h = subst (λ (k : ℕ). T (test k (get_or ps i 0))) (shape j i) (each_at test ps (suc j) i (and_r (test j p) (each test (suc j) ps) t) (le_of_suc-le-suc h))
  where
    shape : (j i : ℕ) → suc j + i ≡ j + suc i
    shape j i = omega arith

pub each_entry : (test : ℕ → ℕ → Bool) (ps : List ℕ) (i : ℕ) → T (each test 0 ps) → i < length ps → T (test i (get_or ps i 0))
each_entry test ps i t h = subst (λ (k : ℕ). T (test k (get_or ps i 0))) (zero-add i) (each_at test ps 0 i t h)
