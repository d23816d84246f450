-- What the steps of a loop keep, and what one of them makes that the later ones keep. Assumes nothing.
use mathlib.Core.Bool.{Bool, true, false}
use mathlib.Core.List.{List}
use mathlib.Core.Path.{◌≡◌, refl}
use Prim.Native.Nat.{ℕ, zero, suc, ◌+◌, ◌-◌, ◌<◌, ◌≤◌}
use native.Mathlib.Nat.{not-suc-le-zero}
use native.Mathlib.Omega.{arith}
use borrow.Author.Tests.{eqb-true, eqb-false}
use lib.Dec.{eqb}
use lib.Ieee.{Float}
use Rattle.numerics.specs.Double.{pick}
use Rattle.numerics.specs.Iterate.{iter, range}

-- what each step keeps
pub iter_keeps : {A : Type 0} (step : ℕ → A → A) (P : A → Type 0) (bound : ℕ) → ((k : ℕ) → k < bound → (a : A) → P a → P (step k a)) →
    (n : ℕ) → n ≤ bound → (a : A) → P a → P (iter step n a)
unfolding iter
iter_keeps step P bound keep zero le a p = p
iter_keeps step P bound keep (suc n) le a p = keep n (omega arith) (iter step n a) (iter_keeps step P bound keep n (omega arith) a p)

-- what one step makes of what all keep, and the later ones keep
pub iter_reaches : {A : Type 0} (step : ℕ → A → A) (P Q : A → Type 0) (bound k₀ : ℕ) → ((k : ℕ) → k < bound → (a : A) → Q a → Q (step k a)) →
    ((a : A) → Q a → P (step k₀ a)) → ((k : ℕ) → k₀ < k → k < bound → (a : A) → P a → P (step k a)) →
    (n : ℕ) → k₀ < n → n ≤ bound → (a : A) → Q a → P (iter step n a)
unfolding iter
iter_reaches step P Q bound k₀ all make keep zero h le a q = absurd (not-suc-le-zero h)
iter_reaches step P Q bound k₀ all make keep (suc n) h le a q =
    go (eqb k₀ n) refl (iter_keeps step Q bound all n (omega arith) a q) (λ e. iter_reaches step P Q bound k₀ all make keep n e (omega arith) a q)
  where
    go : (b : Bool) → eqb k₀ n ≡ b → Q (iter step n a) → (k₀ < n → P (iter step n a)) → P (step n (iter step n a))
    go true e here before = let same = eqb-true k₀ n e in rw same at (make (iter step n a) here)
    go false e here before =
        let earlier : k₀ < n = omega (arith, eqb-false k₀ n e) in
        keep n earlier (omega arith) (iter step n a) (before earlier)

pub range_keeps : {A : Type 0} (step : ℕ → A → A) (P : A → Type 0) (lo hi : ℕ) → ((j : ℕ) → lo ≤ j → j < hi → (a : A) → P a → P (step j a)) →
    (a : A) → P a → P (range step lo hi a)
unfolding range
range_keeps step P lo hi keep a p = iter_keeps (λ k. step (lo + k)) P (hi - lo) (λ k e. keep (lo + k) (omega arith) (omega arith)) (hi - lo) (omega arith) a p

pub range_reaches : {A : Type 0} (step : ℕ → A → A) (P Q : A → Type 0) (lo hi j₀ : ℕ) → lo ≤ j₀ → j₀ < hi → ((j : ℕ) → lo ≤ j → j < hi → (a : A) → Q a → Q (step j a)) →
    ((a : A) → Q a → P (step j₀ a)) → ((j : ℕ) → lo ≤ j → j < hi → (a : A) → P a → P (step j a)) → (a : A) → Q a → P (range step lo hi a)
unfolding range
range_reaches step P Q lo hi j₀ from to all make keep a q =
    let here : lo + (j₀ - lo) ≡ j₀ = omega arith in
    iter_reaches (λ k. step (lo + k)) P Q (hi - lo) (j₀ - lo)
    (λ k e. all (lo + k) (omega arith) (omega arith))
    (λ a q. rw here (make a q))
    (λ k later e. keep (lo + k) (omega arith) (omega arith))
    (hi - lo) (omega arith) (omega arith) a q

pub pick_either : (P : List Float → Type 0) (b : Bool) (l m : List Float) → P l → (b ≡ false → P m) → P (pick b l m)
pick_either P true l m p q = p
pick_either P false l m p q = q refl
