-- A loop over the things of a chain: what is left gives what the whole gives. Their numbers end before `end`.
use mathlib.Core.Path.{◌≡◌, sym, ap, ◌∙◌}
use Prim.Native.Nat.{ℕ, suc, ◌+◌, ◌-◌, ◌≤◌, ◌<◌}
use native.Mathlib.Omega.{arith}
use Rattle.gerg_refusals.specs.Answer.{and_then}
use Rattle.gerg_file.specs.File.{Walk}
use Rattle.std.specs.Prelude.{Ok, Err}
use Rattle.gerg_refusals.specs.declared.Refusal.{Refusal}
use Rattle.gerg_file.specs.Kinds as Kinds
use Rattle.gerg_file.specs.Bytes.{byte}
use Rattle.gerg_file.specs.File.{chain, functions}
use mathlib.Core.Bool.{Bool, true, false, cond}
use mathlib.Core.List.{List}
use lib.Dec.{eqb}

module _ (step : ℕ → ℕ → Walk) (end : ℕ) where
  pub start : (n i at : ℕ) → end ≡ i + n → chain step n i at ≡ chain step (end - i) i at
  start n i at e = ap (λ (m : ℕ). chain step m i at) (omega arith)

  unroll : (i at : ℕ) → i < end → chain step (end - i) i at ≡ and_then (step i at) (chain step (end - (i + 1)) (i + 1))
  unfolding chain
  unroll i at h = ap (λ (m : ℕ). chain step m i at) (let e : end - i ≡ suc (end - (i + 1)) = omega arith in e)

  pub go : (i at next : ℕ) {w : Walk} → i < end → w ≡ step i at → w ≡ Ok next → {v : Walk} → v ≡ chain step (end - i) i at
      → v ≡ chain step (end - (i + 1)) (i + 1) next
  go i at next h e q r = r ∙ unroll i at h ∙ ap (λ (w : Walk). and_then w (chain step (end - (i + 1)) (i + 1))) (sym e ∙ q)

  pub stop : (i at : ℕ) {r : Refusal} {w : Walk} → i < end → w ≡ step i at → w ≡ Err r → {v : Walk} → v ≡ chain step (end - i) i at → v ≡ Err r
  stop i at h e q r = r ∙ unroll i at h ∙ ap (λ (w : Walk). and_then w (chain step (end - (i + 1)) (i + 1))) (sym e ∙ q)

  pub done : (i at : ℕ) → end ≤ i → {v : Walk} → v ≡ chain step (end - i) i at → v ≡ Ok at
  unfolding chain
  done i at h r = r ∙ ap (λ (m : ℕ). chain step m i at) (let e : end - i ≡ 0 = omega arith in e)

-- after k functions of n, those that are left are counted
pub more : (s : List ℕ) (n k at : ℕ) {t : ℕ} → k < n → eqb (byte s at) (Kinds.function).kind ≡ true → t ≡ k + functions s (n - k) at
    → t ≡ (k + 1) + functions s (n - (k + 1)) (at + (Kinds.function).size)
unfolding functions
more s n k at h e r =
    r ∙ ap (λ (m : ℕ). k + functions s m at) (let q : n - k ≡ suc (n - (k + 1)) = omega arith in q)
    ∙ ap (λ (b : Bool). k + cond b (suc (functions s (n - (k + 1)) (at + (Kinds.function).size))) 0) e
    ∙ (let q : k + suc (functions s (n - (k + 1)) (at + (Kinds.function).size)) ≡ (k + 1) + functions s (n - (k + 1)) (at + (Kinds.function).size) = omega arith in q)

pub no_more : (s : List ℕ) (n k at : ℕ) {t : ℕ} → k < n → eqb (byte s at) (Kinds.function).kind ≡ false → t ≡ k + functions s (n - k) at → t ≡ k
unfolding functions
no_more s n k at h e r =
    r ∙ ap (λ (m : ℕ). k + functions s m at) (let q : n - k ≡ suc (n - (k + 1)) = omega arith in q)
    ∙ ap (λ (b : Bool). k + cond b (suc (functions s (n - (k + 1)) (at + (Kinds.function).size))) 0) e
    ∙ (let q : k + 0 ≡ k = omega arith in q)

pub all_counted : (s : List ℕ) (n k at : ℕ) {t : ℕ} → n ≤ k → t ≡ k + functions s (n - k) at → t ≡ k
unfolding functions
all_counted s n k at h r =
    r ∙ ap (λ (m : ℕ). k + functions s m at) (let q : n - k ≡ 0 = omega arith in q) ∙ (let q : k + 0 ≡ k = omega arith in q)
