-- Steps one after the other: what each keeps, all keep, and where nothing changes any more, there all end. Assumes nothing.
use mathlib.Core.Path.{◌≡◌, sym, ap, ◌∙◌}
use mathlib.Core.Logic.{inl, inr}
use Prim.Native.Nat.{ℕ, zero, suc, ◌+◌, ◌-◌, ◌≤◌, ◌<◌}
use native.Mathlib.Nat.{eq-or-lt_of_le, le_of_suc-le-suc}
use native.Mathlib.Omega.{arith}
use Rattle.std.specs.Prelude.{Result, Ok, Err, MatchResult}
use Rattle.std.proofs.Common.{add-one}
use Rattle.numerics.specs.Iterate.{iter, range}
use Rattle.gerg_refusals.specs.Answer.{and_then}
use Rattle.gerg_scan_steps.specs.Left.{later_or, left_by}

-- P of what k steps accept, and Q of a refusal
module _ {A R : Type 0} (P : ℕ → A → Type 0) (Q : R → Type 0) (step : ℕ → A → Result A R) where
  pub steps_keep : (n : ℕ) (a : Result A R) → MatchResult a (P 0) Q → ((k : ℕ) (x : A) → k < n → P k x → MatchResult (step k x) (P (suc k)) Q) → MatchResult (iter (λ k b. and_then b (step k)) n a) (P n) Q
  unfolding iter
  steps_keep zero a p h = p
  steps_keep (suc n) a p h = go (iter (λ k b. and_then b (step k)) n a) (steps_keep n a p (λ k x l. h k x (omega arith)))
    where
      go : (b : Result A R) → MatchResult b (P n) Q → MatchResult (and_then b (step n)) (P (suc n)) Q
      go (Ok x) q = h n x (omega arith) q
      go (Err r) q = q

-- x, which no step changes, after k steps: so it is after n
pub iter_rests : {A : Type 0} (step : ℕ → A → A) (k n : ℕ) (a : A) {x : A} → k ≤ n → ((j : ℕ) → step j x ≡ x) → x ≡ iter step k a → x ≡ iter step n a
unfolding iter
iter_rests step k zero a h s e = e ∙ ap (λ (j : ℕ). iter step j a) (let z : k ≡ 0 = omega arith in z)
iter_rests step k (suc n) a h s e = elim (eq-or-lt_of_le {n = k} {m = suc n} h) [
  | inl i ↦ e ∙ ap (λ (j : ℕ). iter step j a) i
  | inr l ↦ sym (s n) ∙ ap (step n) (iter_rests step k n a (le_of_suc-le-suc l) s e)
]

pub range_rests : {A : Type 0} (step : ℕ → A → A) (lo j hi : ℕ) (a : A) {x : A} → j ≤ hi → ((i : ℕ) → step i x ≡ x) → x ≡ range step lo j a → x ≡ range step lo hi a
unfolding range
range_rests step lo j hi a h s e = iter_rests (λ k. step (lo + k)) (j - lo) (hi - lo) a (omega arith) (λ k. s (lo + k)) e

-- ---- what steps leave: w, which n steps from k on leave of a
module _ {A R : Type 0} (step : ℕ → A → Result A R) (left : ℕ → A → A) where
  -- after a step that accepts
  pub left_turn : (k n m : ℕ) (a b : A) {w : A} → n ≡ m + 1 → w ≡ left_by step left k n a → Ok b ≡ step k a → w ≡ left_by step left (k + 1) m b
  unfolding left_by
  left_turn k n m a b e h s =
      let n' : n ≡ suc m = e ∙ add-one m in
      h ∙ ap (λ (j : ℕ). left_by step left k j a) n' ∙ ap (later_or (left_by step left (suc k) m) (left k a)) (sym s) ∙ ap (λ (j : ℕ). left_by step left j m b) (sym (add-one k))

  -- after one that refuses
  pub left_stops : (k n m : ℕ) (a : A) (r : R) {w : A} → n ≡ m + 1 → w ≡ left_by step left k n a → Err r ≡ step k a → left k a ≡ w
  unfolding left_by
  left_stops k n m a r e h s =
      let n' : n ≡ suc m = e ∙ add-one m in
      sym (h ∙ ap (λ (j : ℕ). left_by step left k j a) n' ∙ ap (later_or (left_by step left (suc k) m) (left k a)) (sym s))

  -- after the last
  pub left_done : (k n : ℕ) (a : A) {w : A} → n ≡ 0 → w ≡ left_by step left k n a → a ≡ w
  unfolding left_by
  left_done k n a e h = sym (h ∙ ap (λ (j : ℕ). left_by step left k j a) e)

  -- P k of what the steps before k made, and Q of all that they may leave
  pub left_keeps :
      (P : ℕ → A → Type 0) (Q : A → Type 0) (n k : ℕ) (a : A) → P k a → ((j : ℕ) (x : A) → j ≤ k + n → P j x → Q x) →
      ((j : ℕ) (x : A) → j < k + n → P j x → MatchResult (step j x) (P (suc j)) (λ r. Q (left j x))) → Q (left_by step left k n a)
  unfolding left_by
  left_keeps P Q zero k a p q h = q k a (omega arith) p
  left_keeps P Q (suc n) k a p q h =
      go (λ b l. left_keeps P Q n (suc k) b l (λ j x m. q j x (omega (arith, m))) (λ j x m. h j x (omega (arith, m)))) (step k a) (h k a (omega arith) p)
    where
      go : ((b : A) → P (suc k) b → Q (left_by step left (suc k) n b)) → (z : Result A R) → MatchResult z (P (suc k)) (λ r. Q (left k a)) → Q (later_or (left_by step left (suc k) n) (left k a) z)
      go next (Ok b) m = next b m
      go next (Err r) m = m

-- what holds of an accepted value, and Y of a refusal
pub match_ok : {A R : Type 0} (P : A → Type 0) {Y : Type 0} (z : Result A R) → MatchResult z P (λ r. Unit {0}) → Y → MatchResult z P (λ r. Y)
match_ok P (Ok a) h y = h
match_ok P (Err r) h y = y
