-- The word: xorshift is one-to-one on the words of 64 bits and keeps 0, so a seed other than 0 never leads to 0. Assumes nothing.
use Rattle.std.proofs.Common.{◌≡◌, ℕ, zero, suc, ◌+◌, ◌-◌, ◌*◌, ◌/◌, ◌%◌, ◌^◌, ◌<◌, ◌≤◌, sym, refl, ap, ◌∙◌, lt_of_le_of_lt, mod-lt, mod-eq_of_lt, pow-suc, div-one, arith, pow_pos, shr-shr}
use native.Mathlib.Nat.{mod-one, div-eq_of_lt, mul-add-mod_self_right}
use lib.Bits.{xor_shr, xor_mod, xor_lt}
use lib.Pow.{split, shr_le, mod-mod-pow}
use Rattle.generator.specs.Generator.{xor_left, xor_right, xorshift, next_of, after_of, start_of}
use Rattle.generator.proofs.Laws.Xor.{xor_cancel}

-- ---- "s xor (s << k)", k not 0: the digits come back one by one from the lowest
module _ (k s t : ℕ) (e : xor_left (suc k) s ≡ xor_left (suc k) t) where
  -- the digits below m + 1 of what is shifted left are those below m
  shifted : (m x : ℕ) → m < 64 → x * 2 ^ suc k % 2 ^ 64 % 2 ^ suc m ≡ x % 2 ^ m * 2 ^ suc k % 2 ^ suc m
  shifted m x h =
      ap (λ (n : ℕ). x * 2 ^ suc k % 2 ^ n % 2 ^ suc m) (let q : 64 ≡ 63 - m + suc m = omega arith in q) ∙ mod-mod-pow (x * 2 ^ suc k) (63 - m) (suc m)
      ∙ ap (λ (n : ℕ). n % 2 ^ suc m) (apart (2 ^ m) (2 ^ k) (2 ^ suc m) (2 ^ suc k) (x / 2 ^ m) (x % 2 ^ m) x (split x m) (pow-suc 2 m) (pow-suc 2 k))
      ∙ mul-add-mod_self_right (x / 2 ^ m * 2 ^ k) (2 ^ suc m) (x % 2 ^ m * 2 ^ suc k)
    where
      apart : (M K N L q r x : ℕ) → q * M + r ≡ x → N ≡ M * 2 → L ≡ K * 2 → x * L ≡ q * K * N + r * L
      apart M K N L q r x e n l = rw (sym e, n, l) (omega arith)

  next_lowest : (m : ℕ) → m < 64 → s % 2 ^ m ≡ t % 2 ^ m → s % 2 ^ suc m ≡ t % 2 ^ suc m
  next_lowest m h q =
      xor_cancel (s % 2 ^ suc m) (t % 2 ^ suc m) (s * 2 ^ suc k % 2 ^ 64 % 2 ^ suc m) (t * 2 ^ suc k % 2 ^ 64 % 2 ^ suc m)
      (shifted m s h ∙ ap (λ (x : ℕ). x * 2 ^ suc k % 2 ^ suc m) q ∙ sym (shifted m t h))
      (sym (xor_mod s (s * 2 ^ suc k % 2 ^ 64) (suc m)) ∙ ap (λ (x : ℕ). x % 2 ^ suc m) e ∙ xor_mod t (t * 2 ^ suc k % 2 ^ 64) (suc m))

  low : (m : ℕ) → m ≤ 64 → s % 2 ^ m ≡ t % 2 ^ m
  low zero h = mod-one s ∙ sym (mod-one t)
  low (suc m) h = next_lowest m (omega arith) (low m (omega arith))

  pub left_one_to_one : s < 2 ^ 64 → t < 2 ^ 64 → s ≡ t
  left_one_to_one p q = sym (mod-eq_of_lt p) ∙ low 64 (omega arith) ∙ mod-eq_of_lt q

-- ---- "s xor (s >> k)", k not 0: from the highest
module _ (k s t : ℕ) (e : xor_right (suc k) s ≡ xor_right (suc k) t) where
  moved : (m x : ℕ) → x / 2 ^ suc k / 2 ^ m ≡ x / 2 ^ suc m / 2 ^ k
  moved m x = shr-shr x (suc k) m ∙ ap (λ (j : ℕ). x / 2 ^ j) (let q : suc k + m ≡ suc m + k = omega arith in q) ∙ sym (shr-shr x (suc m) k)

  next_highest : (m : ℕ) → s / 2 ^ suc m ≡ t / 2 ^ suc m → s / 2 ^ m ≡ t / 2 ^ m
  next_highest m q =
      xor_cancel (s / 2 ^ m) (t / 2 ^ m) (s / 2 ^ suc k / 2 ^ m) (t / 2 ^ suc k / 2 ^ m)
      (moved m s ∙ ap (λ (x : ℕ). x / 2 ^ k) q ∙ sym (moved m t))
      (sym (xor_shr s (s / 2 ^ suc k) m) ∙ ap (λ (x : ℕ). x / 2 ^ m) e ∙ xor_shr t (t / 2 ^ suc k) m)

  high : (m : ℕ) → s / 2 ^ m ≡ t / 2 ^ m → s ≡ t
  high zero q = sym (div-one s) ∙ q ∙ div-one t
  high (suc m) q = high m (next_highest m q)

  pub right_one_to_one : s < 2 ^ 64 → t < 2 ^ 64 → s ≡ t
  right_one_to_one p q = high 64 (div-eq_of_lt p ∙ sym (div-eq_of_lt q))

-- ---- words stay below 2^64
left_below : (k s : ℕ) → s < 2 ^ 64 → xor_left k s < 2 ^ 64
left_below k s h = xor_lt 64 s (s * 2 ^ k % 2 ^ 64) h (mod-lt (s * 2 ^ k) (pow_pos 64))

right_below : (k s : ℕ) → s < 2 ^ 64 → xor_right k s < 2 ^ 64
right_below k s h = xor_lt 64 s (s / 2 ^ k) h (lt_of_le_of_lt (shr_le s k) h)

pub xorshift_below : (s : ℕ) → s < 2 ^ 64 → xorshift s < 2 ^ 64
unfolding xorshift
xorshift_below s h = left_below 17 (xor_right 7 (xor_left 13 s)) (right_below 7 (xor_left 13 s) (left_below 13 s h))

-- "xorshift is a bijection that fixes 0": one-to-one on a finite set
pub xorshift_one_to_one : (s t : ℕ) → s < 2 ^ 64 → t < 2 ^ 64 → xorshift s ≡ xorshift t → s ≡ t
unfolding xorshift
xorshift_one_to_one s t p q e =
    let a = left_below 13 s p in
    let b = left_below 13 t q in
    left_one_to_one 12 s t
    (right_one_to_one 6 (xor_left 13 s) (xor_left 13 t)
    (left_one_to_one 16 (xor_right 7 (xor_left 13 s)) (xor_right 7 (xor_left 13 t)) e (right_below 7 (xor_left 13 s) a) (right_below 7 (xor_left 13 t) b)) a b) p q

pub xorshift_zero : xorshift 0 ≡ 0
unfolding xorshift
xorshift_zero = refl

-- ---- the word of a seed after k draws
pub word_below : (seed k : ℕ) → seed < 2 ^ 64 → (after_of (start_of seed) k).word < 2 ^ 64
unfolding after_of next_of
word_below seed zero h = h
word_below seed (suc k) h = xorshift_below (after_of (start_of seed) k).word (word_below seed k h)

-- "a seed other than 0 never leads to s = 0"
pub never_zero : (seed k : ℕ) → seed < 2 ^ 64 → (seed ≡ 0 → ⊥) → (after_of (start_of seed) k).word ≡ 0 → ⊥
unfolding after_of next_of
never_zero seed zero h n e = n e
never_zero seed (suc k) h n e =
    never_zero seed k h n (xorshift_one_to_one (after_of (start_of seed) k).word 0 (word_below seed k h) (pow_pos 64) (e ∙ sym xorshift_zero))
