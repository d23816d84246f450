-- A number's size is within t where the number, or less it, is; and beyond t where that is.
use Rattle.std.proofs.Common.{◌≡◌, refl, sym, ap, ◌∙◌, arith, ℕ, zero, suc, ◌+◌, ◌*◌, ◌<◌, Bool, true, false, ◌||◌, ltb, Float, subst, mul-pos, zero-lt-suc, le-ltb, lt-ltb}
use lib.Ieee.{nan, inf, fin, lt, le, eq, neg, below, level, up, down}
use lib.IntN.{pos}
use Rattle.std.specs.Float.{float_with_sign}
use Rattle.std.specs.Float.Ieee.Fits.{up_pos}
use Rattle.numerics.specs.Double.{+0, pick}
use Rattle.numerics.specs.Zero.{zero_is}

-- zeros of either sign are level with the same numbers
zero_signs : (t : Bool) (a b q : ℕ) → a ≡ 0 → b ≡ 0 → (below false a t q || level false a t q) ≡ (below true b t q || level true b t q)
zero_signs t a b q x y =
    ap (λ (k : ℕ). below false k t q || level false k t q) x ∙ go t q ∙ ap (λ (k : ℕ). below true k t q || level true k t q) (sym y)
  where
    go : (t : Bool) (q : ℕ) → (below false 0 t q || level false 0 t q) ≡ (below true 0 t q || level true 0 t q)
    go true zero = refl
    go true (suc q) = let l : ltb (suc q) 0 ≡ false = le-ltb (suc q) 0 (omega arith) in rw l refl
    go false zero = refl
    go false (suc q) = let e : suc q ≡ 0 + suc q = omega arith in ap (λ (k : ℕ). ltb 0 k || level true 0 false (suc q)) e

size_at_zero : (f t : Float) → le (float_with_sign false f) t ≡ pick (lt f (fin false 0 (pos 0))) (le (neg f) t) (le f t)
unfolding float_with_sign lt le eq neg
size_at_zero nan t = refl
size_at_zero (inf true) t = refl
size_at_zero (inf false) t = refl
size_at_zero (fin false m e) t =
    let l : ltb (m * up e * 1) (0 * down e) ≡ false = le-ltb (m * up e * 1) (0 * down e) (omega arith) in
    rw l refl
size_at_zero (fin true zero e) t =
    let l : ltb 0 (0 * up e * 1 + 0 * down e) ≡ false = le-ltb 0 (0 * up e * 1 + 0 * down e) (omega arith) in
    rw l (level_zeros t)
  where
    level_zeros : (t : Float) → le (fin false 0 e) t ≡ le (fin true 0 e) t
    level_zeros nan = refl
    level_zeros (inf s) = refl
    level_zeros (fin s n d) = zero_signs s (0 * up e * down d) (0 * up e * down d) (n * up d * down e) (omega arith) (omega arith)
size_at_zero (fin true (suc m) e) t =
    let p : 0 < suc m * up e = mul-pos (zero-lt-suc m) (up_pos e) in
    let l : ltb 0 (suc m * up e * 1 + 0 * down e) ≡ true = lt-ltb 0 (suc m * up e * 1 + 0 * down e) (omega (arith, p)) in
    rw l refl

pub size_within : (f t : Float) → le (float_with_sign false f) t ≡ pick (lt f +0) (le (neg f) t) (le f t)
size_within f t = subst (λ z. le (float_with_sign false f) t ≡ pick (lt f z) (le (neg f) t) (le f t)) (sym zero_is) (size_at_zero f t)

-- ---- beyond
under_zeros : (t : Bool) (q a b : ℕ) → a ≡ 0 → b ≡ 0 → below t q false a ≡ below t q true b
under_zeros t q a b x y = ap (λ (k : ℕ). below t q false k) x ∙ go t q ∙ ap (λ (k : ℕ). below t q true k) (sym y)
  where
    go : (t : Bool) (q : ℕ) → below t q false 0 ≡ below t q true 0
    go true q = let e : q + 0 ≡ q = omega arith in ap (ltb 0) e
    go false q = le-ltb q 0 (omega arith)

beyond_at_zero : (f t : Float) → lt t (float_with_sign false f) ≡ pick (lt f (fin false 0 (pos 0))) (lt t (neg f)) (lt t f)
unfolding float_with_sign lt neg
beyond_at_zero nan t = refl
beyond_at_zero (inf true) t = refl
beyond_at_zero (inf false) t = refl
beyond_at_zero (fin false m e) t =
    let l : ltb (m * up e * 1) (0 * down e) ≡ false = le-ltb (m * up e * 1) (0 * down e) (omega arith) in
    rw l refl
beyond_at_zero (fin true zero e) t =
    let l : ltb 0 (0 * up e * 1 + 0 * down e) ≡ false = le-ltb 0 (0 * up e * 1 + 0 * down e) (omega arith) in
    rw l (under t)
  where
    under : (t : Float) → lt t (fin false 0 e) ≡ lt t (fin true 0 e)
    under nan = refl
    under (inf s) = refl
    under (fin s n d) = under_zeros s (n * up d * down e) (0 * up e * down d) (0 * up e * down d) (omega arith) (omega arith)
beyond_at_zero (fin true (suc m) e) t =
    let p : 0 < suc m * up e = mul-pos (zero-lt-suc m) (up_pos e) in
    let l : ltb 0 (suc m * up e * 1 + 0 * down e) ≡ true = lt-ltb 0 (suc m * up e * 1 + 0 * down e) (omega (arith, p)) in
    rw l refl

pub size_beyond : (f t : Float) → lt t (float_with_sign false f) ≡ pick (lt f +0) (lt t (neg f)) (lt t f)
size_beyond f t = subst (λ z. lt t (float_with_sign false f) ≡ pick (lt f z) (lt t (neg f)) (lt t f)) (sym zero_is) (beyond_at_zero f t)
