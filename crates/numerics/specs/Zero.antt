-- Doubles and zero, by the tests of code: above a double above zero, at most zero, neither below nor above it. Assumes nothing.
use Rattle.std.specs.Prelude.{◌≡◌, refl, Bool, true, false, not, ◌||◌, ℕ, zero, suc, ◌+◌, ◌*◌, ◌≤◌, ◌<◌, ℤ, pos, T, ltb, Float}
use Rattle.std.proofs.Common.{sym, subst, true≢false, lt_of_lt_of_le, lt_of_not-le, mul-pos, zero-lt-suc, arith, le-ltb, ne_eqb, ltb→lt, nltb→le, lt→ltb, lit≤}
use Rattle.std.proofs.lemmas.Bool.{false≢true}
use Rattle.std.specs.Float.{nan, inf, fin}
use Rattle.std.specs.Float.Ieee.{up, down, of_bits, is_nan, lt, le, eq, below, level}
use Rattle.std.specs.Float.Ieee.Fits.{up_pos, down_pos}
use Rattle.std.specs.Float.Ieee.Scale.{finite}
use Rattle.std.specs.Float.Ieee.Positive.{num, den, positive, first_pos, cross→le}
use Rattle.numerics.specs.Double.{+0}
use Rattle.numerics.specs.Order.{not_greater}
use Rattle.numerics.specs.Sign.{of_positive}
use Rattle.numerics.specs.Tests.{clash, or_left}

sum_pos : (a b : ℕ) → 0 < b → T (ltb 0 (a + b))
sum_pos a b h = lt→ltb 0 (a + b) (omega arith)

-- ---- not below a double above zero
pub at_least : (c x : Float) → T (positive c) → finite x ≡ true → lt x c ≡ false → T (positive x) × (num c * den x ≤ num x * den c)
unfolding lt
at_least nan x p f l = absurd p
at_least (inf s) x p f l = absurd p
at_least (fin true n d) x p f l = absurd p
at_least (fin false n d) nan p f l = absurd (false≢true f)
at_least (fin false n d) (inf s) p f l = absurd (false≢true f)
at_least (fin false n d) (fin true m e) p f l = clash (sum_pos (m * up e * down d) (n * up d * down e) (mul-pos (mul-pos (ltb→lt 0 n p) (up_pos d)) (down_pos e))) l
at_least (fin false n d) (fin false m e) p f l =
    let h : n * up d * down e ≤ m * up e * down d = nltb→le (m * up e * down d) (n * up d * down e) (subst (λ (z : Bool). T (not z)) (sym l) tt) in
    (lt→ltb 0 m (first_pos m (up e) (first_pos (m * up e) (down d) (lt_of_lt_of_le (mul-pos (mul-pos (ltb→lt 0 n p) (up_pos d)) (down_pos e)) h))), h)

-- ---- above a double above zero
pub above_it : (x y : Float) → T (positive x) → finite y ≡ true → le y x ≡ false → T (positive y) × (num x * den y < num y * den x)
unfolding le lt
above_it nan y p f l = absurd p
above_it (inf s) y p f l = absurd p
above_it (fin true m e) y p f l = absurd p
above_it (fin false m e) nan p f l = absurd (false≢true f)
above_it (fin false m e) (inf s) p f l = absurd (false≢true f)
above_it (fin false m e) (fin true n d) p f l =
    clash (or_left (lt (fin true n d) (fin false m e)) (eq (fin true n d) (fin false m e)) (sum_pos (n * up d * down e) (m * up e * down d) (mul-pos (mul-pos (ltb→lt 0 m p) (up_pos e)) (down_pos d)))) l
above_it (fin false m e) (fin false zero d) p f l =
    clash (or_left (lt (fin false zero d) (fin false m e)) (eq (fin false zero d) (fin false m e)) (lt→ltb (0 * up d * down e) (m * up e * down d) (lt_of_lt_of_le (omega arith) (mul-pos (mul-pos (ltb→lt 0 m p) (up_pos e)) (down_pos d))))) l
above_it (fin false m e) (fin false (suc n) d) p f l =
    let q : T (positive (fin false (suc n) d)) = lt→ltb 0 (suc n) (zero-lt-suc n) in
    (q, lt_of_not-le (λ h. clash (cross→le (fin false (suc n) d) (fin false m e) q p h) l))

-- ---- above zero
pub zero_is : +0 ≡ fin false 0 (pos 0)
unfolding of_bits
zero_is = refl

-- two zeros are level, and a negative number is below zero
zeros_level : (s : Bool) (a b : ℕ) → a ≡ 0 → b ≡ 0 → T (below s a false b || level s a false b)
zeros_level s a b p q = subst (λ (x : ℕ). T (below s x false b || level s x false b)) (sym p) (subst (λ (y : ℕ). T (below s 0 false y || level s 0 false y)) (sym q) (go s))
  where
    go : (s : Bool) → T (below s 0 false 0 || level s 0 false 0)
    go true = tt
    go false = tt

above_fin : (t : Float) → finite t ≡ true → le t (fin false 0 (pos 0)) ≡ false → T (positive t)
unfolding le lt eq
above_fin nan f l = absurd (false≢true f)
above_fin (inf s) f l = absurd (false≢true f)
above_fin (fin true zero e) f l = clash (zeros_level true (0 * up e * 1) (0 * 1 * down e) (omega arith) (omega arith)) l
above_fin (fin true (suc m) e) f l = clash (or_left (ltb 0 (suc m * up e * 1 + 0 * 1 * down e)) (level true (suc m * up e * 1) false (0 * 1 * down e)) (lt→ltb 0 (suc m * up e * 1 + 0 * 1 * down e) (more (suc m * up e) (down e) (mul-pos (zero-lt-suc m) (up_pos e))))) l
  where
    more : (a d : ℕ) → 0 < a → 0 < a * 1 + 0 * 1 * d
    more a d h = omega arith
above_fin (fin false zero e) f l = clash (zeros_level false (0 * up e * 1) (0 * 1 * down e) (omega arith) (omega arith)) l
above_fin (fin false (suc m) e) f l = lt→ltb 0 (suc m) (zero-lt-suc m)

pub above_zero : (t : Float) → finite t ≡ true → le t +0 ≡ false → T (positive t)
above_zero t f l = above_fin t f (subst (λ (z : Float). le t z ≡ false) zero_is l)

-- and one above zero is not at most zero
pub not_at_most_zero : (t : Float) → T (positive t) → le t +0 ≡ false
unfolding le lt eq
not_at_most_zero t p = subst (λ (z : Float). le t z ≡ false) (sym zero_is) (of_positive (λ (x : Float). le x (fin false 0 (pos 0)) ≡ false) each t p)
  where
    each : (m : ℕ) (e : ℤ) → 0 < m → le (fin false m e) (fin false 0 (pos 0)) ≡ false
    each m e h =
        let g : 0 < m * up e = mul-pos h (up_pos e) in
        rw (le-ltb (m * up e * 1) (0 * 1 * down e) (omega arith), ne_eqb (m * up e * 1) (0 * 1 * down e) (λ q. omega arith))

-- ---- above zero and at most a double above zero
at_most_finite : (x high : Float) → T (positive high) → T (lt +0 x) → T (le x high) → finite x ≡ true
unfolding lt le of_bits
at_most_finite nan high p a h = absurd a
at_most_finite (inf true) high p a h = absurd a
at_most_finite (inf false) nan p a h = absurd p
at_most_finite (inf false) (inf t) p a h = absurd p
at_most_finite (inf false) (fin t n d) p a h = absurd h
at_most_finite (fin s m e) high p a h = refl

pub positive_below : (x high : Float) → T (positive high) → T (lt +0 x) → T (le x high) → T (positive x)
positive_below x high p a h = above_zero x (at_most_finite x high p a h) (go (le x +0) refl)
  where
    go : (b : Bool) → le x +0 ≡ b → b ≡ false
    go true e = clash a (not_greater x +0 e)
    go false e = refl

-- ---- a number that is neither below zero nor above it is at most any double above zero
level_fin : (t f : Float) → T (positive t) → is_nan f ≡ false → lt (fin false 0 (pos 0)) f ≡ false → lt f (fin false 0 (pos 0)) ≡ false → le f t ≡ false → ⊥
unfolding le lt is_nan
level_fin nan f p n u d w = absurd p
level_fin (inf s) f p n u d w = absurd p
level_fin (fin true k g) f p n u d w = absurd p
level_fin (fin false k g) nan p n u d w = true≢false n
level_fin (fin false k g) (inf true) p n u d w = true≢false d
level_fin (fin false k g) (inf false) p n u d w = true≢false u
level_fin (fin false k g) (fin true m e) p n u d w =
    clash (or_left (ltb 0 (m * up e * down g + k * up g * down e)) (eq (fin true m e) (fin false k g)) (sum_pos (m * up e * down g) (k * up g * down e) (mul-pos (mul-pos (ltb→lt 0 k p) (up_pos g)) (down_pos e)))) w
level_fin (fin false k g) (fin false zero e) p n u d w =
    clash (or_left (ltb (0 * up e * down g) (k * up g * down e)) (eq (fin false zero e) (fin false k g)) (lt→ltb (0 * up e * down g) (k * up g * down e) (lt_of_lt_of_le (omega arith) (mul-pos (mul-pos (ltb→lt 0 k p) (up_pos g)) (down_pos e))))) w
level_fin (fin false k g) (fin false (suc m) e) p n u d w =
    clash (lt→ltb (0 * 1 * down e) (suc m * up e * 1) (lt_of_lt_of_le (omega arith) (mul-pos (mul-pos (zero-lt-suc m) (up_pos e)) (lit≤ tt)))) u

pub level_with_zero : (t f : Float) → T (positive t) → is_nan f ≡ false → lt +0 f ≡ false → lt f +0 ≡ false → le f t ≡ false → ⊥
level_with_zero t f p n u d w = level_fin t f p n (subst (λ (z : Float). lt z f ≡ false) zero_is u) (subst (λ (z : Float). lt f z ≡ false) zero_is d) w
