-- The order of doubles as tests see it: where x < y fails and neither is a NaN, y ≤ x. Assumes nothing.
use Rattle.std.specs.Prelude.{◌≡◌, refl, ◌⊎◌, Bool, true, false, not, ◌&&◌, ◌||◌, ℕ, zero, suc, ◌+◌, ◌*◌, ◌≤◌, ◌<◌, T, ltb, eqb, Float}
use Rattle.std.proofs.Common.{sym, subst, ◌∙◌, inl, inr, eq-or-lt_of_le, le_of_eq, le_of_lt, mul-pos, zero-mul, arith, lt-ltb, le-ltb, eq-eqb, nltb→le, ltb→lt, lt→ltb, eqb→eq}
use Rattle.std.specs.Bool.{beq}
use Rattle.std.specs.Float.{nan, inf, fin}
use Rattle.std.specs.Float.Ieee.{lt, le, eq, neg, below, level, up, down, is_nan, of_bits}
use Rattle.std.specs.Float.Ieee.Fits.{up_pos}
use Rattle.std.specs.Float.Ieee.Positive.{positive}
use Rattle.numerics.specs.Double.{+0, bits}

true_false : {A : Type 0} → true ≡ false → A
true_false e = absurd (subst T e tt)

untrue : (b : Bool) → b ≡ false → T (not b)
untrue true e = true_false e
untrue false e = tt

-- of whole numbers: not a < b, so b < a or b = a
reverse : (a b : ℕ) (c : Bool) → ltb a b ≡ false → (ltb b a || (eqb b a && (true || c))) ≡ true
reverse a b c e = go (eq-or-lt_of_le (nltb→le a b (untrue (ltb a b) e)))
  where
    go : (b ≡ a) ⊎ (b < a) → (ltb b a || (eqb b a && (true || c))) ≡ true
    go (inl h) = rw (le-ltb b a (le_of_eq (sym h)), eq-eqb b a h)
    go (inr h) = rw (lt-ltb b a h)

-- both zero, or their sum is above zero
signs : (a b : ℕ) → (ltb 0 (a + b) || (eqb a b && (false || eqb a 0))) ≡ true
signs zero zero = refl
signs zero (suc b) = rw (lt-ltb 0 (zero + suc b) (omega arith))
signs (suc a) b = rw (lt-ltb 0 (suc a + b) (omega arith))

no_sum : (a b : ℕ) → ltb 0 (a + b) ≡ false → (eqb b a && (false || eqb b 0)) ≡ true
no_sum zero zero e = refl
no_sum zero (suc b) e = true_false (sym (lt-ltb 0 (zero + suc b) (omega arith)) ∙ e)
no_sum (suc a) b e = true_false (sym (lt-ltb 0 (suc a + b) (omega arith)) ∙ e)

reverse_signed : (s t : Bool) (a b : ℕ) → below s a t b ≡ false → (below t b s a || level t b s a) ≡ true
reverse_signed false false a b e = reverse a b (eqb b 0) e
reverse_signed false true a b e = signs b a
reverse_signed true false a b e = no_sum a b e
reverse_signed true true a b e = reverse' (eq-or-lt_of_le (nltb→le b a (untrue (ltb b a) e)))
  where
    reverse' : (a ≡ b) ⊎ (a < b) → (ltb a b || (eqb b a && (true || eqb b 0))) ≡ true
    reverse' (inl h) = rw (le-ltb a b (le_of_eq (sym h)), eq-eqb b a (sym h))
    reverse' (inr h) = rw (lt-ltb a b h)

pub not_less : (x y : Float) → is_nan x ≡ false → is_nan y ≡ false → lt x y ≡ false → le y x ≡ true
unfolding lt le eq is_nan
not_less nan y p q e = true_false p
not_less (inf s) nan p q e = true_false q
not_less (fin s m d) nan p q e = true_false q
not_less (inf true) (inf true) p q e = refl
not_less (inf true) (inf false) p q e = true_false e
not_less (inf false) (inf true) p q e = refl
not_less (inf false) (inf false) p q e = refl
not_less (inf true) (fin t n c) p q e = true_false e
not_less (inf false) (fin t n c) p q e = refl
not_less (fin s m d) (inf true) p q e = refl
not_less (fin s m d) (inf false) p q e = true_false e
not_less (fin s m d) (fin t n c) p q e = reverse_signed s t (m * up d * down c) (n * up c * down d) e

-- of two doubles in order neither is a NaN
pub less_numbers : (x y : Float) → lt x y ≡ true → (is_nan x ≡ false) × (is_nan y ≡ false)
unfolding lt is_nan
less_numbers nan y e = true_false (sym e)
less_numbers (inf s) nan e = true_false (sym e)
less_numbers (fin s m d) nan e = true_false (sym e)
less_numbers (inf s) (inf t) e = (refl, refl)
less_numbers (inf s) (fin t n c) e = (refl, refl)
less_numbers (fin s m d) (inf t) e = (refl, refl)
less_numbers (fin s m d) (fin t n c) e = (refl, refl)

-- what is below -a is not above a
pub below_minus : (a x : Float) → T (positive a) → lt x (neg a) ≡ true → lt a x ≡ false
unfolding lt neg
below_minus nan x p e = absurd p
below_minus (inf s) x p e = absurd p
below_minus (fin true n c) x p e = absurd p
below_minus (fin false n c) nan p e = true_false (sym e)
below_minus (fin false n c) (inf true) p e = refl
below_minus (fin false n c) (inf false) p e = true_false (sym e)
below_minus (fin false n c) (fin true m d) p e = refl
below_minus (fin false n c) (fin false m d) p e = true_false (sym e)

-- a double above zero is no NaN
pub above_number : (x : Float) → lt +0 x ≡ true → T (not (is_nan x))
unfolding lt of_bits is_nan
above_number nan e = true_false (sym e)
above_number (inf s) e = tt
above_number (fin s m d) e = tt

-- what `positive` says, as a test
pub positive_above : (x : Float) → T (positive x) → lt +0 x ≡ true
unfolding lt of_bits
positive_above nan p = absurd p
positive_above (inf s) p = absurd p
positive_above (fin true m d) p = absurd p
positive_above (fin false m d) p =
    let h : 0 < m * up d = mul-pos (ltb→lt 0 m p) (up_pos d) in
    let z : 0 * down d ≡ 0 = zero-mul (down d) in
    lt-ltb (0 * down d) (m * up d * 1) (omega arith)

pub above_not_negative : (x : Float) → lt +0 x ≡ true → le +0 x ≡ true
unfolding le
above_not_negative x e = rw e

-- ---- where x ≤ y holds, y < x fails
forward : (a b : ℕ) (c : Bool) → (ltb a b || (eqb a b && c)) ≡ true → ltb b a ≡ false
forward a b c e = go (ltb a b) (eqb a b) (ltb→lt a b) (eqb→eq a b) e
  where
    go : (p q : Bool) → (T p → a < b) → (T q → a ≡ b) → (p || (q && c)) ≡ true → ltb b a ≡ false
    go true q h k e = le-ltb b a (le_of_lt (h tt))
    go false true h k e = le-ltb b a (le_of_eq (k tt))
    go false false h k e = true_false (sym e)

both_zero : (a b : ℕ) → (eqb a b && (false || eqb a 0)) ≡ true → ltb 0 (b + a) ≡ false
both_zero a b e = go (eqb a b) (eqb a 0) (eqb→eq a b) (eqb→eq a 0) e
  where
    go : (p q : Bool) → (T p → a ≡ b) → (T q → a ≡ 0) → (p && (false || q)) ≡ true → ltb 0 (b + a) ≡ false
    go true true h k e = let i = h tt in let j = k tt in le-ltb 0 (b + a) (omega arith)
    go true false h k e = true_false (sym e)
    go false q h k e = true_false (sym e)

backward : (a b : ℕ) (c : Bool) → (ltb b a || (eqb a b && c)) ≡ true → ltb a b ≡ false
backward a b c e = go (ltb b a) (eqb a b) (ltb→lt b a) (eqb→eq a b) e
  where
    go : (p q : Bool) → (T p → b < a) → (T q → a ≡ b) → (p || (q && c)) ≡ true → ltb a b ≡ false
    go true q h k e = le-ltb a b (le_of_lt (h tt))
    go false true h k e = le-ltb a b (le_of_eq (sym (k tt)))
    go false false h k e = true_false (sym e)

forward_signed : (s t : Bool) (a b : ℕ) → (below s a t b || level s a t b) ≡ true → below t b s a ≡ false
forward_signed false false a b e = forward a b _ e
forward_signed false true a b e = both_zero a b e
forward_signed true false a b e = refl
forward_signed true true a b e = backward a b _ e

pub not_greater : (x y : Float) → le x y ≡ true → lt y x ≡ false
unfolding lt le eq
not_greater nan y e = true_false (sym e)
not_greater (inf s) nan e = refl
not_greater (fin s m d) nan e = refl
not_greater (inf true) (inf true) e = refl
not_greater (inf true) (inf false) e = refl
not_greater (inf false) (inf true) e = true_false (sym e)
not_greater (inf false) (inf false) e = refl
not_greater (inf true) (fin t n c) e = refl
not_greater (inf false) (fin t n c) e = true_false (sym e)
not_greater (fin s m d) (inf true) e = true_false (sym e)
not_greater (fin s m d) (inf false) e = refl
not_greater (fin s m d) (fin t n c) e = forward_signed s t (m * up d * down c) (n * up c * down d) e

-- ---- equality either way round
level_back : (s t : Bool) (a b : ℕ) → level s a t b ≡ true → level t b s a ≡ true
level_back s t a b e = go (eqb a b) (eqb→eq a b) s t e
  where
    go : (p : Bool) → (T p → a ≡ b) → (s t : Bool) → (p && (beq s t || eqb a 0)) ≡ true → level t b s a ≡ true
    go false h s t e = true_false (sym e)
    go true h true true e = rw (eq-eqb b a (sym (h tt)))
    go true h false false e = rw (eq-eqb b a (sym (h tt)))
    go true h true false e = rw (eq-eqb b a (sym (h tt)), ← h tt) e
    go true h false true e = rw (eq-eqb b a (sym (h tt)), ← h tt) e

pub eq_back : (x y : Float) → eq x y ≡ true → eq y x ≡ true
unfolding eq
eq_back nan y e = true_false (sym e)
eq_back (inf s) nan e = true_false (sym e)
eq_back (fin s m d) nan e = true_false (sym e)
eq_back (inf true) (inf true) e = refl
eq_back (inf true) (inf false) e = true_false (sym e)
eq_back (inf false) (inf true) e = true_false (sym e)
eq_back (inf false) (inf false) e = refl
eq_back (inf s) (fin t n c) e = true_false (sym e)
eq_back (fin s m d) (inf t) e = true_false (sym e)
eq_back (fin s m d) (fin t n c) e = level_back s t (m * up d * down c) (n * up c * down d) e

-- ---- above zero and at most the greatest double: `positive`
pub positive_of_tests : (x : Float) → (lt +0 x && le x (bits 0x7fef_ffff_ffff_ffff)) ≡ true → T (positive x)
unfolding lt le eq of_bits
positive_of_tests nan e = true_false (sym e)
positive_of_tests (inf true) e = true_false (sym e)
positive_of_tests (inf false) e = true_false (sym e)
positive_of_tests (fin true m d) e = true_false (sym e)
positive_of_tests (fin false zero d) e = let z : 0 * up d * 1 ≤ 0 * down d = rw (zero-mul (up d), zero-mul (down d)) (omega arith) in true_false (sym (rw (le-ltb (0 * down d) (0 * up d * 1) z) at e))
positive_of_tests (fin false (suc m) d) e = lt→ltb 0 (suc m) (omega arith)
