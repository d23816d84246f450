-- Doubles above zero as whole numbers of 2 ^ -1074, and the gap between two of them: a double above x is above it by at least one part in 2 ^ 53 of x. Assumes nothing.
use Rattle.std.specs.Prelude.{◌≡◌, refl, ℕ, zero, suc, ◌+◌, ◌-◌, ◌*◌, ◌/◌, ◌^◌, ◌≤◌, ◌<◌, Bool, true, false, not, pos, negsuc, T, ltb, leb, Float}
use Rattle.std.proofs.Common.{sym, ap, ◌∙◌, subst, le_of_lt, le_of_eq, le_antisymm, lt_of_not-le, not-le_of_lt, lt_trans, mul-one, mul_assoc, mul-le-mul_right, lt_of_mul-lt-mul_right, add-sub_of_le, sub-add_cancel, mul-div_cancel, arith, ltb→lt, leb→le, lt→ltb, pow-add, pow_pos}
use Rattle.std.proofs.Math.Dec.{nleb→lt}
use Rattle.std.specs.Float.{nan, inf, fin, binary64}
use Rattle.std.specs.Float.Ieee.{down, size, fits, to_bits, of_bits, lt, le}
use Rattle.std.specs.Float.Ieee.Bits.{of_bits-to_bits}
use Rattle.std.specs.Float.Ieee.Positive.{num, den, positive, den_pos, le→cross, cross→le}
use Rattle.numerics.specs.Frac.{big}
use Rattle.numerics.specs.Round.{val}
use Rattle.numerics.specs.Sign.{of_positive}
use Rattle.numerics.specs.Held.{held}
pub use Rattle.numerics.specs.Held.{pow_back}
use Rattle.numerics.specs.Common.{On, on_le, le_on}

-- how many of the smallest double make one
unfoldable pub unit : ℕ
unit = 2 ^ 1074

pub unit_pos : 0 < unit
unfolding unit
unit_pos = pow_pos 1074

-- a finite double's size as a whole number of the smallest
unfoldable pub count : Float → ℕ
count nan = 0
count (inf s) = 0
count (fin s m (pos k)) = m * 2 ^ (k + 1074)
count (fin s m (negsuc k)) = m * 2 ^ (1074 - suc k)

-- a double above zero: at most 53 digits, shifted
pub record Digits (x : Float) : Type 0 where
  pub digits : ℕ
  pub shift : ℕ
  pub small : digits < 2 ^ 53
  pub is : count x ≡ digits * 2 ^ shift

pub digits_of : (x : Float) → T (positive x) → T (fits binary64 x) → Digits x
unfolding count
digits_of nan p t = absurd p
digits_of (inf s) p t = absurd p
digits_of (fin true m e) p t = absurd p
digits_of (fin false zero e) p t = absurd p
digits_of (fin false (suc m) (pos k)) p t = record { digits = suc m; shift = k + 1074; small = (held binary64 false m (pos k) t).0; is = refl }
digits_of (fin false (suc m) (negsuc k)) p t = record { digits = suc m; shift = 1074 - suc k; small = (held binary64 false m (negsuc k) t).0; is = refl }

-- the value is the count over the unit
pub counted : (x : Float) → T (positive x) → T (fits binary64 x) → On unit (val x) (count x)
unfolding count unit
counted nan p t = absurd p
counted (inf s) p t = absurd p
counted (fin true m e) p t = absurd p
counted (fin false zero e) p t = absurd p
counted (fin false (suc m) (pos k)) p t = mul_assoc (suc m) (2 ^ k) (2 ^ 1074) ∙ ap (λ (z : ℕ). suc m * z) (sym (pow-add 2 k 1074)) ∙ sym (mul-one (suc m * 2 ^ (k + 1074)))
counted (fin false (suc m) (negsuc k)) p t =
    ap (λ (z : ℕ). z * 2 ^ 1074) (mul-one (suc m))
    ∙ ap (λ (z : ℕ). suc m * z) (ap (λ (z : ℕ). 2 ^ z) (sym (sub-add_cancel (pow_back (suc k) 1074 (held binary64 false m (negsuc k) t).1))) ∙ pow-add 2 (1074 - suc k) (suc k))
    ∙ sym (mul_assoc (suc m) (2 ^ (1074 - suc k)) (2 ^ suc k))

-- ---- the gap
-- two multiples of P, the smaller of fewer than B: they are P apart, which is one part in B of the smaller at least
multiples : (a b P B : ℕ) → 0 < P → a < B → a * P < b * P → a * P * suc B ≤ b * P * B
multiples a b P B Z h l =
    let k : a < b = lt_of_mul-lt-mul_right P l in
    omega (arith, mul-le-mul_right (P * B) k, mul-le-mul_right P h)

pub shifted : (r j d k : ℕ) → j + d ≡ k → r * 2 ^ k ≡ r * 2 ^ d * 2 ^ j
shifted r j d k e = ap (λ (z : ℕ). r * 2 ^ z) (sym e) ∙ ap (λ (z : ℕ). r * z) (pow-add 2 j d) ∙ regroup r (2 ^ j) (2 ^ d)
  where
    regroup : (a b c : ℕ) → a * (b * c) ≡ a * c * b
    regroup a b c = omega arith

-- by which of the two is shifted less
gap_of : (q j r k : ℕ) → q < 2 ^ 53 → r < 2 ^ 53 → q * 2 ^ j < r * 2 ^ k → q * 2 ^ j * suc (2 ^ 53) ≤ r * 2 ^ k * 2 ^ 53
gap_of q j r k Q R h = go (leb j k) (leb→le j k) (nleb→lt j k)
  where
    lower : (d : ℕ) → j + d ≡ k → q * 2 ^ j * suc (2 ^ 53) ≤ r * 2 ^ k * 2 ^ 53
    lower d e =
        let w : r * 2 ^ k ≡ r * 2 ^ d * 2 ^ j = shifted r j d k e in
        subst (λ (z : ℕ). q * 2 ^ j * suc (2 ^ 53) ≤ z * 2 ^ 53) (sym w) (multiples q (r * 2 ^ d) (2 ^ j) (2 ^ 53) (pow_pos j) Q (subst (λ (z : ℕ). q * 2 ^ j < z) w h))

    upper : (d : ℕ) → k + d ≡ j → q * 2 ^ j * suc (2 ^ 53) ≤ r * 2 ^ k * 2 ^ 53
    upper d e =
        let w : q * 2 ^ j ≡ q * 2 ^ d * 2 ^ k = shifted q k d j e in
        let l : q * 2 ^ d * 2 ^ k < r * 2 ^ k = subst (λ (z : ℕ). z < r * 2 ^ k) w h in
        subst (λ (z : ℕ). z * suc (2 ^ 53) ≤ r * 2 ^ k * 2 ^ 53) (sym w)
        (multiples (q * 2 ^ d) r (2 ^ k) (2 ^ 53) (pow_pos k) (lt_trans (lt_of_mul-lt-mul_right (2 ^ k) l) R) l)

    go : (b : Bool) → (T b → j ≤ k) → (T (not b) → k < j) → q * 2 ^ j * suc (2 ^ 53) ≤ r * 2 ^ k * 2 ^ 53
    go true g l = lower (k - j) (add-sub_of_le (g tt))
    go false g l = upper (j - k) (add-sub_of_le (le_of_lt (l tt)))

pub gap : (x y : Float) → T (positive x) → T (fits binary64 x) → T (positive y) → T (fits binary64 y) → count x < count y → count x * suc big ≤ count y * big
unfolding big
gap x y p s q t h =
    let a = digits_of x p s in
    let b = digits_of y q t in
    let l : a.digits * 2 ^ a.shift < b.digits * 2 ^ b.shift = subst (λ (z : ℕ). z < b.digits * 2 ^ b.shift) a.is (subst (λ (z : ℕ). count x < z) b.is h) in
    subst (λ (z : ℕ). z * suc (2 ^ 53) ≤ count y * 2 ^ 53) (sym a.is)
    (subst (λ (z : ℕ). a.digits * 2 ^ a.shift * suc (2 ^ 53) ≤ z * 2 ^ 53) (sym b.is) (gap_of a.digits a.shift b.digits b.shift a.small b.small l))

-- ---- the order of doubles above zero is that of their counts
less_is : (x y : Float) → T (positive x) → T (positive y) → lt x y ≡ ltb (num x * den y) (num y * den x)
unfolding lt
less_is x y p q =
    of_positive (λ (a : Float). lt a y ≡ ltb (num a * den y) (num y * den a))
    (λ m e M. of_positive (λ (b : Float). lt (fin false m e) b ≡ ltb (num (fin false m e) * den b) (num b * den (fin false m e))) (λ n d N. refl) y q) x p

pub lt→cross : (x y : Float) → T (positive x) → T (positive y) → T (lt x y) → num x * den y < num y * den x
lt→cross x y p q h = ltb→lt (num x * den y) (num y * den x) (subst T (less_is x y p q) h)

pub cross→lt : (x y : Float) → T (positive x) → T (positive y) → num x * den y < num y * den x → T (lt x y)
cross→lt x y p q h = subst T (sym (less_is x y p q)) (lt→ltb (num x * den y) (num y * den x) h)

-- a double above zero, as every f64 that is one
pub record Good (x : Float) : Type 0 where
  pub above : T (positive x)
  pub held : T (fits binary64 x)

pub cross→count : (x y : Float) → Good x → Good y → num x * den y < num y * den x → count x < count y
cross→count x y g k h =
    lt_of_not-le (λ c. not-le_of_lt h (le_on unit (val y) (val x) (count y) (count x) unit_pos (counted y k.above k.held) (counted x g.above g.held) c))

pub count→cross : (x y : Float) → Good x → Good y → count x < count y → num x * den y < num y * den x
count→cross x y g k h =
    lt_of_not-le (λ c. not-le_of_lt h (on_le unit (val y) (val x) (count y) (count x) (counted y k.above k.held) (counted x g.above g.held) c))

pub lt→count : (x y : Float) → Good x → Good y → T (lt x y) → count x < count y
lt→count x y g k h = cross→count x y g k (lt→cross x y g.above k.above h)

pub count→lt : (x y : Float) → Good x → Good y → count x < count y → T (lt x y)
count→lt x y g k h = cross→lt x y g.above k.above (count→cross x y g k h)

pub le→count : (x y : Float) → Good x → Good y → T (le x y) → count x ≤ count y
le→count x y g k h = on_le unit (val x) (val y) (count x) (count y) (counted x g.above g.held) (counted y k.above k.held) (le→cross x y g.above k.above h)

pub count→le : (x y : Float) → Good x → Good y → count x ≤ count y → T (le x y)
count→le x y g k h = cross→le x y g.above k.above (le_on unit (val x) (val y) (count x) (count y) unit_pos (counted x g.above g.held) (counted y k.above k.held) h)

-- ---- doubles of one count are one double
pattern : ℕ → ℕ
pattern n = 0 + (size n - 53) * 2 ^ 52 + n / 2 ^ (size n - 53)

pattern_of : (x : Float) → Good x → to_bits binary64 x ≡ pattern (count x)
unfolding to_bits pattern unit
pattern_of nan g = absurd g.above
pattern_of (inf s) g = absurd g.above
pattern_of (fin true m e) g = absurd g.above
pattern_of (fin false m e) g = ap pattern (ap (λ (z : ℕ). z / down e) (counted (fin false m e) g.above g.held) ∙ mul-div_cancel (count (fin false m e)) (den_pos (fin false m e)))

pub same : (x y : Float) → Good x → Good y → count x ≡ count y → x ≡ y
same x y g h e =
    sym (of_bits-to_bits binary64 x g.held) ∙ ap (of_bits binary64) (pattern_of x g ∙ ap pattern e ∙ sym (pattern_of y h)) ∙ of_bits-to_bits binary64 y h.held

-- and so are those of one value
pub same_value : (x y : Float) → Good x → Good y → num x * den y ≡ num y * den x → x ≡ y
same_value x y g h e = same x y g h (le_antisymm (le→count x y g h (cross→le x y g.above h.above (le_of_eq e))) (le→count y x h g (cross→le y x h.above g.above (le_of_eq (sym e)))))
