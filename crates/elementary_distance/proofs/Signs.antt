-- Signs and finite answers of exp, ln, sqrt and powf: what rests on their distances from the exact values. Assumes nothing.
use mathlib.Core.Path.{◌≡◌, refl, sym, ap, subst, ◌∙◌}
use mathlib.Core.Logic.{◌⊎◌, inl, inr}
use mathlib.Core.Bool.{Bool, true, false, ◌&&◌, ◌||◌}
use Prim.Native.Nat.{◌*◌}
use lib.Dec.{T}
use lib.Ieee.{Float, nan, inf, fin, binary64, lt, le, eq, neg, mul, of_bits, is_nan, fits, unlike, up, down}
use lib.Ieee.Bits.{is_true}
use lib.Ieee.Positive.{positive, positive-finite}
use lib.Ieee.Scale.{finite}
use Rattle.numerics.specs.Double.{+0, one, pick, greatest, positive_finite}
use Rattle.numerics.specs.Finite.{round_number}
use Rattle.numerics.specs.Nan.{itself, nan_is, is_nan_lem, holds, or_false}
use Rattle.numerics.specs.Order.{not_less, not_greater, eq_back, positive_above, above_not_negative, positive_of_tests}
use Rattle.elementary_exp.specs.Exp.{exp_of, most}
use Rattle.elementary.specs.Power.{powf_of, powf_from}
use Rattle.elementary_ln.specs.Ln.{ln_of}
use Rattle.elementary_sqrt.specs.Sqrt.{sqrt_of}
use Rattle.elementary_exp.proofs.ExpLaws.{exp_nan}
use Rattle.elementary_distance.proofs.ExpDistance.{exp_distance}
use Rattle.elementary_distance.proofs.LnDistance.{ln_distance}
use Rattle.elementary_distance.proofs.SqrtNearest.{sqrt_nearest}

-- ---- exp
-- from −700 to 700 its answer is finite and above zero
pub exp_positive : (x : Float) → T (le (neg most) x) → T (le x most) → T (positive (exp_of x))
exp_positive x a b = (exp_distance x a b).pos

most_number : is_nan most ≡ false
unfolding is_nan of_bits
most_number = refl

greatest_number : is_nan greatest ≡ false
unfolding is_nan of_bits
greatest_number = refl

least_number : is_nan (neg most) ≡ false
unfolding is_nan neg of_bits
least_number = refl

-- its answer is +infinity, +0, or finite and above zero
pub exp_shape : (x : Float) → is_nan x ≡ false → (exp_of x ≡ inf false) ⊎ ((exp_of x ≡ +0) ⊎ T (positive (exp_of x)))
unfolding exp_of
exp_shape x n = go (lt most x) refl (lt x (neg most)) refl
  where
    go : (a : Bool) → lt most x ≡ a → (b : Bool) → lt x (neg most) ≡ b → (exp_of x ≡ inf false) ⊎ ((exp_of x ≡ +0) ⊎ T (positive (exp_of x)))
    go true e b f = inl (rw (itself x n, e))
    go false e true f = inr (inl (rw (itself x n, e, f)))
    go false e false f = inr (inr (exp_positive x (holds _ (not_less x (neg most) n least_number f)) (holds _ (not_less most x most_number n e))))

zero_not_negative : le +0 +0 ≡ true
unfolding le lt eq of_bits
zero_not_negative = refl

infinity_not_negative : le +0 (inf false) ≡ true
unfolding le lt of_bits
infinity_not_negative = refl

pub exp_not_negative : (x : Float) → is_nan x ≡ false → le +0 (exp_of x) ≡ true
exp_not_negative x n =
    elim (exp_shape x n) [
      | inl e ↦ rw e infinity_not_negative
      | inr r ↦ elim r [ inl e ↦ rw e zero_not_negative | inr p ↦ above_not_negative (exp_of x) (positive_above (exp_of x) p) ]
    ]

not_negative_number : (x : Float) → le +0 x ≡ true → is_nan x ≡ false
unfolding le lt eq is_nan of_bits
not_negative_number nan e = absurd (subst T (sym e) tt)
not_negative_number (inf s) e = refl
not_negative_number (fin s m d) e = refl

zero_finite : T (finite +0)
unfolding of_bits
zero_finite = tt

at_most_number : (x y : Float) → T (le x y) → is_nan x ≡ false
unfolding le lt eq is_nan
at_most_number nan y t = absurd t
at_most_number (inf s) y t = refl
at_most_number (fin s m d) y t = refl

-- it is no NaN unless its argument is
pub exp_number : (x : Float) → is_nan x ≡ false → is_nan (exp_of x) ≡ false
exp_number x n = not_negative_number (exp_of x) (exp_not_negative x n)

-- it is finite up to 700
pub exp_finite : (x : Float) → T (le x most) → T (finite (exp_of x))
unfolding exp_of
exp_finite x a = go (lt x (neg most)) refl
  where
    go : (b : Bool) → lt x (neg most) ≡ b → T (finite (exp_of x))
    go true f = rw (itself x (at_most_number x most a), not_greater x most (is_true (le x most) a), f) zero_finite
    go false f = positive-finite (exp_of x) (exp_positive x (holds _ (not_less x (neg most) (at_most_number x most a) least_number f)) a)

-- ---- ln
-- the logarithm of a positive finite double is finite
pub ln_finite : (x : Float) → T (fits binary64 x) → positive_finite x ≡ true → T (finite (ln_of x))
ln_finite x f e = (ln_distance x f (positive_of_tests x e)).number

-- ---- sqrt
-- the root of a positive finite double is positive and finite
pub sqrt_positive : (x : Float) → T (fits binary64 x) → positive_finite x ≡ true → T (positive (sqrt_of x))
sqrt_positive x f e = (sqrt_nearest x f e).pos

-- a double that is not negative is positive and finite, zero or +infinity
neither : (x : Float) → le +0 x ≡ true → positive_finite x ≡ false → (eq x +0 || lt greatest x) ≡ false → ⊥
unfolding le
neither x e p q =
    let n = not_negative_number x e in
    let top : le x greatest ≡ true = not_less greatest x greatest_number n (or_false (eq x +0) (lt greatest x) q).1 in
    let zero : eq +0 x ≡ true = rest (lt +0 x) (eq +0 x) (le x greatest) e top p in
    subst T (sym (eq_back +0 x zero) ∙ (or_false (eq x +0) (lt greatest x) q).0) tt
  where
    rest : (a b c : Bool) → (a || b) ≡ true → c ≡ true → (a && c) ≡ false → b ≡ true
    rest false b c e h k = e
    rest true b true e h k = absurd (subst T k tt)
    rest true b false e h k = absurd (subst T (sym h) tt)

-- the root of a double that is not negative is not negative; that of −0 is −0, which is not below 0
pub sqrt_not_negative : (x : Float) → T (fits binary64 x) → le +0 x ≡ true → le +0 (sqrt_of x) ≡ true
unfolding sqrt_of
sqrt_not_negative x f e = go (positive_finite x) refl (eq x +0 || lt greatest x) refl
  where
    go : (a : Bool) → positive_finite x ≡ a → (b : Bool) → (eq x +0 || lt greatest x) ≡ b → le +0 (sqrt_of x) ≡ true
    go true p b q = above_not_negative (sqrt_of x) (positive_above (sqrt_of x) (sqrt_positive x f p))
    go false p true q = rw (p, q) e
    go false p false q = absurd (neither x e p q)

-- ---- powf
one_number : is_nan one ≡ false
unfolding is_nan of_bits
one_number = refl

one_not_negative : le +0 one ≡ true
unfolding le lt eq of_bits
one_not_negative = refl

exp_unless : (x : Float) → is_nan (exp_of x) ≡ false → le +0 (exp_of x) ≡ true
exp_unless x n = go (is_nan x) refl
  where
    go : (b : Bool) → is_nan x ≡ b → le +0 (exp_of x) ≡ true
    go false e = exp_not_negative x e
    go true e = absurd (subst T (sym (ap (λ (y : Float). is_nan (exp_of y)) (is_nan_lem x e) ∙ ap is_nan exp_nan ∙ nan_is) ∙ n) tt)

-- its answer is not negative unless it is a NaN
pub powf_not_negative : (x t : Float) → is_nan (powf_of x t) ≡ false → le +0 (powf_of x t) ≡ true
unfolding powf_of powf_from
powf_not_negative x t = go (eq t +0) (positive_finite x)
  where
    go : (a b : Bool) → is_nan (pick a one (pick b (exp_of (mul binary64 t (ln_of x))) nan)) ≡ false → le +0 (pick a one (pick b (exp_of (mul binary64 t (ln_of x))) nan)) ≡ true
    go true b n = one_not_negative
    go false true n = exp_unless (mul binary64 t (ln_of x)) n
    go false false n = absurd (subst T (sym nan_is ∙ n) tt)

finite_product : (x y : Float) → T (finite x) → T (finite y) → is_nan (mul binary64 x y) ≡ false
unfolding mul
finite_product nan y p q = absurd p
finite_product (inf s) y p q = absurd p
finite_product (fin s m d) nan p q = absurd q
finite_product (fin s m d) (inf t) p q = absurd q
finite_product (fin s m d) (fin t n c) p q = round_number binary64 (unlike s t) (m * up d * (n * up c)) (down d * down c)

-- it is no NaN for x positive and finite and t finite
pub powf_number : (x t : Float) → T (fits binary64 x) → positive_finite x ≡ true → T (finite t) → is_nan (powf_of x t) ≡ false
unfolding powf_of powf_from
powf_number x t f e g = rw e (go (eq t +0))
  where
    go : (b : Bool) → is_nan (pick b one (exp_of (mul binary64 t (ln_of x)))) ≡ false
    go true = one_number
    go false = exp_number (mul binary64 t (ln_of x)) (finite_product t (ln_of x) g (ln_finite x f e))
