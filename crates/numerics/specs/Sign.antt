-- The sign of a value: a value above zero, or not negative, is `fin false m e` (`of_positive`, `of_nonneg`: one case analysis for all laws of such values), and a rounding only passes its sign on
-- (`round_neg`). Assumes nothing.
use Rattle.std.specs.Prelude.{◌≡◌, Bool, true, false, not, cond, ℕ, zero, suc, ◌*◌, ◌^◌, ◌<◌, T, ltb, ℤ, Float}
use Rattle.std.proofs.Math.Path.{refl}
use Rattle.std.proofs.Common.{sym, ap, ◌∙◌, ltb→lt}
use Rattle.std.specs.Float.{nan, inf, fin, Format}
use Rattle.std.specs.Float.Ieee.{low, prec, odd, units, round, neg}
use Rattle.std.specs.Float.Ieee.Fits.{round_is}
use Rattle.std.specs.Float.Ieee.Order.{drop, kept}
use Rattle.std.specs.Float.Ieee.Positive.{positive}
use Rattle.std.specs.Float.Ieee.Scale.{finite, overflow}

abbrev pub negative : Float → Bool
negative nan = false
negative (inf s) = s
negative (fin s m e) = s

-- finite, and without a sign
abbrev pub nonneg : Float → Bool
nonneg nan = false
nonneg (inf s) = false
nonneg (fin s m e) = not s

-- what holds of each value written without a sign holds of every one that has none
pub of_nonneg : (P : Float → Type 0) → ((m : ℕ) (e : ℤ) → P (fin false m e)) → (x : Float) → T (nonneg x) → P x
of_nonneg P h nan p = absurd p
of_nonneg P h (inf s) p = absurd p
of_nonneg P h (fin true m e) p = absurd p
of_nonneg P h (fin false m e) p = h m e

pub nonneg_positive : (v : Float) → T (positive v) → T (nonneg v)
nonneg_positive nan p = absurd p
nonneg_positive (inf s) p = absurd p
nonneg_positive (fin true m e) p = absurd p
nonneg_positive (fin false m e) p = tt

pub of_positive : (P : Float → Type 0) → ((m : ℕ) (e : ℤ) → 0 < m → P (fin false m e)) → (x : Float) → T (positive x) → P x
of_positive P h x p = of_nonneg (λ (y : Float). T (positive y) → P y) (λ m e q. h m e (ltb→lt 0 m q)) x (nonneg_positive x p) p

pub nonneg_finite : (v : Float) → T (nonneg v) → T (finite v)
nonneg_finite v p = of_nonneg (λ (x : Float). T (finite x)) (λ m e. tt) v p

pub no_sign : (v : Float) → T (nonneg v) → negative v ≡ false
no_sign v p = of_nonneg (λ (x : Float). negative x ≡ false) (λ m e. refl) v p

-- ---- the sign turned
pub finite_neg_is : (x : Float) → finite (neg x) ≡ finite x
unfolding neg
finite_neg_is nan = refl
finite_neg_is (inf s) = refl
finite_neg_is (fin s m e) = refl

-- a rounding with the sign set is the one without it, its sign turned
odd_neg : (d q k l : ℕ) → odd d true q k l ≡ neg (odd d false q k l)
unfolding odd neg
odd_neg d zero k l = refl
odd_neg d (suc q) k l = refl

units_neg : (f : Format) (q k : ℕ) → units f true q k ≡ neg (units f false q k)
unfolding units
units_neg f q k = go (ltb (q * 2 ^ k) (overflow f))
  where
    go : (b : Bool) → cond b (odd (suc (prec f)) true q k (low f)) (inf true) ≡ neg (cond b (odd (suc (prec f)) false q k (low f)) (inf false))
    go true = odd_neg (suc (prec f)) q k (low f)
    go false = unfold neg in refl

pub round_neg : (f : Format) (a c : ℕ) → round f true a c ≡ neg (round f false a c)
round_neg f a c = round_is f true a c ∙ units_neg f (kept (prec f) (a * 2 ^ low f) c) (drop (prec f) (a * 2 ^ low f) c) ∙ ap neg (sym (round_is f false a c))
