-- `Rel` for values that may be zero: `Rel0 e v q` says that v is finite, not negative, and e roundings from q. Assumes nothing.
use Rattle.std.specs.Prelude.{◌≡◌, ◌⊎◌, ℕ, ◌+◌, ◌*◌, ◌^◌, ◌≤◌, ◌<◌, true, false, T, Float}
use Rattle.std.proofs.Common.{sym, ◌∙◌, subst, inl, inr, mul-pos, mul-le-mul_right, zero-mul, eq-zero-or-pos, arith, true≢false, pow_pos}
use Rattle.std.proofs.Math.Nat.{eq_of_mul-eq-mul_right, one-le-pow}
use Rattle.std.specs.Float.{nan, inf, fin, Format, binary64}
use Rattle.std.specs.Float.Ieee.{round, add, mul, div, le}
use Rattle.std.specs.Float.Ieee.Exact.{HasValue}
use Rattle.std.specs.Float.Ieee.Order.{round_mono}
use Rattle.std.specs.Float.Ieee.Positive.{num, den, positive, den_pos, le→cross, value→cross, positive-finite}
use Rattle.numerics.specs.Frac.{Frac, ◌⊞◌, ◌⊠◌, big, small, small_pos, Close, close_trans, close_weaken, close_mul, close_add}
use Rattle.numerics.specs.Round.{val, Rel, Normal, round_rel, num_pos}
use Rattle.numerics.specs.Fixed.{zero_val}
use Rattle.numerics.specs.Sign.{no_sign}
pub use Rattle.numerics.specs.Sign.{nonneg, nonneg_positive, nonneg_finite}
use Rattle.numerics.specs.Rounding.{add_upright, mul_upright, div_upright}
use Rattle.numerics.specs.Rel.{Ample, normal_of_close}

pub record Rel0 (e : ℕ) (v : Float) (q : Frac) : Type 0 where
  pub sign : T (nonneg v)
  pub near : Close e (val v) q

pub rel0_of_rel : (e : ℕ) (v : Float) (q : Frac) → Rel e v q → Rel0 e v q
rel0_of_rel e v q r = record { sign = nonneg_positive v r.pos; near = r.near }

pub nonneg_value : (v : Float) (a c : ℕ) → HasValue v false a c → T (nonneg v)
nonneg_value nan a c h = absurd h
nonneg_value (inf s) a c h = absurd h
nonneg_value (fin true m e) a c h = absurd (true≢false h.0)
nonneg_value (fin false m e) a c h = tt

-- ---- a zero rounds to zero
zero_rel : (c : ℕ) (C : 0 < c) (e : ℕ) → Rel0 e (round binary64 false 0 c) (record { top = 0; bot = c; good = C })
zero_rel c C e =
    let v = round binary64 false 0 c in
    let n : num v ≡ 0 = eq_of_mul-eq-mul_right (2 ^ 1074) (pow_pos 1074) (num v) 0 (value→cross v 0 (2 ^ 1074) (zero_val c C) ∙ zero-mul (den v) ∙ sym (zero-mul (2 ^ 1074))) in
    record {
      sign = nonneg_value v 0 (2 ^ 1074) (zero_val c C);
      near = record { le = rw n (nothing c (small ^ e) (0 * den v * big ^ e)); ge = nothing (den v) (small ^ e) (num v * c * big ^ e) };
    }
  where
    nothing : (c s x : ℕ) → 0 * c * s ≤ x
    nothing c s x = omega arith

-- ---- one rounding of a fraction that is zero or in range
abbrev pub Fine : Frac → Type 0
Fine q = (q.top ≡ 0) ⊎ Normal q

pub round_rel0 : (q : Frac) → Fine q → Rel0 1 (round binary64 false q.top q.bot) q
round_rel0 q (inl z) = go q.top z
  where
    go : (t : ℕ) → t ≡ 0 → Rel0 1 (round binary64 false t q.bot) (record { top = t; bot = q.bot; good = q.good })
    go t z = subst (λ (t : ℕ). Rel0 1 (round binary64 false t q.bot) (record { top = t; bot = q.bot; good = q.good })) (sym z) (zero_rel q.bot q.good 1)
round_rel0 q (inr n) = rel0_of_rel 1 (round binary64 false q.top q.bot) q (round_rel q n)

-- ---- the operators
pub add_is0 : (f : Format) (x y : Float) → T (nonneg x) → T (nonneg y) → add f x y ≡ round f false (num x * den y + num y * den x) (den x * den y)
add_is0 f x y p q = add_upright f x y (nonneg_finite x p) (nonneg_finite y q) (no_sign x p) (no_sign y q)

-- a sum grows with what is added
pub add_grows : (f : Format) (a x y : Float) → T (positive a) → T (positive x) → T (positive y) → T (le x y) → T (le (add f a x) (add f a y))
add_grows f a x y A p q h =
    rw (add_is0 f a x (nonneg_positive a A) (nonneg_positive x p), add_is0 f a y (nonneg_positive a A) (nonneg_positive y q))
    (round_mono f (num a * den x + num x * den a) (den a * den x) (num a * den y + num y * den a) (den a * den y)
    (mul-pos (den_pos a) (den_pos x)) (mul-pos (den_pos a) (den_pos y)) (crossed (num a) (den a) (num x) (den x) (num y) (den y) (le→cross x y p q h)))
  where
    crossed : (n d x p y q : ℕ) → x * q ≤ y * p → (n * p + x * d) * (d * q) ≤ (n * q + y * d) * (d * p)
    crossed n d x p y q k = omega (arith, mul-le-mul_right (d * d) k)

pub mul_is0 : (f : Format) (x y : Float) → T (nonneg x) → T (nonneg y) → mul f x y ≡ round f false (num x * num y) (den x * den y)
mul_is0 f x y p q = mul_upright f x y (nonneg_finite x p) (nonneg_finite y q) (no_sign x p) (no_sign y q)

pub div_is0 : (f : Format) (x y : Float) → T (nonneg x) → T (positive y) → div f x y ≡ round f false (num x * den y) (num y * den x)
div_is0 f x y p q = div_upright f x y (nonneg_finite x p) (positive-finite y q) (no_sign x p) (no_sign y (nonneg_positive y q)) (num_pos y q)

-- ---- zero or in range, by what it is close to
pub fine_of_close : (e : ℕ) (p q : Frac) → e ≤ 1000 → Close e p q → (q.top ≡ 0) ⊎ Ample q → Fine p
fine_of_close e p q h c (inl z) = inl (none p.top q.bot (small ^ e) p.bot (big ^ e) q.good (one-le-pow e small small_pos) (rw z at c.le))
  where
    none : (t b s x y : ℕ) → 0 < b → 0 < s → t * b * s ≤ 0 * x * y → t ≡ 0
    none t b s x y B S h = elim (eq-zero-or-pos t) [ inl e ↦ e | inr p ↦ absurd (clash (t * b * s) (mul-pos (mul-pos p B) S) h) ]
      where
        clash : (n : ℕ) → 0 < n → n ≤ 0 * x * y → ⊥
        clash n P l = omega arith
fine_of_close e p q h c (inr a) = inr (normal_of_close e p q h c a)

abbrev pub Broad : Frac → Type 0
Broad q = (q.top ≡ 0) ⊎ Ample q

pub rel0_weaken : (i j : ℕ) (x : Float) (p : Frac) → i ≤ j → Rel0 i x p → Rel0 j x p
rel0_weaken i j x p h r = record { sign = r.sign; near = close_weaken i j (val x) p h r.near }

pub rel0_trans : (i j : ℕ) (x : Float) (p q : Frac) → Rel0 i x p → Close j p q → Rel0 (i + j) x q
rel0_trans i j x p q r c = record { sign = r.sign; near = close_trans i j (val x) p q r.near c }

pub rel0_mul : (i j : ℕ) (x y : Float) (p q : Frac) → Rel0 i x p → Rel0 j y q → i + j ≤ 1000 → Broad (p ⊠ q) → Rel0 (1 + (i + j)) (mul binary64 x y) (p ⊠ q)
rel0_mul i j x y p q r s h b =
    let c = close_mul i j (val x) p (val y) q r.near s.near in
    rel0_trans 1 (i + j) (mul binary64 x y) (val x ⊠ val y) (p ⊠ q) (rw (mul_is0 binary64 x y r.sign s.sign) (round_rel0 (val x ⊠ val y) (fine_of_close (i + j) (val x ⊠ val y) (p ⊠ q) h c b))) c

pub rel0_add : (e : ℕ) (x y : Float) (p q : Frac) → Rel0 e x p → Rel0 e y q → e ≤ 1000 → Broad (p ⊞ q) → Rel0 (1 + e) (add binary64 x y) (p ⊞ q)
rel0_add e x y p q r s h b =
    let c = close_add e (val x) p (val y) q r.near s.near in
    rel0_trans 1 e (add binary64 x y) (val x ⊞ val y) (p ⊞ q) (rw (add_is0 binary64 x y r.sign s.sign) (round_rel0 (val x ⊞ val y) (fine_of_close e (val x ⊞ val y) (p ⊞ q) h c b))) c
