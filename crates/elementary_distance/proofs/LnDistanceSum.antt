-- The last operations of ln on doubles: k as a double is exact, k ln2 is two roundings off, and the answer is one rounding from the exact sum of its operands, or from
-- their difference where k is negative. Assumes nothing.
use mathlib.Core.Path.{◌≡◌, refl, sym, ap, ap₂, ◌∙◌, subst}
use mathlib.Core.Bool.{true, false}
use mathlib.Core.Logic.{◌⊎◌, inl, inr}
use Prim.Native.Nat.{ℕ, zero, suc, ◌+◌, ◌-◌, ◌*◌, ◌^◌, ◌≤◌, ◌<◌}
use native.Mathlib.Nat.{le_refl, le_trans, le_of_eq, le_of_lt, mul-pos, mul-one, one-mul, mul_comm, mul-le-mul, mul-le-mul_right, mul-le-mul_left, eq-zero-or-pos, one-le-pow, zero-lt-suc}
use native.Mathlib.Omega.{arith}
use lib.Dec.{T, eqb→eq, lit≤}
use lib.Pow.{pow_pos}
use lib.IntN.{pos, negsuc}
use lib.Ieee.{Float, nan, inf, fin, binary64, up, down, round, add, sub, mul, neg, of_int, fits}
use lib.Ieee.Back.{round_whole}
use lib.Ieee.Exact.{HasValue}
use lib.Ieee.Fits.{up_pos, mul-fits, add-fits}
use lib.Ieee.Scale.{round_same}
use lib.Ieee.Positive.{num, den, positive, den_pos, value→cross, positive_of_value}
use Rattle.numerics.specs.Frac.{Frac, ◌⊞◌, ◌⊠◌, nat, big, small, small_pos, Close, close_same, close_refl}
use Rattle.numerics.specs.Law.{times}
use Rattle.numerics.specs.Held.{held}
use Rattle.numerics.specs.Round.{val}
use Rattle.numerics.specs.Rel.{less, under_double, sub_is}
use Rattle.numerics.specs.Nonneg.{nonneg, Rel0, Fine, round_rel0, fine_of_close, rel0_of_rel, rel0_mul, nonneg_value, nonneg_positive, add_is0}
use Rattle.elementary_ln.specs.Ln as steps
use Rattle.elementary_ln.specs.Ln.{bias, ln_significand, ln_parts}
use Rattle.elementary_ln.proofs.LnConstants.{log_two, ln2_rel, zero_exponent, most_exponent, bias_val}
use Rattle.elementary_distance.proofs.LnDistanceSignificand.{log_of, log_of_bot, log_of_most, significand_rel, broad_den}
use Rattle.numerics.specs.EitherSign.{mul_neg, add_over, add_under, sub_less}
use Rattle.numerics.specs.Common.{sub_mul}

-- ---- k = e - 1087 as a double
abbrev pub whole : ℕ → Float
whole n = round binary64 false n 1

whole_val : (n : ℕ) → n ≤ 2 ^ 53 → HasValue (whole n) false n 1
whole_val n h = round_whole binary64 false n h

of_whole : (e : ℕ) → of_int binary64 (pos e) ≡ whole e
unfolding of_int
of_whole e = refl

cross : (a b c d M C : ℕ) → a * 1 ≡ M * b → c * 1 ≡ C * d → (a * d - c * b) * 1 ≡ (M - C) * (b * d)
cross a b c d M C e f =
    let x : a * d * 1 ≡ M * (b * d) = omega (arith, ap (λ (z : ℕ). z * d) e) in
    let y : c * b * 1 ≡ C * (b * d) = omega (arith, ap (λ (z : ℕ). z * b) f) in
    sub_mul (a * d) (c * b) 1 ∙ ap₂ ◌-◌ x y ∙ sym (sub_mul M C (b * d))

order : (a b c d M C : ℕ) → a * 1 ≡ M * b → c * 1 ≡ C * d → C ≤ M → c * b ≤ a * d
order a b c d M C e f h = omega (arith, ap (λ (z : ℕ). z * d) e, ap (λ (z : ℕ). z * b) f, mul-le-mul_right (b * d) h)

strict : (a b c d M C : ℕ) → 0 < b * d → a * 1 ≡ M * b → c * 1 ≡ C * d → M < C → a * d < c * b
strict a b c d M C P e f h = omega (arith, ap (λ (z : ℕ). z * d) e, ap (λ (z : ℕ). z * b) f, mul-le-mul_right (b * d) h)

module _ (e : ℕ) (e-some : 0 < e) (e-few : e ≤ most_exponent) where
  e_val : HasValue (whole e) false e 1
  e_val = whole_val e (le_trans e-few (lit≤ tt))

  e_pos : T (positive (whole e))
  e_pos = positive_of_value (whole e) e 1 e_val e-some

  bias_pos : T (positive bias)
  bias_pos = positive_of_value bias zero_exponent 1 bias_val (lit≤ tt)

  pub from_bias : zero_exponent ≤ e → sub binary64 (of_int binary64 (pos e)) bias ≡ whole (e - zero_exponent)
  from_bias h =
      let x = value→cross (whole e) e 1 e_val in
      let y = value→cross bias zero_exponent 1 bias_val in
      ap (λ (v : Float). sub binary64 v bias) (of_whole e) ∙ sub_is binary64 (whole e) bias e_pos bias_pos (order (num (whole e)) (den (whole e)) (num bias) (den bias) e zero_exponent x y h)
      ∙ round_same binary64 false (num (whole e) * den bias - num bias * den (whole e)) (den (whole e) * den bias) (e - zero_exponent) 1 (mul-pos (den_pos (whole e)) (den_pos bias)) (lit≤ tt)
      (cross (num (whole e)) (den (whole e)) (num bias) (den bias) e zero_exponent x y)

  pub below_bias : e < zero_exponent → sub binary64 (of_int binary64 (pos e)) bias ≡ neg (whole (zero_exponent - e))
  below_bias h =
      let x = value→cross (whole e) e 1 e_val in
      let y = value→cross bias zero_exponent 1 bias_val in
      ap (λ (v : Float). sub binary64 v bias) (of_whole e)
      ∙ sub_less binary64 (whole e) bias (nonneg_positive (whole e) e_pos) (nonneg_positive bias bias_pos) (strict (num (whole e)) (den (whole e)) (num bias) (den bias) e zero_exponent (mul-pos (den_pos (whole e)) (den_pos bias)) x y h)
      ∙ ap neg
      (round_same binary64 false (num bias * den (whole e) - num (whole e) * den bias) (den (whole e) * den bias) (zero_exponent - e) 1 (mul-pos (den_pos (whole e)) (den_pos bias)) (lit≤ tt)
      (cross (num bias) (den bias) (num (whole e)) (den (whole e)) zero_exponent e y x ∙ ap (λ (z : ℕ). (zero_exponent - e) * z) (mul_comm (den bias) (den (whole e)))))

-- ---- n ln2
abbrev pub shift : ℕ → Float
shift n = mul binary64 (whole n) steps.ln2

module _ (n : ℕ) (n-few : n ≤ 1074) where
  n_val : HasValue (whole n) false n 1
  n_val = whole_val n (le_trans n-few (lit≤ tt))

  n_rel : Rel0 0 (whole n) (nat n)
  n_rel = record { sign = nonneg_value (whole n) n 1 n_val; near = close_same (val (whole n)) (nat n) (value→cross (whole n) n 1 n_val) }

  pub whole_sign : T (nonneg (whole n))
  whole_sign = n_rel.sign

  shift_top : (nat n ⊠ log_two).top ≤ (nat n ⊠ log_two).bot * 1074
  shift_top = le_trans (mul-le-mul_right log_two.top n-few) (lit≤ tt)

  pub shift_rel : Rel0 2 (shift n) (nat n ⊠ log_two)
  shift_rel = rel0_mul 0 1 (whole n) steps.ln2 (nat n) log_two n_rel (rel0_of_rel 1 steps.ln2 log_two ln2_rel) (lit≤ tt) (broad_den (nat n ⊠ log_two) (lit≤ tt) (le_trans shift_top (lit≤ tt)))

  -- the same of the fraction as `times` has it
  pub shift_close : Close 2 (val (shift n)) (times n log_two)
  shift_close = record { le = shift_rel.near.le; ge = shift_rel.near.ge }

-- ---- a double that is close to a fraction has few digits below the point
short_zero : (u d : ℕ) → 0 < u → u * d ≡ 1 → d ≤ 1
short_zero u d U h = le_trans (le_of_eq (sym (one-mul d))) (le_trans (mul-le-mul_right d U) (le_of_eq h))

short : (v : Float) (M : ℕ) → 0 < M → T (fits binary64 v) → T (nonneg v) → (num v ≡ 0) ⊎ (den v ≤ num v * M) → den v ≤ 2 ^ 53 * M
unfolding fits
short nan M P f s c = absurd s
short (inf t) M P f s c = absurd s
short (fin true m e) M P f s c = absurd s
short (fin false zero e) M P f s c = le_trans (short_zero (up e) (down e) (up_pos e) (eqb→eq (up e * down e) 1 f)) (mul-pos (pow_pos 53) P)
short (fin false (suc m) e) M P f s (inl z) = absurd (no (suc m * up e) (mul-pos (zero-lt-suc m) (up_pos e)) z)
  where
    no : (n : ℕ) → 0 < n → n ≡ 0 → ⊥
    no n P e = omega arith
short (fin false (suc m) (pos k)) M P f s (inr h) = mul-pos (pow_pos 53) P
short (fin false (suc m) (negsuc k)) M P f s (inr h) = le_trans h (mul-le-mul_right M (le_trans (le_of_eq (mul-one (suc m))) (le_of_lt (held binary64 false m (negsuc k) f).0)))

module _ (e : ℕ) (v : Float) (q : Frac) (few : e ≤ 1000) (r : Rel0 e v q) where
  -- by the fraction's denominator
  rel_short : (M : ℕ) → 0 < M → T (fits binary64 v) → q.bot ≤ M → den v ≤ 2 ^ 53 * (2 * M)
  rel_short M P f h = short v (2 * M) (mul-pos (lit≤ tt) P) f r.sign (go (eq-zero-or-pos q.top))
    where
      none : (n b s t d B : ℕ) → 0 < b → 0 < s → t ≡ 0 → n * b * s ≤ t * d * B → n ≡ 0
      none n b s t d B b0 s0 z l = elim (eq-zero-or-pos n) [ inl e ↦ e | inr p ↦ absurd (clash (n * b * s) (mul-pos (mul-pos p b0) s0) (le_trans l (le_of_eq (rw z (nothing d B))))) ]
        where
          nothing : (d B : ℕ) → 0 * d * B ≡ 0
          nothing d B = omega arith

          clash : (n : ℕ) → 0 < n → n ≤ 0 → ⊥
          clash n P l = omega arith

      some : (n d t b M : ℕ) → 0 < t → b ≤ M → t * d ≤ 2 * (n * b) → d ≤ n * (2 * M)
      some n d t b M T l k = omega (arith, mul-le-mul_right d T, mul-le-mul_left n l)

      go : (q.top ≡ 0) ⊎ (0 < q.top) → (num v ≡ 0) ⊎ (den v ≤ num v * (2 * M))
      go (inl z) = inl (none (num v) q.bot (small ^ e) q.top (den v) (big ^ e) q.good (one-le-pow e small small_pos) z r.near.le)
      go (inr p) = inr (some (num v) (den v) q.top q.bot M p h (under_double e q (val v) few r.near.ge))

  -- and how large it is
  rel_most : (h : ℕ) → q.top ≤ q.bot * h → num v ≤ den v * (2 * h)
  rel_most h k = native.Mathlib.Nat.le_of_mul-le-mul_right {k = q.bot} (most (num v) (den v) q.top q.bot h k (under_double e (val v) q few r.near.le)) q.good
    where
      most : (n d t b h : ℕ) → t ≤ b * h → n * b ≤ 2 * (t * d) → n * b ≤ d * (2 * h) * b
      most n d t b h k l = omega (arith, mul-le-mul_right d k)

-- ---- the sum of n ln2 and ln m, and their difference
module _ (n t : ℕ) (n-few : n ≤ 1074) (t-few : t < 2 ^ 52) where
  abbrev pub b : Float
  b = shift n

  abbrev pub a : Float
  a = ln_significand t

  a_fits : T (fits binary64 a)
  unfolding ln_significand
  a_fits = add-fits binary64 _ _

  b_short : den b ≤ 2 ^ 138
  b_short = le_trans (rel_short 2 b (nat n ⊠ log_two) (lit≤ tt) (shift_rel n n-few) (2 ^ 84) (pow_pos 84) (mul-fits binary64 (whole n) steps.ln2) (lit≤ tt)) (lit≤ tt)

  a_short : den a ≤ 2 ^ 554
  a_short = le_trans (rel_short 26 a (log_of t) (lit≤ tt) (significand_rel t t-few) (2 ^ 500) (pow_pos 500) a_fits (log_of_bot t t-few)) (lit≤ tt)

  b_most : num b ≤ den b * 2148
  b_most = rel_most 2 b (nat n ⊠ log_two) (lit≤ tt) (shift_rel n n-few) 1074 (shift_top n n-few)

  a_most : num a ≤ den a * 2
  a_most = rel_most 26 a (log_of t) (lit≤ tt) (significand_rel t t-few) 1 (one (log_of t).top (log_of t).bot (log_of_most t t-few))
    where
      one : (a b : ℕ) → a * 10 ≤ 7 * b → a ≤ b * 1
      one a b h = omega arith

  dens : den b * den a ≤ 2 ^ 1021
  dens = le_trans (mul-le-mul b_short a_short) (lit≤ tt)

  fine : (q : Frac) → q.bot ≡ den b * den a → q.top ≤ num b * den a + num a * den b → Fine q
  fine q e h =
      fine_of_close 0 q q (lit≤ tt) (close_refl q)
      (broad_den q (le_trans (le_of_eq e) dens)
      (le_trans h (le_trans (both (num b) (den b) (num a) (den a) b_most a_most) (le_trans (le_of_eq (ap (λ (z : ℕ). z * 2150) (sym e))) (mul-le-mul_left q.bot (lit≤ tt))))))
    where
      both : (b d a f : ℕ) → b ≤ d * 2148 → a ≤ f * 2 → b * f + a * d ≤ d * f * 2150
      both b d a f h k = omega (arith, mul-le-mul_right f h, mul-le-mul_right d k)

  pub sum_rel : Rel0 1 (add binary64 b a) (val b ⊞ val a)
  sum_rel = rw (add_is0 binary64 b a (shift_rel n n-few).sign (significand_rel t t-few).sign) (round_rel0 (val b ⊞ val a) (fine (val b ⊞ val a) refl (le_refl (num b * den a + num a * den b))))

  abbrev pub over : Float
  over = round binary64 false (num a * den b - num b * den a) (den b * den a)

  pub over_is : num b * den a ≤ num a * den b → add binary64 (neg b) a ≡ over
  over_is h = add_over binary64 b a (shift_rel n n-few).sign (significand_rel t t-few).sign h

  pub over_rel : Rel0 1 over (less (val a) (val b))
  over_rel =
      subst (λ (d : ℕ). Rel0 1 (round binary64 false (num a * den b - num b * den a) d) (less (val a) (val b))) (mul_comm (den a) (den b))
      (round_rel0 (less (val a) (val b)) (fine (less (val a) (val b)) (mul_comm (den a) (den b)) (less_most (num a * den b) (num b * den a))))
    where
      less_most : (x y : ℕ) → x - y ≤ y + x
      less_most x y = omega arith

  abbrev pub under : Float
  under = round binary64 false (num b * den a - num a * den b) (den b * den a)

  pub under_is : num a * den b < num b * den a → add binary64 (neg b) a ≡ neg under
  under_is h = add_under binary64 b a (shift_rel n n-few).sign (significand_rel t t-few).sign h

  pub under_rel : Rel0 1 under (less (val b) (val a))
  under_rel = round_rel0 (less (val b) (val a)) (fine (less (val b) (val a)) refl (less_most (num b * den a) (num a * den b)))
    where
      less_most : (x y : ℕ) → x - y ≤ x + y
      less_most x y = omega arith

-- ---- the answer
pub parts_from : (e t : ℕ) → 0 < e → e ≤ most_exponent → zero_exponent ≤ e → ln_parts e t ≡ add binary64 (shift (e - zero_exponent)) (ln_significand t)
unfolding ln_parts
parts_from e t p h l = ap (λ (v : Float). add binary64 (mul binary64 v steps.ln2) (ln_significand t)) (from_bias e p h l)

pub parts_below : (e t : ℕ) → 0 < e → e < zero_exponent → zero_exponent - e ≤ 1074 → ln_parts e t ≡ add binary64 (neg (shift (zero_exponent - e))) (ln_significand t)
unfolding ln_parts
parts_below e t p l n =
    ap (λ (v : Float). add binary64 (mul binary64 v steps.ln2) (ln_significand t)) (below_bias e p (le_trans (le_of_lt l) (lit≤ tt)) l)
    ∙ ap (λ (v : Float). add binary64 v (ln_significand t)) (mul_neg binary64 (whole (zero_exponent - e)) steps.ln2 (whole_sign (zero_exponent - e) n) (nonneg_positive steps.ln2 ln2_rel.pos))
