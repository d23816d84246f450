-- s = (m - c) / (m + c) in binary64, for m = M / 2 ^ 52 and c = C / 2 ^ 52 with C ≤ M: two roundings from (M - C) / (M + C). Assumes nothing.
use mathlib.Core.Path.{◌≡◌, sym, ap, ap₂, ◌∙◌, subst}
use mathlib.Core.Logic.{◌⊎◌, inl, inr}
use Prim.Native.Nat.{ℕ, ◌+◌, ◌-◌, ◌*◌, ◌^◌, ◌≤◌, ◌<◌}
use native.Mathlib.Nat.{le_trans, le_of_eq, lt_of_lt_of_le, lt_of_le_of_lt, mul-pos, one-mul, mul_assoc, mul-le-mul_right, mul-le-mul_left, le_of_mul-le-mul_right, mul-lt-mul_of_pos_right, eq-zero-or-pos, sub-le}
use native.Mathlib.Omega.{arith}
use mathlib.Core.Bool.{false}
use lib.Dec.{T, lit≤}
use lib.Pow.{pow_pos}
use lib.Ieee.{Float, binary64, round, add, sub, div}
use lib.Ieee.Exact.{HasValue, round_exact}
use lib.Ieee.Scale.{round_same}
use lib.Ieee.Order.{transfer}
use lib.Ieee.Positive.{num, den, positive, den_pos, value→cross, positive_of_value}
use Rattle.numerics.specs.Frac.{Frac, Close, big, small}
use Rattle.numerics.specs.Round.{val, Rel, round_rel}
use Rattle.numerics.specs.Rel.{over, num_pos, sub_is, add_is}
use Rattle.numerics.specs.Common.{sub_mul}
use Rattle.numerics.specs.Nonneg.{div_is0, nonneg, Rel0, Broad, round_rel0, fine_of_close, rel0_trans, nonneg_value}
use Rattle.elementary_distance.proofs.LnDistanceStep.{ratio_of}

pub twice_pos : (C : ℕ) → 2 ^ 52 ≤ C → 0 < 2 * C
twice_pos C h = mul-pos (lit≤ tt) (lt_of_lt_of_le (pow_pos 52) h)

module _ (m c : Float) (M C : ℕ) (m-val : HasValue m false M (2 ^ 52)) (c-val : HasValue c false C (2 ^ 52)) (C-low : 2 ^ 52 ≤ C) (order : C ≤ M) (M-high : M < 2 ^ 53) where
  C0 : 0 < C
  C0 = lt_of_lt_of_le (pow_pos 52) C-low

  mp : T (positive m)
  mp = positive_of_value m M (2 ^ 52) m-val (lt_of_lt_of_le C0 order)

  cp : T (positive c)
  cp = positive_of_value c C (2 ^ 52) c-val C0

  mx : num m * 2 ^ 52 ≡ M * den m
  mx = value→cross m M (2 ^ 52) m-val

  cx : num c * 2 ^ 52 ≡ C * den c
  cx = value→cross c C (2 ^ 52) c-val

  -- the difference is exact
  f_val : HasValue (sub binary64 m c) false (M - C) (2 ^ 52)
  f_val =
      let h : num c * den m ≤ num m * den c = transfer (num c) (num m) (den c) (den m) C M (2 ^ 52) (2 ^ 52) (pow_pos 52) (pow_pos 52) cx mx (mul-le-mul_right (2 ^ 52) order) in
      let q : M - C < 2 ^ 53 = lt_of_le_of_lt (sub-le M C) M-high in
      let e : sub binary64 m c ≡ round binary64 false (M - C) (2 ^ 52) =
      sub_is binary64 m c mp cp h ∙ round_same binary64 false (num m * den c - num c * den m) (den m * den c) (M - C) (2 ^ 52) (mul-pos (den_pos m) (den_pos c)) (pow_pos 52) (cross (num m) (den m) (num c) (den c) M C (2 ^ 52) mx cx) in
      subst (λ (v : Float). HasValue v false (M - C) (2 ^ 52)) (sym e)
      (round_exact binary64 false (M - C) (2 ^ 52) (M - C) 1022 (pow_pos 52) q (lt_of_lt_of_le (mul-lt-mul_of_pos_right q (pow_pos 1022)) (lit≤ tt)) (sym (mul_assoc (M - C) (2 ^ 1022) (2 ^ 52))))
    where
      cross : (a b c d M C p : ℕ) → a * p ≡ M * b → c * p ≡ C * d → (a * d - c * b) * p ≡ (M - C) * (b * d)
      cross a b c d M C p e f =
          let x : a * d * p ≡ M * (b * d) = omega (arith, ap (λ (z : ℕ). z * d) e) in
          let y : c * b * p ≡ C * (b * d) = omega (arith, ap (λ (z : ℕ). z * b) f) in
          sub_mul (a * d) (c * b) p ∙ ap₂ ◌-◌ x y ∙ sym (sub_mul M C (b * d))

  f_sign : T (nonneg (sub binary64 m c))
  f_sign = nonneg_value (sub binary64 m c) (M - C) (2 ^ 52) f_val

  abbrev total : Frac
  total = record { top = M + C; bot = 2 ^ 52; good = pow_pos 52 }

  g_rel : Rel 1 (add binary64 m c) total
  g_rel = subst (λ (v : Float). Rel 1 v total) (sym e) (round_rel total (record { least = le_trans C-low (le_trans (native.Mathlib.Nat.le-add_left C M) (native.Mathlib.Nat.le-mul_of_pos_right (M + C) (pow_pos 1022))); most = le_trans (twice M C order M-high) (lit≤ tt) }))
    where
      twice : (M C : ℕ) → C ≤ M → M < 2 ^ 53 → M + C ≤ 2 ^ 54
      twice M C a b = omega arith

      e : add binary64 m c ≡ round binary64 false (M + C) (2 ^ 52)
      e = add_is binary64 m c mp cp ∙ round_same binary64 false (num m * den c + num c * den m) (den m * den c) (M + C) (2 ^ 52) (mul-pos (den_pos m) (den_pos c)) (pow_pos 52) (cross (num m) (den m) (num c) (den c) M C (2 ^ 52) mx cx)
        where
          cross : (a b c d M C p : ℕ) → a * p ≡ M * b → c * p ≡ C * d → (a * d + c * b) * p ≡ (M + C) * (b * d)
          cross a b c d M C p e f = omega (arith, ap (λ (z : ℕ). z * d) e, ap (λ (z : ℕ). z * b) f)

  -- the quotient of the two is one rounding from (M - C) / (M + C)
  exact_close : Close 1 (over (val (sub binary64 m c)) (val (add binary64 m c)) (num_pos (add binary64 m c) g_rel.pos)) (ratio_of (M - C) (2 * C) (twice_pos C C-low))
  exact_close =
      let f = sub binary64 m c in
      let g = add binary64 m c in
      let fx : num f * 2 ^ 52 ≡ (M - C) * den f = value→cross f (M - C) (2 ^ 52) f_val in
      let s : M - C + 2 * C ≡ M + C = undo M C order in
      record {
        le = subst (λ (z : ℕ). num f * den g * z * small ^ 1 ≤ (M - C) * (num g * den f) * big ^ 1) (sym s) (up (num f) (den f) (num g) (den g) (M - C) (M + C) (2 ^ 52) (small ^ 1) (big ^ 1) (pow_pos 52) fx g_rel.near.ge);
        ge = subst (λ (z : ℕ). (M - C) * (num g * den f) * small ^ 1 ≤ num f * den g * z * big ^ 1) (sym s) (down (num f) (den f) (num g) (den g) (M - C) (M + C) (2 ^ 52) (small ^ 1) (big ^ 1) (pow_pos 52) fx g_rel.near.le);
      }
    where
      undo : (M C : ℕ) → C ≤ M → M - C + 2 * C ≡ M + C
      undo M C h = omega arith

      up : (n d N D a b p s w : ℕ) → 0 < p → n * p ≡ a * d → b * D * s ≤ N * p * w → n * D * b * s ≤ a * (N * d) * w
      up n d N D a b p s w P e h = le_of_mul-le-mul_right {k = p} (omega (arith, mul-le-mul_left (a * d) h, ap (λ (z : ℕ). z * (D * b * s)) e)) P

      down : (n d N D a b p s w : ℕ) → 0 < p → n * p ≡ a * d → N * p * s ≤ b * D * w → a * (N * d) * s ≤ n * D * b * w
      down n d N D a b p s w P e h = le_of_mul-le-mul_right {k = p} (omega (arith, mul-le-mul_left (a * d) h, ap (λ (z : ℕ). z * (D * b * w)) e)) P

  ratio_broad : Broad (ratio_of (M - C) (2 * C) (twice_pos C C-low))
  ratio_broad = go (eq-zero-or-pos (M - C))
    where
      bound : M - C + 2 * C ≤ 2 ^ 54
      bound = le_trans (le_of_eq (undo M C order)) (twice M C order M-high)
        where
          undo : (M C : ℕ) → C ≤ M → M - C + 2 * C ≡ M + C
          undo M C h = omega arith

          twice : (M C : ℕ) → C ≤ M → M < 2 ^ 53 → M + C ≤ 2 ^ 54
          twice M C a b = omega arith

      go : (M - C ≡ 0) ⊎ (0 < M - C) → Broad (ratio_of (M - C) (2 * C) (twice_pos C C-low))
      go (inl z) = inl z
      go (inr p) = inr (record {
        least = le_trans bound (le_trans (lit≤ tt) (le_trans (le_of_eq (sym (one-mul (2 ^ 1021)))) (mul-le-mul_right (2 ^ 1021) p)));
        most = le_trans (native.Mathlib.Nat.le-add_right (M - C) (2 * C)) (native.Mathlib.Nat.le-mul_of_pos_right (M - C + 2 * C) (pow_pos 1022));
      })

  pub ratio_least : (M - C ≡ 0) ⊎ (M - C + 2 * C ≤ (M - C) * 2 ^ 100)
  ratio_least = go (eq-zero-or-pos (M - C))
    where
      go : (M - C ≡ 0) ⊎ (0 < M - C) → (M - C ≡ 0) ⊎ (M - C + 2 * C ≤ (M - C) * 2 ^ 100)
      go (inl z) = inl z
      go (inr p) = inr (tiny (M - C) M C p order M-high)
        where
          tiny : (d M C : ℕ) → 0 < d → C ≤ M → M < 2 ^ 53 → d + 2 * C ≤ d * 2 ^ 100
          tiny d M C p a b = omega arith

  -- the float quotient
  pub ratio_rel : Rel0 2 (div binary64 (sub binary64 m c) (add binary64 m c)) (ratio_of (M - C) (2 * C) (twice_pos C C-low))
  ratio_rel =
      let f = sub binary64 m c in
      let g = add binary64 m c in
      let q = over (val f) (val g) (num_pos g g_rel.pos) in
      rel0_trans 1 1 (div binary64 f g) q (ratio_of (M - C) (2 * C) (twice_pos C C-low))
      (subst (λ (v : Float). Rel0 1 v q) (sym (div_is0 binary64 f g f_sign g_rel.pos)) (round_rel0 q (fine_of_close 1 q (ratio_of (M - C) (2 * C) (twice_pos C C-low)) (lit≤ tt) exact_close ratio_broad))) exact_close
