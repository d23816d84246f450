-- Horner's rule. `taylor 0 n x`, with exact coefficients 1 / k!, is the partial sum S n x (`taylor_is`).
-- The same in binary64, with coefficients that are each one rounding of 1 / k!, is within 2 * n + 1 roundings of it (`horner_rel`). Assumes nothing.
use Rattle.std.specs.Prelude.{◌≡◌, refl, T}
use Rattle.std.proofs.Common.{sym, ap, ◌∙◌, lit≤}
use Rattle.std.proofs.Math.Path.{subst}
use mathlib.Core.List.{List, [], ◌∷◌}
use Prim.Native.Nat.{ℕ, zero, suc, ◌+◌, ◌*◌, ◌^◌, ◌≤◌, ◌<◌}
use native.Mathlib.Nat.{le_refl, le_trans, le_of_eq, mul-pos, zero-lt-suc, mul-one, one-mul, mul-le-mul, mul-le-mul_right, mul-le-mul_left, le_of_mul-le-mul_right, pow-suc, pow-zero, zero-add}
use native.Mathlib.Omega.{arith}
use lib.Ieee.{Float, binary64, add, mul}
use Rattle.numerics.specs.Frac.{Frac, ◌⊞◌, ◌⊠◌, Close, close_same}
use Rattle.numerics.specs.Series.{sum_top, S}
use Rattle.numerics.specs.Law.{rise, all}
use Rattle.numerics.specs.Round.{val, Rel}
use Rattle.numerics.specs.Rel.{rel_exact, rel_weaken, rel_trans, rel_mul, rel_add, Ample}

-- ---- exact
unfoldable pub fact : ℕ → ℕ
fact zero = 1
fact (suc n) = fact n * suc n

pub fact_pos : (n : ℕ) → 0 < fact n
unfolding fact
fact_pos zero = le_refl 1
fact_pos (suc n) = mul-pos (fact_pos n) (zero-lt-suc n)

abbrev pub one_over : ℕ → Frac
one_over k = record { top = 1; bot = fact k; good = fact_pos k }

-- 1 / k! + x * (1 / (k + 1)! + x * .. (1 / (k + j)!))
unfoldable pub taylor : ℕ → ℕ → Frac → Frac
taylor k zero x = one_over k
taylor k (suc j) x = one_over k ⊞ x ⊠ taylor (suc k) j x

-- its value times k! * b ^ j * (k + 1) * .. * (k + j)
whole : ℕ → ℕ → ℕ → ℕ → ℕ
whole k zero a b = 1
whole k (suc j) a b = rise b (suc j) k + a * whole (suc k) j a b

taylor_whole : (k j : ℕ) (x : Frac) → (taylor k j x).top * (fact k * rise x.bot j k) ≡ whole k j x.top x.bot * (taylor k j x).bot
unfolding taylor whole rise fact
taylor_whole k zero x = omega arith
taylor_whole k (suc j) x =
    step x.top x.bot (taylor (suc k) j x).top (taylor (suc k) j x).bot (fact k) (suc k) (rise x.bot j (suc k)) (whole (suc k) j x.top x.bot) (taylor_whole (suc k) j x)
  where
    step : (a b t d F s R W : ℕ) → t * (F * s * R) ≡ W * d → (1 * (b * d) + a * t * F) * (F * (b * s * R)) ≡ (b * s * R + a * W) * (F * (b * d))
    step a b t d F s R W h = omega (arith, ap (λ (z : ℕ). z * (a * b * F)) h)

-- sum_top split at k
whole_sum : (k j a b : ℕ) → sum_top k a b * rise b (suc j) k + a ^ suc k * whole (suc k) j a b ≡ sum_top (suc k + j) a b
unfolding whole rise sum_top
whole_sum k zero a b = rw (native.Mathlib.Nat.add-zero (suc k)) (omega arith)
whole_sum k (suc j) a b =
    let ih : (sum_top k a b * (b * suc k) + a ^ suc k) * (b * suc (suc k) * rise b j (suc (suc k))) + a ^ suc (suc k) * whole (suc (suc k)) j a b ≡ sum_top (suc (suc k) + j) a b = whole_sum (suc k) j a b in
    let e : suc k + suc j ≡ suc (suc k) + j = omega arith in
    rw e (rw (← ih, pow-suc a (suc k)) (omega arith))

whole_is : (n a b : ℕ) → whole 0 n a b ≡ sum_top n a b
unfolding whole sum_top
whole_is zero a b = refl
whole_is (suc j) a b =
    let h : 1 * rise b (suc j) 0 + a ^ 1 * whole 1 j a b ≡ sum_top (1 + j) a b = whole_sum 0 j a b in
    let e : 1 + j ≡ suc j = omega arith in
    let p : a ^ 1 ≡ a = pow-suc a 0 ∙ ap (λ (z : ℕ). z * a) (pow-zero a) ∙ one-mul a in
    omega (arith, rw (e, p) at h)

pub taylor_is : (n : ℕ) (x : Frac) → Close 0 (taylor 0 n x) (S n x)
unfolding fact
taylor_is n x = close_same (taylor 0 n x) (S n x) (rw (one-mul (rise x.bot n 0), all x.bot n, whole_is n x.top x.bot) at (taylor_whole 0 n x))

-- ---- in binary64: c + r * (c' + r * ..)
unfoldable pub horner : Float → List Float → Float → Float
horner c [] r = c
horner c (d ∷ cs) r = add binary64 c (mul binary64 r (horner d cs r))

-- each coefficient, from 1 / k! on, is one rounding of it
abbrev pub Coefs : ℕ → List Float → Type 0
Coefs k [] = Unit {0}
Coefs k (c ∷ cs) = Rel 1 c (one_over k) × Coefs (suc k) cs

-- q is between 1 / M and h
pub record Sized (M h : ℕ) (q : Frac) : Type 0 where
  pub low : q.bot ≤ q.top * M
  pub high : q.top ≤ h * q.bot

unfoldable pub count : List Float → ℕ
count [] = 0
count (c ∷ cs) = suc (count cs)

fact_more : (k j : ℕ) → fact k ≤ fact (k + j)
unfolding fact
fact_more k zero = le_of_eq (ap fact (sym (native.Mathlib.Nat.add-zero k)))
fact_more k (suc j) = rw (native.Mathlib.Nat.add-suc k j) (le_trans (fact_more k j) (native.Mathlib.Nat.le-mul_of_pos_right (fact (k + j)) (zero-lt-suc (k + j))))

-- x at most 1: the value from 1 / k! on is at most j + 1, and at least 1 / k!
taylor_within : (M k j : ℕ) (x : Frac) → x.top ≤ x.bot → fact (k + j) ≤ M → Sized M (suc j) (taylor k j x)
unfolding taylor
taylor_within M k zero x h f = record { low = le_trans (fact_more k 0) (omega arith); high = omega (arith, fact_pos k) }
taylor_within M k (suc j) x h f =
    let e : k + suc j ≡ suc k + j = omega arith in
    let ih = taylor_within M (suc k) j x h (rw e at f) in
    let t = (taylor (suc k) j x).top in
    let d = (taylor (suc k) j x).bot in
    record {
      low = lower (fact k) (x.bot * d) (x.top * t * fact k) M (le_trans (fact_more k (suc j)) f);
      high = upper (fact k) x.top x.bot t d (suc j) (fact_pos k) h ih.high;
    }
  where
    lower : (F D X M : ℕ) → F ≤ M → F * D ≤ (1 * D + X) * M
    lower F D X M h = omega (arith, mul-le-mul_right D h)

    upper : (F a b t d s : ℕ) → 0 < F → a ≤ b → t ≤ s * d → 1 * (b * d) + a * t * F ≤ suc s * (F * (b * d))
    upper F a b t d s P h k = omega (arith, mul-le-mul_right F (mul-le-mul h k), mul-le-mul_right (b * d) P)

within_ample : (M h : ℕ) (q : Frac) → M ≤ 2 ^ 1021 → h ≤ 2 ^ 1022 → Sized M h q → Ample q
within_ample M h q m k w = record {
  least = le_trans w.low (mul-le-mul_left q.top m);
  most = le_trans w.high (le_trans (mul-le-mul_right q.bot k) (le_of_eq (native.Mathlib.Nat.mul_comm (2 ^ 1022) q.bot)));
}

within_mul : (M h : ℕ) (x q : Frac) → x.top ≤ x.bot → x.bot ≤ x.top * M → Sized M h q → Sized (M * M) h (x ⊠ q)
within_mul M h x q a b w = record {
  low = omega (arith, mul-le-mul b w.low);
  high = omega (arith, mul-le-mul a w.high);
}

module _ (r : Float) (M : ℕ) (r-pos : T (lib.Ieee.Positive.positive r)) (small : (val r).top ≤ (val r).bot) (large : (val r).bot ≤ (val r).top * M) (square : M * M ≤ 2 ^ 1021) (single : M ≤ 2 ^ 1021) where
  pub horner_rel : (k : ℕ) (c : Float) (cs : List Float) → Rel 1 c (one_over k) → Coefs (suc k) cs → fact (k + count cs) ≤ M → count cs ≤ 400
      → Rel (1 + 2 * count cs) (horner c cs r) (taylor k (count cs) (val r))
  unfolding horner taylor count
  horner_rel k c [] h hs f n = h
  horner_rel k c (d ∷ cs) h hs f n =
      let j = count cs in
      let e = 1 + (0 + (1 + 2 * j)) in
      let x = val r in
      let f' : fact (suc k + j) ≤ M = subst (λ (z : ℕ). fact z ≤ M) (shape k j) f in
      let t = taylor (suc k) j x in
      let ih : Rel (1 + 2 * j) (horner d cs r) t = horner_rel (suc k) d cs hs.0 hs.1 f' (omega arith) in
      let w : Sized M (suc j) t = taylor_within M (suc k) j x small f' in
      let m : Rel e (mul binary64 r (horner d cs r)) (x ⊠ t) =
      rel_mul 0 (1 + 2 * j) r (horner d cs r) x t (rel_exact r r-pos) ih (omega arith) (within_ample (M * M) (suc j) (x ⊠ t) square (le_trans {m = 1000} (omega arith) (lit≤ tt)) (within_mul M (suc j) x t small large w)) in
      rel_weaken (1 + e) (1 + 2 * suc j) (add binary64 c (mul binary64 r (horner d cs r))) (one_over k ⊞ x ⊠ t) (omega arith)
      (rel_add e c (mul binary64 r (horner d cs r)) (one_over k) (x ⊠ t) (rel_weaken 1 e c (one_over k) (omega arith) h) m (omega arith)
      (within_ample M (suc (suc j)) (taylor k (suc j) x) single (le_trans {m = 1000} (omega arith) (lit≤ tt)) (taylor_within M k (suc j) x small f)))
    where
      shape : (k j : ℕ) → k + suc j ≡ suc k + j
      shape k j = omega arith

  -- the whole rule: within 2 * n + 1 roundings of S n r
  pub horner_series : (c : Float) (cs : List Float) → Rel 1 c (one_over 0) → Coefs 1 cs → fact (count cs) ≤ M → count cs ≤ 400 → Rel (1 + 2 * count cs) (horner c cs r) (S (count cs) (val r))
  horner_series c cs h hs f n =
      rel_weaken (1 + 2 * count cs + 0) (1 + 2 * count cs) (horner c cs r) (S (count cs) (val r)) (omega arith)
      (rel_trans (1 + 2 * count cs) 0 (horner c cs r) (taylor 0 (count cs) (val r)) (S (count cs) (val r))
      (horner_rel 0 c cs h hs (subst (λ (z : ℕ). fact z ≤ M) (sym (zero-add (count cs))) f) n) (taylor_is (count cs) (val r)))
