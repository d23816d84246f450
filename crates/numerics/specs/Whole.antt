-- A double from 2 ^ 52 to 2 ^ 53 is 2 ^ 52 plus the last 52 digits of its pattern, a whole number (`whole_of`). A double z from 1 to 1000000 with 2 ^ 52 added, rounded, is one of these,
-- and the whole number is off z by at most 0.5001 (`rounded_up`, `rounded_down`). Assumes nothing.
use Rattle.std.specs.Prelude.{◌≡◌, false, pos, T, Float}
use Rattle.std.proofs.Math.Path.{refl, sym}
use Rattle.std.proofs.Common.{ap, ◌∙◌, subst, arith, pow_pos, pow_mono}
use Prim.Native.Nat.{ℕ, suc, ◌+◌, ◌-◌, ◌*◌, ◌/◌, ◌%◌, ◌^◌, ◌≤◌, ◌<◌}
use native.Mathlib.Nat.{le_trans, le_of_eq, lt_of_lt_of_le, lt_of_le_of_lt, lt_irrefl, mod-lt, mul-pos, mul-le-mul_right, mul-le-mul_left, le_of_mul-le-mul_right, mul-lt-mul_of_pos_right, le_of_suc-le-suc, lt_of_not-le, le_antisymm}
use Rattle.std.proofs.Math.Dec.{lit≤}
use Rattle.std.specs.Float.{fin}
use Rattle.std.specs.Float.Ieee.{binary64, add, to_bits, fits}
use Rattle.std.specs.Float.Ieee.Fits.{add-fits}
use Rattle.std.specs.Float.Ieee.Exact.{HasValue}
use Rattle.std.specs.Float.Ieee.Positive.{num, den, positive, den_pos, value→cross}
use Rattle.numerics.specs.Frac.{◌⊞◌, big, small, small_suc, small_pos}
use Rattle.numerics.specs.Round.{val, Rel}
use Rattle.numerics.specs.Rel.{add_rel}
use Rattle.numerics.specs.Patterns.{rescale, parts_of}

-- ---- the exponent's field
not_less : (P t X N D : ℕ) → 0 < D → t < P → 2 * X ≤ P → N * P ≡ (P + t) * X * D → P * D ≤ N → ⊥
not_less P t X N D D0 l x e h =
    let a : (P + t) * X < P * P = strict P t X l x in
    lt_irrefl (P * D * P) (lt_of_le_of_lt (mul-le-mul_right P h) (lt_of_le_of_lt (le_of_eq e) (lt_of_lt_of_le (mul-lt-mul_of_pos_right a D0) (le_of_eq (turn P D)))))
  where
    strict : (P t X : ℕ) → t < P → 2 * X ≤ P → (P + t) * X < P * P
    strict P t X l x =
        let y : suc t * P ≤ P * P = mul-le-mul_right P l in
        let p : 0 < P = lt_of_le_of_lt Prim.Native.Nat.zero-le l in
        omega (arith, mul-le-mul_left (P + t) x, y, p)

    turn : (P D : ℕ) → P * P * D ≡ P * D * P
    turn P D = omega arith

not_more : (P t X N D : ℕ) → 0 < P → 2 * P ≤ X → N * P ≡ (P + t) * X * D → N < 2 * P * D → ⊥
not_more P t X N D P0 x e h =
    lt_irrefl (N * P) (lt_of_lt_of_le (mul-lt-mul_of_pos_right h P0) (le_trans (le_of_eq (turn P D)) (le_trans (mul-le-mul_right D (grow P t X x)) (le_of_eq (sym e)))))
  where
    turn : (P D : ℕ) → 2 * P * D * P ≡ P * (2 * P) * D
    turn P D = omega arith

    grow : (P t X : ℕ) → 2 * P ≤ X → P * (2 * P) ≤ (P + t) * X
    grow P t X x = omega (arith, mul-le-mul_left P x)

field : (t j N D : ℕ) → 0 < D → t < 2 ^ 52 → N * 2 ^ 52 ≡ (2 ^ 52 + t) * 2 ^ j * D → 2 ^ 52 * D ≤ N → N < 2 * 2 ^ 52 * D → j ≡ 52
field t j N D D0 l e h k =
    le_antisymm (le_of_suc-le-suc (lt_of_not-le (λ (g : 53 ≤ j). not_more (2 ^ 52) t (2 ^ j) N D (pow_pos 52) (pow_mono {i = 53} {j = j} g) e k)))
    (le_of_suc-le-suc (lt_of_not-le (λ (g : suc j ≤ 52). not_less (2 ^ 52) t (2 ^ j) N D D0 l (le_trans (mul-le-mul_left 2 (pow_mono {i = j} {j = 51} (le_of_suc-le-suc g))) (lit≤ tt)) e h)))

module _ (w : Float) (f : T (fits binary64 w)) (p : T (positive w)) (low : 2 ^ 52 * den w ≤ num w) (high : num w < 2 * 2 ^ 52 * den w) where
  pub whole_of : HasValue w false (2 ^ 52 + to_bits binary64 w % 2 ^ 52) 1
  whole_of =
      let b = to_bits binary64 w in
      let q = parts_of w f p (omega (arith, low, den_pos w)) in
      let x = value→cross w ((2 ^ 52 + b % 2 ^ 52) * 2 ^ (b / 2 ^ 52 - 1023)) (2 ^ 52) q.value in
      let j : b / 2 ^ 52 - 1023 ≡ 52 = field (b % 2 ^ 52) (b / 2 ^ 52 - 1023) (num w) (den w) (den_pos w) (mod-lt b (lit≤ tt)) x low high in
      rescale w ((2 ^ 52 + b % 2 ^ 52) * 2 ^ 52) (2 ^ 52) (2 ^ 52 + b % 2 ^ 52) 1 (pow_pos 52) (omega arith)
      (subst (λ (k : ℕ). HasValue w false ((2 ^ 52 + b % 2 ^ 52) * 2 ^ k) (2 ^ 52)) j q.value)

-- ---- the sum with 2 ^ 52
abbrev pub unit52 : Float
unit52 = fin false 1 (pos 52)

-- S = 2 * P - 1, the two ends of a rounding being S and S + 1
at_least : (P S Z F N D : ℕ) → 0 < F → suc S ≡ 2 * P → P ≤ S → F ≤ Z → (Z + P * F) * D * S ≤ N * F * suc S → P * D ≤ N
at_least P S Z F N D F0 s p z h =
    le_of_mul-le-mul_right {k = F * suc S} (le_trans (le_of_eq (turn P D F S)) (le_trans (mul-le-mul_right D (grow P S Z F p z)) (le_trans (le_of_eq (turn' Z P F D S)) (le_trans h (le_of_eq (native.Mathlib.Nat.mul_assoc N F (suc S))))))) (mul-pos F0 (native.Mathlib.Nat.zero-lt-suc S))
  where
    turn : (P D F S : ℕ) → P * D * (F * suc S) ≡ P * F * suc S * D
    turn P D F S = omega arith

    turn' : (Z P F D S : ℕ) → (Z + P * F) * S * D ≡ (Z + P * F) * D * S
    turn' Z P F D S = omega arith

    grow : (P S Z F : ℕ) → P ≤ S → F ≤ Z → P * F * suc S ≤ (Z + P * F) * S
    grow P S Z F p z = omega (arith, mul-le-mul_right S z, mul-le-mul_left F p)

under_twice : (P S Z F N D : ℕ) → 0 < F → 0 < D → Z ≤ 1000000 * F → (1000000 + P) * suc S < 2 * P * S → N * F * S ≤ (Z + P * F) * D * suc S → N < 2 * P * D
under_twice P S Z F N D F0 D0 z c h =
    native.Mathlib.Nat.lt_of_mul-lt-mul_right (F * S)
    (lt_of_le_of_lt (le_trans (le_of_eq (a N F S)) (le_trans h (le_trans (le_of_eq (b Z P F D S)) (le_trans (mul-le-mul_right (D * suc S) (d Z P F z)) (le_of_eq (e P F D S))))))
    (lt_of_lt_of_le (mul-lt-mul_of_pos_right c (mul-pos F0 D0)) (le_of_eq (g P S F D))))
  where
    a : (N F S : ℕ) → N * (F * S) ≡ N * F * S
    a N F S = omega arith

    b : (Z P F D S : ℕ) → (Z + P * F) * D * suc S ≡ (Z + P * F) * (D * suc S)
    b Z P F D S = omega arith

    d : (Z P F : ℕ) → Z ≤ 1000000 * F → Z + P * F ≤ (1000000 + P) * F
    d Z P F z = omega arith

    e : (P F D S : ℕ) → (1000000 + P) * F * (D * suc S) ≡ (1000000 + P) * suc S * (F * D)
    e P F D S = omega arith

    g : (P S F D : ℕ) → 2 * P * S * (F * D) ≡ 2 * P * D * (F * S)
    g P S F D = omega arith

off_up : (P S Z F t N D : ℕ) → 0 < S → 0 < D → Z ≤ 1000000 * F → (P + 1000000) * 10000 ≤ 5001 * S → N ≡ (P + t) * D → N * F * S ≤ (Z + P * F) * D * suc S → t * F * 10000 ≤ Z * 10000 + 5001 * F
off_up P S Z F t N D S0 D0 z c e h =
    le_of_mul-le-mul_right {k = S} (last P S Z F t z c (le_of_mul-le-mul_right {k = D} (le_trans (le_of_eq (a P t F S D N e)) (le_trans h (le_of_eq (b Z P F D S)))) D0)) S0
  where
    a : (P t F S D N : ℕ) → N ≡ (P + t) * D → (P + t) * F * S * D ≡ N * F * S
    a P t F S D N e = rw e (omega arith)

    b : (Z P F D S : ℕ) → (Z + P * F) * D * suc S ≡ (Z + P * F) * suc S * D
    b Z P F D S = omega arith

    last : (P S Z F t : ℕ) → Z ≤ 1000000 * F → (P + 1000000) * 10000 ≤ 5001 * S → (P + t) * F * S ≤ (Z + P * F) * suc S → t * F * 10000 * S ≤ (Z * 10000 + 5001 * F) * S
    last P S Z F t z c h = omega (arith, mul-le-mul_left F c)

off_down : (P S Z F t N D : ℕ) → 0 < S → 0 < D → t ≤ 2000000 → (P + 2000000) * 10000 ≤ 5001 * S → N ≡ (P + t) * D → (Z + P * F) * D * S ≤ N * F * suc S → Z * 10000 ≤ t * F * 10000 + 5001 * F
off_down P S Z F t N D S0 D0 l c e h =
    le_of_mul-le-mul_right {k = S} (last P S Z F t l c (le_of_mul-le-mul_right {k = D} (le_trans (le_of_eq (b Z P F D S)) (le_trans h (le_of_eq (a P t F S D N e)))) D0)) S0
  where
    a : (P t F S D N : ℕ) → N ≡ (P + t) * D → N * F * suc S ≡ (P + t) * F * suc S * D
    a P t F S D N e = rw e (omega arith)

    b : (Z P F D S : ℕ) → (Z + P * F) * S * D ≡ (Z + P * F) * D * S
    b Z P F D S = omega arith

    last : (P S Z F t : ℕ) → t ≤ 2000000 → (P + 2000000) * 10000 ≤ 5001 * S → (Z + P * F) * S ≤ (P + t) * F * suc S → Z * 10000 * S ≤ (t * F * 10000 + 5001 * F) * S
    last P S Z F t l c h = omega (arith, mul-le-mul_left F c, mul-le-mul_left F l)

pow_one : (n : ℕ) → n ^ 1 ≡ n
pow_one n = native.Mathlib.Nat.pow-suc n 0 ∙ ap (λ (z : ℕ). z * n) (native.Mathlib.Nat.pow-zero n) ∙ native.Mathlib.Nat.one-mul n

module _ (z : Float) (p : T (positive z)) (z_lo : den z ≤ num z) (z_hi : num z ≤ 1000000 * den z) where
  w : Float
  w = add binary64 z unit52

  abbrev P : ℕ
  P = 2 ^ 52

  w_rel : Rel 1 w (val z ⊞ val unit52)
  unfolding w
  w_rel = add_rel z unit52 p tt (record { least = low (num z) (den z); most = high (num z) (den z) z_hi })
    where
      low : (Z F : ℕ) → F * 1 ≤ (Z * 1 + 2 ^ 52 * F) * 2 ^ 1022
      low Z F = le_trans {m = Z * 1 + 2 ^ 52 * F} (omega arith) (native.Mathlib.Nat.le-mul_of_pos_right (Z * 1 + 2 ^ 52 * F) (pow_pos 1022))

      high : (Z F : ℕ) → Z ≤ 1000000 * F → Z * 1 + 2 ^ 52 * F ≤ F * 1 * 2 ^ 1023
      high Z F h = le_trans {m = F * 1 * 2 ^ 60} (omega arith) (mul-le-mul_left (F * 1) (lit≤ tt))

  w_le : num w * den z * small ≤ (num z + P * den z) * den w * suc small
  w_le = go (num w) (den z) (num z) (den w) (small ^ 1) (big ^ 1) small (suc small) (pow_one small) (pow_one big ∙ sym small_suc) w_rel.near.le
    where
      go : (N F Z D s b S B : ℕ) → s ≡ S → b ≡ B → N * (F * 1) * s ≤ (Z * 1 + 2 ^ 52 * F) * D * b → N * F * S ≤ (Z + 2 ^ 52 * F) * D * B
      go N F Z D s b S B e f h = rw (← e, ← f) (omega arith)

  w_ge : (num z + P * den z) * den w * small ≤ num w * den z * suc small
  w_ge = go (num w) (den z) (num z) (den w) (small ^ 1) (big ^ 1) small (suc small) (pow_one small) (pow_one big ∙ sym small_suc) w_rel.near.ge
    where
      go : (N F Z D s b S B : ℕ) → s ≡ S → b ≡ B → (Z * 1 + 2 ^ 52 * F) * D * s ≤ N * (F * 1) * b → (Z + 2 ^ 52 * F) * D * S ≤ N * F * B
      go N F Z D s b S B e f h = rw (← e, ← f) (omega arith)

  w_low : P * den w ≤ num w
  w_low = at_least P small (num z) (den z) (num w) (den w) (den_pos z) two_small (unfold small in lit≤ tt) z_lo w_ge
    where
      two_small : suc small ≡ 2 * 2 ^ 52
      two_small = unfold small in refl

  w_high : num w < 2 * P * den w
  w_high = under_twice P small (num z) (den z) (num w) (den w) (den_pos z) (den_pos w) z_hi (unfold small in lit≤ tt) w_le

  pub rounded_positive : T (positive (add binary64 z unit52))
  unfolding w
  rounded_positive = w_rel.pos

  pub rounded_whole : HasValue (add binary64 z unit52) false (2 ^ 52 + to_bits binary64 (add binary64 z unit52) % 2 ^ 52) 1
  unfolding w
  rounded_whole = whole_of w (add-fits binary64 z unit52) w_rel.pos w_low w_high

  value : num w ≡ (P + to_bits binary64 w % 2 ^ 52) * den w
  unfolding w
  value = sym (native.Mathlib.Nat.mul-one (num w)) ∙ value→cross w (P + to_bits binary64 w % 2 ^ 52) 1 rounded_whole

  pub rounded_up : to_bits binary64 (add binary64 z unit52) % 2 ^ 52 * den z * 10000 ≤ num z * 10000 + 5001 * den z
  unfolding w
  rounded_up = off_up P small (num z) (den z) (to_bits binary64 w % 2 ^ 52) (num w) (den w) small_pos (den_pos w) z_hi (unfold small in lit≤ tt) value w_le

  pub rounded_down : num z * 10000 ≤ to_bits binary64 (add binary64 z unit52) % 2 ^ 52 * den z * 10000 + 5001 * den z
  unfolding w
  rounded_down =
      let k = to_bits binary64 w % 2 ^ 52 in
      let l : k ≤ 2000000 = le_of_mul-le-mul_right {k = den z} (omega (arith, rounded_up, z_hi)) (den_pos z) in
      off_down P small (num z) (den z) k (num w) (den w) small_pos (den_pos w) l (unfold small in lit≤ tt) value w_ge
