-- The errors of the exponential's reduction together: the three roundings move the exponent by at most 4 / (2 ^ 53 - 1), over one denominator. Assumes nothing.
use mathlib.Core.Path.{◌≡◌, refl, ap}
use Prim.Native.Nat.{ℕ, suc, ◌+◌, ◌-◌, ◌*◌, ◌≤◌, ◌<◌}
use native.Mathlib.Nat.{mul-pos, le_of_mul-le-mul_right, sub-add_cancel}
use native.Mathlib.Omega.{arith}
use Rattle.numerics.specs.Frac.{Frac, ◌⊑◌, ◌⊞◌, nat, small, small_suc, small_pos, Under, Close}
use Rattle.numerics.specs.Common.{On, on_le, le_on, on_add, on_under}
use Rattle.numerics.specs.Bound.{off}

-- ---- over one denominator Q = P * S: x = X - Y, m * hi = A - B, v one rounding of D = X + B - Y - A, m * lo rounded = F - G, r one rounding of E = v + G - F, and m * lo = K - L
-- one rounding of b / Q moves it by P / Q at most
one_up : (S P Q a b : ℕ) → 0 < S → Q ≡ P * S → a * S ≤ b * suc S → b ≤ Q → a ≤ b + P
one_up S P Q a b S0 q h l = le_of_mul-le-mul_right {k = S} (omega arith) S0

core_up : (S P Q X Y A B D G F H E R K L : ℕ) → 0 < S → Q ≡ P * S → D + (Y + A) ≡ X + B → D * S ≤ G * suc S → G ≤ Q → E + F ≡ G + H → E * S ≤ R * suc S → R ≤ Q
    → F * S ≤ K * suc S → K ≤ Q → L * S ≤ H * suc S → H ≤ Q → X + B + L ≤ Y + A + K + R + 4 * P
core_up S P Q X Y A B D G F H E R K L S0 q d a b e f g h i j k =
    let d' : D ≤ G + P = one_up S P Q D G S0 q a b in
    let e' : E ≤ R + P = one_up S P Q E R S0 q f g in
    let f' : F ≤ K + P = one_up S P Q F K S0 q h i in
    let l' : L ≤ H + P = one_up S P Q L H S0 q j k in
    omega arith

core_down : (S P Q X Y A B D G F H E R K L : ℕ) → 0 < S → Q ≡ P * S → D + (Y + A) ≡ X + B → G * S ≤ D * suc S → D ≤ Q → E + F ≡ G + H → R * S ≤ E * suc S → E ≤ Q
    → K * S ≤ F * suc S → F ≤ Q → H * S ≤ L * suc S → L ≤ Q → Y + A + K + R ≤ X + B + L + 4 * P
core_down S P Q X Y A B D G F H E R K L S0 q d a b e f g h i j k =
    let d' : G ≤ D + P = one_up S P Q G D S0 q a b in
    let e' : R ≤ E + P = one_up S P Q R E S0 q f g in
    let f' : K ≤ F + P = one_up S P Q K F S0 q h i in
    let l' : H ≤ L + P = one_up S P Q H L S0 q j k in
    omega arith

abbrev pub fr : (t d : ℕ) → 0 < d → Frac
fr t d h = record { top = t; bot = d; good = h }

-- x = (xp - xn) / dx, m * hi = (hp - hn) / da, v = vt / dv, m * lo rounded = (bp - bn) / db, m * lo = (cp - cn) / dc, r = rt / dr
module _ (xp xn dx hp hn da vt dv bp bn db cp cn dc rt dr : ℕ) (x0 : 0 < dx) (a0 : 0 < da) (v0 : 0 < dv) (b0 : 0 < db) (c0 : 0 < dc) (r0 : 0 < dr)
    (v-rel : Close 1 (fr vt dv v0) (fr (xp * da + hn * dx - (xn * da + hp * dx)) (dx * da) (mul-pos x0 a0))) (v-order : xn * da + hp * dx ≤ xp * da + hn * dx)
    (d_one : fr (xp * da + hn * dx - (xn * da + hp * dx)) (dx * da) (mul-pos x0 a0) ⊑ nat 1) (v_one : fr vt dv v0 ⊑ nat 1)
    (r-rel : Close 1 (fr rt dr r0) (fr (vt * db + bn * dv - bp * dv) (dv * db) (mul-pos v0 b0))) (r-order : bp * dv ≤ vt * db + bn * dv)
    (e_one : fr (vt * db + bn * dv - bp * dv) (dv * db) (mul-pos v0 b0) ⊑ nat 1) (r_one : fr rt dr r0 ⊑ nat 1)
    (p_rel : Close 1 (fr bp db b0) (fr cp dc c0)) (n_rel : Close 1 (fr bn db b0) (fr cn dc c0))
    (bp-one : fr bp db b0 ⊑ nat 1) (bn-one : fr bn db b0 ⊑ nat 1) (cp-one : fr cp dc c0 ⊑ nat 1) (cn-one : fr cn dc c0 ⊑ nat 1) where
  P : ℕ
  P = dx * da * (dv * db) * (dc * dr)

  Q : ℕ
  Q = P * small

  -- Q without dx * da, and so on
  E1 : ℕ
  E1 = dv * db * (dc * dr) * small

  E2 : ℕ
  E2 = dx * da * (dc * dr) * small

  E3 : ℕ
  E3 = dx * da * (dv * db) * small

  Q-pos : 0 < Q
  unfolding Q P
  Q-pos = mul-pos (mul-pos (mul-pos (mul-pos x0 a0) (mul-pos v0 b0)) (mul-pos c0 r0)) small_pos

  Q-is : Q ≡ P * small
  unfolding Q
  Q-is = refl

  on_one : On Q (nat 1) Q
  on_one = omega arith

  on_off : On Q off (4 * P)
  unfolding Q
  on_off = omega arith

  on_x : (t : ℕ) → On Q (fr t dx x0) (t * da * E1)
  unfolding Q P E1
  on_x t = omega arith

  on_a : (t : ℕ) → On Q (fr t da a0) (t * dx * E1)
  unfolding Q P E1
  on_a t = omega arith

  on_xa : (t : ℕ) → On Q (fr t (dx * da) (mul-pos x0 a0)) (t * E1)
  unfolding Q P E1
  on_xa t = omega arith

  on_v : (t : ℕ) → On Q (fr t dv v0) (t * db * E2)
  unfolding Q P E2
  on_v t = omega arith

  on_b : (t : ℕ) → On Q (fr t db b0) (t * dv * E2)
  unfolding Q P E2
  on_b t = omega arith

  on_vb : (t : ℕ) → On Q (fr t (dv * db) (mul-pos v0 b0)) (t * E2)
  unfolding Q P E2
  on_vb t = omega arith

  on_c : (t : ℕ) → On Q (fr t dc c0) (t * dr * E3)
  unfolding Q P E3
  on_c t = omega arith

  on_r : (t : ℕ) → On Q (fr t dr r0) (t * dc * E3)
  unfolding Q P E3
  on_r t = omega arith

  dt : ℕ
  dt = xp * da + hn * dx - (xn * da + hp * dx)

  et : ℕ
  et = vt * db + bn * dv - bp * dv

  split₁ : dt * E1 + (xn * da * E1 + hp * dx * E1) ≡ xp * da * E1 + hn * dx * E1
  unfolding dt
  split₁ = go (xp * da + hn * dx - (xn * da + hp * dx)) (xn * da) (hp * dx) (xp * da) (hn * dx) E1 (sub-add_cancel v-order)
    where
      go : (d a b p q E : ℕ) → d + (a + b) ≡ p + q → d * E + (a * E + b * E) ≡ p * E + q * E
      go d a b p q E h = omega (arith, ap (λ (z : ℕ). z * E) h)

  split₂ : et * E2 + bp * dv * E2 ≡ vt * db * E2 + bn * dv * E2
  unfolding et
  split₂ = go (vt * db + bn * dv - bp * dv) (bp * dv) (vt * db) (bn * dv) E2 (sub-add_cancel r-order)
    where
      go : (d a p q E : ℕ) → d + a ≡ p + q → d * E + a * E ≡ p * E + q * E
      go d a p q E h = omega (arith, ap (λ (z : ℕ). z * E) h)

  -- one rounding, over Q
  turned : (p q : Frac) (n m : ℕ) → On Q p n → On Q q m → Under 1 p q → n * small ≤ m * suc small
  turned p q n m a b h = rw (← small_suc) at (on_under Q p q n m a b h)

  most : (p : Frac) (n : ℕ) → On Q p n → p ⊑ nat 1 → n ≤ Q
  most p n a h = on_le Q p (nat 1) n Q a on_one h

  pub gap_up : fr xp dx x0 ⊞ fr hn da a0 ⊞ fr cn dc c0 ⊑ fr xn dx x0 ⊞ fr hp da a0 ⊞ fr cp dc c0 ⊞ fr rt dr r0 ⊞ off
  unfolding dt et
  gap_up =
      le_on Q (fr xp dx x0 ⊞ fr hn da a0 ⊞ fr cn dc c0) (fr xn dx x0 ⊞ fr hp da a0 ⊞ fr cp dc c0 ⊞ fr rt dr r0 ⊞ off) (xp * da * E1 + hn * dx * E1 + cn * dr * E3) (xn * da * E1 + hp * dx * E1 + cp * dr * E3 + rt * dc * E3 + 4 * P) Q-pos
      (on_add Q (fr xp dx x0 ⊞ fr hn da a0) (fr cn dc c0) (xp * da * E1 + hn * dx * E1) (cn * dr * E3) (on_add Q (fr xp dx x0) (fr hn da a0) (xp * da * E1) (hn * dx * E1) (on_x xp) (on_a hn)) (on_c cn))
      (on_add Q (fr xn dx x0 ⊞ fr hp da a0 ⊞ fr cp dc c0 ⊞ fr rt dr r0) off (xn * da * E1 + hp * dx * E1 + cp * dr * E3 + rt * dc * E3) (4 * P)
      (on_add Q (fr xn dx x0 ⊞ fr hp da a0 ⊞ fr cp dc c0) (fr rt dr r0) (xn * da * E1 + hp * dx * E1 + cp * dr * E3) (rt * dc * E3)
      (on_add Q (fr xn dx x0 ⊞ fr hp da a0) (fr cp dc c0) (xn * da * E1 + hp * dx * E1) (cp * dr * E3) (on_add Q (fr xn dx x0) (fr hp da a0) (xn * da * E1) (hp * dx * E1) (on_x xn) (on_a hp)) (on_c cp)) (on_r rt)) on_off)
      (core_up small P Q (xp * da * E1) (xn * da * E1) (hp * dx * E1) (hn * dx * E1) (dt * E1) (vt * db * E2) (bp * dv * E2) (bn * dv * E2) (et * E2) (rt * dc * E3) (cp * dr * E3) (cn * dr * E3) small_pos Q-is split₁
      (turned (fr dt (dx * da) (mul-pos x0 a0)) (fr vt dv v0) (dt * E1) (vt * db * E2) (on_xa dt) (on_v vt) v-rel.ge) (most (fr vt dv v0) (vt * db * E2) (on_v vt) v_one) split₂
      (turned (fr et (dv * db) (mul-pos v0 b0)) (fr rt dr r0) (et * E2) (rt * dc * E3) (on_vb et) (on_r rt) r-rel.ge) (most (fr rt dr r0) (rt * dc * E3) (on_r rt) r_one)
      (turned (fr bp db b0) (fr cp dc c0) (bp * dv * E2) (cp * dr * E3) (on_b bp) (on_c cp) p_rel.le) (most (fr cp dc c0) (cp * dr * E3) (on_c cp) cp-one)
      (turned (fr cn dc c0) (fr bn db b0) (cn * dr * E3) (bn * dv * E2) (on_c cn) (on_b bn) n_rel.ge) (most (fr bn db b0) (bn * dv * E2) (on_b bn) bn-one))

  pub gap_down : fr xn dx x0 ⊞ fr hp da a0 ⊞ fr cp dc c0 ⊞ fr rt dr r0 ⊑ fr xp dx x0 ⊞ fr hn da a0 ⊞ fr cn dc c0 ⊞ off
  unfolding dt et
  gap_down =
      le_on Q (fr xn dx x0 ⊞ fr hp da a0 ⊞ fr cp dc c0 ⊞ fr rt dr r0) (fr xp dx x0 ⊞ fr hn da a0 ⊞ fr cn dc c0 ⊞ off) (xn * da * E1 + hp * dx * E1 + cp * dr * E3 + rt * dc * E3) (xp * da * E1 + hn * dx * E1 + cn * dr * E3 + 4 * P) Q-pos
      (on_add Q (fr xn dx x0 ⊞ fr hp da a0 ⊞ fr cp dc c0) (fr rt dr r0) (xn * da * E1 + hp * dx * E1 + cp * dr * E3) (rt * dc * E3)
      (on_add Q (fr xn dx x0 ⊞ fr hp da a0) (fr cp dc c0) (xn * da * E1 + hp * dx * E1) (cp * dr * E3) (on_add Q (fr xn dx x0) (fr hp da a0) (xn * da * E1) (hp * dx * E1) (on_x xn) (on_a hp)) (on_c cp)) (on_r rt))
      (on_add Q (fr xp dx x0 ⊞ fr hn da a0 ⊞ fr cn dc c0) off (xp * da * E1 + hn * dx * E1 + cn * dr * E3) (4 * P)
      (on_add Q (fr xp dx x0 ⊞ fr hn da a0) (fr cn dc c0) (xp * da * E1 + hn * dx * E1) (cn * dr * E3) (on_add Q (fr xp dx x0) (fr hn da a0) (xp * da * E1) (hn * dx * E1) (on_x xp) (on_a hn)) (on_c cn)) on_off)
      (core_down small P Q (xp * da * E1) (xn * da * E1) (hp * dx * E1) (hn * dx * E1) (dt * E1) (vt * db * E2) (bp * dv * E2) (bn * dv * E2) (et * E2) (rt * dc * E3) (cp * dr * E3) (cn * dr * E3) small_pos Q-is split₁
      (turned (fr vt dv v0) (fr dt (dx * da) (mul-pos x0 a0)) (vt * db * E2) (dt * E1) (on_v vt) (on_xa dt) v-rel.le) (most (fr dt (dx * da) (mul-pos x0 a0)) (dt * E1) (on_xa dt) d_one) split₂
      (turned (fr rt dr r0) (fr et (dv * db) (mul-pos v0 b0)) (rt * dc * E3) (et * E2) (on_r rt) (on_vb et) r-rel.le) (most (fr et (dv * db) (mul-pos v0 b0)) (et * E2) (on_vb et) e_one)
      (turned (fr cp dc c0) (fr bp db b0) (cp * dr * E3) (bp * dv * E2) (on_c cp) (on_b bp) p_rel.ge) (most (fr bp db b0) (bp * dv * E2) (on_b bp) bp-one)
      (turned (fr bn db b0) (fr cn dc c0) (bn * dv * E2) (cn * dr * E3) (on_b bn) (on_c cn) n_rel.le) (most (fr cn dc c0) (cn * dr * E3) (on_c cn) cn-one))
