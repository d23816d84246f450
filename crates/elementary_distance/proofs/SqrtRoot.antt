-- Whole numbers of 53 digits: the one nearest to a root, the next to it, and the middle of two, squared. Assumes nothing.
use mathlib.Core.Path.{◌≡◌, sym, ap, ◌∙◌}
use mathlib.Core.Bool.{Bool, true, false, not}
use Prim.Native.Nat.{ℕ, suc, ◌+◌, ◌-◌, ◌*◌, ◌/◌, ◌^◌, ◌≤◌, ◌<◌}
use native.Mathlib.Nat.{le_of_suc-le-suc, lt_of_not-le, lt_irrefl, lt_of_lt_of_le, lt_of_le_of_lt, le_trans, le_of_eq, mul-le-mul, mul-le-mul_right, mul-lt-mul_of_pos_right, lt_of_mul-lt-mul_right, mul_assoc, mul-pos, pow-suc, sub-add_cancel}
use native.Mathlib.Omega.{arith}
use lib.Dec.{T, leb, leb→le, nleb→lt}
use lib.Pow.{pow_pos, pow_mono, pow-add}
use Rattle.elementary_sqrt.specs.Sqrt.{root_of, nearest_root}
use Rattle.elementary_sqrt.proofs.Root.{Root, root_is}

-- ---- the whole number nearest to a root
pub record NearRoot (n q : ℕ) : Type 0 where
  pub low : 2 ^ 52 ≤ q
  pub high : q < 2 ^ 53
  pub above : 4 * n < (2 * q + 1) * (2 * q + 1)
  pub below : (p : ℕ) → q ≡ p + 1 → (2 * p + 1) * (2 * p + 1) < 4 * n

module _ (n r : ℕ) (l : 2 ^ 104 ≤ n) (h : n ≤ (2 ^ 53 - 1) * 2 ^ 53) (s : Root (4 * n) r) where
  at_least : 2 ^ 53 ≤ r
  at_least =
      le_of_suc-le-suc
      (lt_of_not-le (λ (g : suc r ≤ 2 ^ 53).
      let k : r + 1 ≤ 2 ^ 53 = omega arith in
      let t = s.high in
      let e : (r + 1) * (r + 1) ≤ 2 ^ 53 * 2 ^ 53 = mul-le-mul k k in
      lt_irrefl (4 * n) (lt_of_lt_of_le t (le_trans e (omega arith)))))

  at_most : r < 2 ^ 54 - 1
  at_most =
      lt_of_not-le (λ (g : 2 ^ 54 - 1 ≤ r).
      let e : (2 ^ 54 - 1) * (2 ^ 54 - 1) ≤ r * r = mul-le-mul g g in
      let t : (2 ^ 54 - 1) * (2 ^ 54 - 1) ≤ 4 * n = le_trans e s.low in
      lt_irrefl (4 * n) (lt_of_lt_of_le (omega arith) t))

  near_root : NearRoot n ((r + 1) / 2)
  near_root = record {
    low = omega (arith, at_least);
    high = omega (arith, at_most);
    above = let k : r + 1 ≤ 2 * ((r + 1) / 2) + 1 = omega arith in lt_of_lt_of_le s.high (mul-le-mul k k);
    below = λ p e.
        let k : 2 * p + 1 ≤ r = omega arith in
        let g : (2 * p + 1) * (2 * p + 1) ≤ 4 * n = le_trans (mul-le-mul k k) s.low in
        omega arith;
  }

pub near_is : (n : ℕ) → 2 ^ 104 ≤ n → n ≤ (2 ^ 53 - 1) * 2 ^ 53 → NearRoot n (nearest_root n)
unfolding nearest_root
near_is n l h = near_root n (root_of 54 (4 * n)) l h (root_is 54 (4 * n) (omega arith))

-- ---- doubles of 53 digits: beyond q × 2 ^ j, q of 53 digits, the next is at least 2 ^ j away
module _ (q j m a : ℕ) (l : 2 ^ 52 ≤ q) (h : m < 2 ^ 53) where
  -- z is a multiple of 2 ^ j
  multiple : j ≤ a → m * 2 ^ a ≡ m * 2 ^ (a - j) * 2 ^ j
  multiple g = ap (λ (k : ℕ). m * 2 ^ k) (sym (sub-add_cancel g)) ∙ ap (λ (k : ℕ). m * k) (pow-add 2 (a - j) j) ∙ sym (mul_assoc m (2 ^ (a - j)) (2 ^ j))

  -- or below all doubles of q's exponent
  smaller : a < j → m * 2 ^ a < 2 ^ 52 * 2 ^ j
  smaller g =
      let d : 2 ^ a * 2 ≤ 2 ^ j = le_trans (le_of_eq (sym (pow-suc 2 a))) (pow_mono g) in
      let e : m * 2 ^ a < 2 ^ 53 * 2 ^ a = mul-lt-mul_of_pos_right h (pow_pos a) in
      omega arith

  pub next_above : q * 2 ^ j < m * 2 ^ a → (q + 1) * 2 ^ j ≤ m * 2 ^ a
  next_above g = go (leb j a) (leb→le j a) (nleb→lt j a)
    where
      go : (b : Bool) → (T b → j ≤ a) → (T (not b) → a < j) → (q + 1) * 2 ^ j ≤ m * 2 ^ a
      go true s t =
          let e = multiple (s tt) in
          let k : q < m * 2 ^ (a - j) = lt_of_mul-lt-mul_right (2 ^ j) (lt_of_lt_of_le g (le_of_eq e)) in
          let k' : q + 1 ≤ m * 2 ^ (a - j) = omega arith in
          le_trans (mul-le-mul_right (2 ^ j) k') (le_of_eq (sym e))
      go false s t = absurd (lt_irrefl (q * 2 ^ j) (lt_of_lt_of_le g (le_trans (native.Mathlib.Nat.le_of_lt (smaller (t tt))) (mul-le-mul_right (2 ^ j) l))))

  pub next_below : (p : ℕ) → q ≡ p + 1 → 2 ^ 52 ≤ p → m * 2 ^ a < q * 2 ^ j → m * 2 ^ a ≤ p * 2 ^ j
  next_below p e lp g = go (leb j a) (leb→le j a) (nleb→lt j a)
    where
      go : (b : Bool) → (T b → j ≤ a) → (T (not b) → a < j) → m * 2 ^ a ≤ p * 2 ^ j
      go true s t =
          let f = multiple (s tt) in
          let k : m * 2 ^ (a - j) < q = lt_of_mul-lt-mul_right (2 ^ j) (lt_of_le_of_lt (le_of_eq (sym f)) g) in
          let k' : m * 2 ^ (a - j) ≤ p = omega arith in
          le_trans (le_of_eq f) (mul-le-mul_right (2 ^ j) k')
      go false s t = le_trans (native.Mathlib.Nat.le_of_lt (smaller (t tt))) (mul-le-mul_right (2 ^ j) lp)

-- ---- the middle of two doubles, squared
square_lt : (s w : ℕ) → s < w → s * s < w * w
square_lt s w h = let g : s + 1 ≤ w = omega arith in let e : (s + 1) * (s + 1) ≤ w * w = mul-le-mul g g in omega arith

module _ (n q u z : ℕ) (r : NearRoot n q) (up : 0 < u) where
  pub middle_above : (q + 1) * u ≤ z → 4 * (n * (u * u)) < (q * u + z) * (q * u + z)
  middle_above h =
      let k : (2 * q + 1) * u ≤ q * u + z = omega arith in
      let e : 4 * n * (u * u) < (2 * q + 1) * (2 * q + 1) * (u * u) = mul-lt-mul_of_pos_right r.above (mul-pos up up) in
      let g : (2 * q + 1) * u * ((2 * q + 1) * u) ≤ (q * u + z) * (q * u + z) = mul-le-mul k k in
      lt_of_lt_of_le (lt_of_le_of_lt (le_of_eq (mul_four n (u * u))) e) (le_trans (le_of_eq (squares (2 * q + 1) u)) g)
    where
      mul_four : (n v : ℕ) → 4 * (n * v) ≡ 4 * n * v
      mul_four n v = omega arith

      squares : (a u : ℕ) → a * a * (u * u) ≡ a * u * (a * u)
      squares a u = omega arith

  pub middle_below : (p : ℕ) → q ≡ p + 1 → z ≤ p * u → (q * u + z) * (q * u + z) < 4 * (n * (u * u))
  middle_below p e h =
      let k : q * u + z ≤ (2 * p + 1) * u = rw e (omega arith) in
      let f : (2 * p + 1) * (2 * p + 1) * (u * u) < 4 * n * (u * u) = mul-lt-mul_of_pos_right (r.below p e) (mul-pos up up) in
      lt_of_le_of_lt (le_trans (mul-le-mul k k) (le_of_eq (squares (2 * p + 1) u))) (lt_of_lt_of_le f (le_of_eq (mul_four n (u * u))))
    where
      mul_four : (n v : ℕ) → 4 * n * v ≡ 4 * (n * v)
      mul_four n v = omega arith

      squares : (a u : ℕ) → a * u * (a * u) ≡ a * a * (u * u)
      squares a u = omega arith

  -- where q is the least number of 53 digits, the root is not below it
  pub middle_least : q * q ≤ n → z < q * u → (q * u + z) * (q * u + z) < 4 * (n * (u * u))
  middle_least l h =
      let k : q * u + z < 2 * (q * u) = omega arith in
      lt_of_lt_of_le (square_lt (q * u + z) (2 * (q * u)) k) (le_trans (le_of_eq (squares q u)) (four (mul-le-mul_right (u * u) l)))
    where
      squares : (q u : ℕ) → 2 * (q * u) * (2 * (q * u)) ≡ 4 * (q * q * (u * u))
      squares q u = omega arith

      four : {a b : ℕ} → a ≤ b → 4 * a ≤ 4 * b
      four h = omega arith
