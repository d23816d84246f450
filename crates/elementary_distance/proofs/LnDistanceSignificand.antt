-- ln of a significand m = 1 + t / 2^52: the exact sum `log_of t` of the table's entry and the polynomial has m for its exponential to 3 roundings, is at most 0.7, and the double
-- `ln_significand t` is 26 roundings from it. Assumes nothing.
use mathlib.Core.Path.{◌≡◌, sym, ap, ◌∙◌}
use mathlib.Core.List.{List, [], ◌∷◌}
use mathlib.Core.Logic.{◌⊎◌, inl, inr}
use Prim.Native.Nat.{ℕ, ◌+◌, ◌-◌, ◌*◌, ◌/◌, ◌^◌, ◌≤◌, ◌<◌, zero-le}
use native.Mathlib.Nat.{le_trans, le_of_eq, lt_of_lt_of_le, lt_of_le_of_lt, one-mul, mul-le-mul, mul-le-mul_right, eq-zero-or-pos, div-mul-le_self, lt-div-mul-add, div-lt_iff_lt-mul, le-add_right, pow-succ', pow-zero, sub-add_cancel}
use native.Mathlib.Omega.{arith}
use lib.Dec.{lit≤}
use lib.ListN.{length}
use lib.Pow.{pow_pos}
use lib.Ieee.{Float, binary64, add, sub, div}
use Rattle.numerics.specs.Frac.{Frac, ◌⊑◌, ◌⊞◌, ◌⊠◌, big, small, close_refl}
use Rattle.numerics.specs.Series.{Above, Below, above_more, below_less}
use Rattle.numerics.specs.Law.{above_mul, below_mul}
use Rattle.numerics.specs.Round.{val}
use Rattle.numerics.specs.Tail.{rho, rho_mul, rho⁻}
use Rattle.numerics.specs.Nonneg.{Rel0, Broad, rel0_weaken, rel0_add}
use Rattle.numerics.specs.Poly.{ev}
use Rattle.numerics.specs.Patterns.{one_val}
use Rattle.elementary_ln.specs.Ln.{log_node, significand, ln_ratio, ln_significand}
use Rattle.elementary_distance.proofs.LnDistanceStep.{log_part, log_part_small, log_above, log_below, ratio_of, quotient_of, g7}
use Rattle.elementary_ln.proofs.LnTableGood.{LogEntry, node, entry_log}
use Rattle.elementary_distance.proofs.LnDistancePolynomial.{ratio_log}
use Rattle.elementary_distance.proofs.LnDistanceRatio.{twice_pos, ratio_rel, ratio_least}

-- zero or in range, by the denominator
pub broad_den : (q : Frac) → q.bot ≤ 2 ^ 1021 → q.top ≤ q.bot * 2 ^ 1022 → Broad q
broad_den q h k = go (eq-zero-or-pos q.top)
  where
    go : (q.top ≡ 0) ⊎ (0 < q.top) → Broad q
    go (inl z) = inl z
    go (inr p) = inr (record { least = le_trans h (le_trans (le_of_eq (sym (one-mul (2 ^ 1021)))) (mul-le-mul_right (2 ^ 1021) p)); most = k })

ev_bot : (X : ℕ) (p : List ℕ) (s : Frac) → s.bot ≤ X → (ev p s).bot ≤ X ^ length p
unfolding ev
ev_bot X [] s h = le_of_eq (sym (pow-zero X))
ev_bot X (c ∷ p) s h = le_trans (le_of_eq (one-mul (s.bot * (ev p s).bot))) (le_trans (mul-le-mul h (ev_bot X p s h)) (le_of_eq (sym (pow-succ' X (length p)))))

-- ---- the node below m, and s = (m - c) / (m + c), over 2^52
abbrev place : ℕ → ℕ
place t = t / 2 ^ 45

abbrev lower : ℕ → ℕ
lower t = 2 ^ 52 + place t * 2 ^ 45

lower_least : (t : ℕ) → 2 ^ 52 ≤ lower t
lower_least t = le-add_right (2 ^ 52) (place t * 2 ^ 45)

abbrev gap : ℕ → ℕ
gap t = 2 ^ 52 + t - lower t

abbrev ratio : ℕ → Frac
ratio t = ratio_of (gap t) (2 * lower t) (twice_pos (lower t) (lower_least t))

-- m, and the sum whose exponential it is
abbrev pub m_of : ℕ → Frac
m_of t = record { top = 2 ^ 52 + t; bot = 2 ^ 52; good = pow_pos 52 }

pub log_of : ℕ → Frac
log_of t = val (log_node (place t)) ⊞ log_part (ratio t)

module _ (t : ℕ) (t-few : t < 2 ^ 52) where
  place_few : place t < 128
  place_few = (div-lt_iff_lt-mul (pow_pos 45)).1 (lt_of_lt_of_le t-few (lit≤ tt))

  node_low : place t * 2 ^ 45 ≤ t
  node_low = div-mul-le_self t (2 ^ 45)

  node_high : t < place t * 2 ^ 45 + 2 ^ 45
  node_high = lt-div-mul-add (pow_pos 45)

  order : lower t ≤ 2 ^ 52 + t
  order = omega (arith, node_low)

  m_high : 2 ^ 52 + t < 2 ^ 53
  m_high = omega arith

  few : gap t * 256 ≤ gap t + 2 * lower t
  few = omega (arith, node_high)

  entry : LogEntry (log_node (place t)) (node (place t))
  entry = entry_log (place t) place_few

  -- c (1 + s) / (1 - s) is m
  product_is : (node (place t)).top * (quotient_of (gap t) (2 * lower t) (twice_pos (lower t) (lower_least t))).top * 2 ^ 52 ≡ (2 ^ 52 + t) * (128 * (2 * lower t))
  product_is = level (place t) (2 ^ 45) (gap t) (lower t) (2 ^ 52 + t) (sub-add_cancel order) (spread (place t))
    where
      spread : (i : ℕ) → 2 ^ 52 + i * 2 ^ 45 ≡ (128 + i) * 2 ^ 45
      spread i = omega arith

      level : (i p g C M : ℕ) → g + C ≡ M → C ≡ (128 + i) * p → (128 + i) * (2 * g + 2 * C) * (128 * p) ≡ M * (128 * (2 * C))
      level i p g C M e f = ap (λ (z : ℕ). (128 + i) * z * (128 * p)) (two g C M e) ∙ turn i p M ∙ ap (λ (z : ℕ). M * (128 * (2 * z))) (sym f)
        where
          two : (g C M : ℕ) → g + C ≡ M → 2 * g + 2 * C ≡ 2 * M
          two g C M e = omega arith

          turn : (i p M : ℕ) → (128 + i) * (2 * M) * (128 * p) ≡ M * (128 * (2 * ((128 + i) * p)))
          turn i p M = omega arith

  pub log_of_above : Above (log_of t) (m_of t ⊠ rho 3)
  unfolding log_of
  log_of_above =
      let c = node (place t) in
      let q = quotient_of (gap t) (2 * lower t) (twice_pos (lower t) (lower_least t)) in
      above_more (log_of t) ((c ⊠ rho 1) ⊠ (q ⊠ rho 2)) (m_of t ⊠ rho 3) (turn c q (m_of t) (rho 1) (rho 2) (rho 3) product_is (rho_mul 1 2))
      (above_mul (val (log_node (place t))) (log_part (ratio t)) (c ⊠ rho 1) (q ⊠ rho 2) entry.above (log_above (gap t) (2 * lower t) (twice_pos (lower t) (lower_least t)) few))
    where
      turn : (c q m r s w : Frac) → c.top * q.top * m.bot ≡ m.top * (c.bot * q.bot) → r ⊠ s ⊑ w → (c ⊠ r) ⊠ (q ⊠ s) ⊑ m ⊠ w
      turn c q m r s w e h = spread (c.top * q.top) (c.bot * q.bot) m.top m.bot (r.top * s.top) (r.bot * s.bot) w.top w.bot (c.top * r.top * (q.top * s.top)) (c.bot * r.bot * (q.bot * s.bot)) (omega arith) (omega arith) e h
        where
          spread : (A B m m' R R' w w' X Y : ℕ) → X ≡ A * R → Y ≡ B * R' → A * m' ≡ m * B → R * w' ≤ w * R' → X * (m' * w') ≤ m * w * Y
          spread A B m m' R R' w w' X Y e f k h = rw (e, f) (omega (arith, mul-le-mul_right (m * B) h, ap (λ (z : ℕ). z * (R * w')) k))

  pub log_of_below : Below (log_of t) (m_of t ⊠ rho⁻ 2)
  unfolding log_of
  log_of_below =
      let c = node (place t) in
      let q = quotient_of (gap t) (2 * lower t) (twice_pos (lower t) (lower_least t)) in
      below_less (log_of t) ((c ⊠ rho⁻ 1) ⊠ (q ⊠ rho⁻ 1)) (m_of t ⊠ rho⁻ 2) (turn c q (m_of t) (small ^ 1) (big ^ 1) (small ^ 2) (big ^ 2) product_is squares)
      (below_mul (val (log_node (place t))) (log_part (ratio t)) (c ⊠ rho⁻ 1) (q ⊠ rho⁻ 1) entry.below (log_below (gap t) (2 * lower t) (twice_pos (lower t) (lower_least t)) few))
    where
      squares : small ^ 2 * (big ^ 1 * big ^ 1) ≤ small ^ 1 * small ^ 1 * big ^ 2
      squares = unfold small big in lit≤ tt

      turn : (c q m : Frac) (s b s2 b2 : ℕ) → c.top * q.top * m.bot ≡ m.top * (c.bot * q.bot) → s2 * (b * b) ≤ s * s * b2
          → m.top * s2 * (c.bot * b * (q.bot * b)) ≤ c.top * s * (q.top * s) * (m.bot * b2)
      turn c q m s b s2 b2 e h = spread (c.top * q.top) (c.bot * q.bot) m.top m.bot s b s2 b2 (c.top * s * (q.top * s)) (c.bot * b * (q.bot * b)) (omega arith) (omega arith) e h
        where
          spread : (A B m m' s b s2 b2 X Y : ℕ) → X ≡ A * (s * s) → Y ≡ B * (b * b) → A * m' ≡ m * B → s2 * (b * b) ≤ s * s * b2 → m * s2 * Y ≤ X * (m' * b2)
          spread A B m m' s b s2 b2 X Y e f k h = rw (e, f) (omega (arith, mul-le-mul_right (m * B) h, ap (λ (z : ℕ). z * (s * s * b2)) k))

  -- ---- its size
  part_bot : (log_part (ratio t)).bot ≤ (2 ^ 54) ^ 8 * 105
  part_bot = mul-le-mul_right 105 (ev_bot (2 ^ 54) g7 (ratio t) (bound (2 ^ 52 + t) (lower t) order m_high))
    where
      bound : (M C : ℕ) → C ≤ M → M < 2 ^ 53 → M - C + 2 * C ≤ 2 ^ 54
      bound M C a b = omega arith

  pub log_of_bot : (log_of t).bot ≤ 2 ^ 500
  unfolding log_of
  log_of_bot = le_trans (mul-le-mul entry.short part_bot) (lit≤ tt)

  pub log_of_most : (log_of t).top * 10 ≤ 7 * (log_of t).bot
  unfolding log_of
  log_of_most = both (val (log_node (place t))) (log_part (ratio t)) entry.most (log_part_small (gap t) (2 * lower t) (twice_pos (lower t) (lower_least t)) few)
    where
      both : (p q : Frac) → p.top * 100 ≤ 69 * p.bot → q.top * 100 ≤ 1 * q.bot → (p ⊞ q).top * 10 ≤ 7 * (p ⊞ q).bot
      both p q h k = omega (arith, mul-le-mul_right q.bot h, mul-le-mul_right p.bot k)

  -- ---- the double
  ratio_double : Float
  ratio_double = div binary64 (sub binary64 (significand t) (significand (place t * 2 ^ 45))) (add binary64 (significand t) (significand (place t * 2 ^ 45)))

  part_rel : Rel0 25 (ln_ratio ratio_double) (log_part (ratio t))
  unfolding ratio_double
  part_rel =
      let c-few : place t * 2 ^ 45 < 2 ^ 52 = lt_of_le_of_lt node_low t-few in
      ratio_log ratio_double (ratio t)
      (ratio_rel (significand t) (significand (place t * 2 ^ 45)) (2 ^ 52 + t) (lower t) (one_val t t-few) (one_val (place t * 2 ^ 45) c-few) (lower_least t) order m_high)
      (ratio_least (significand t) (significand (place t * 2 ^ 45)) (2 ^ 52 + t) (lower t) (one_val t t-few) (one_val (place t * 2 ^ 45) c-few) (lower_least t) order m_high)
      (le-add_right (gap t) (2 * lower t))

  pub significand_rel : Rel0 26 (ln_significand t) (log_of t)
  unfolding ln_significand log_of ratio_double
  significand_rel =
      rel0_add 25 (log_node (place t)) (ln_ratio ratio_double) (val (log_node (place t))) (log_part (ratio t))
      (rel0_weaken 0 25 (log_node (place t)) (val (log_node (place t))) zero-le (record { sign = entry.sign; near = close_refl (val (log_node (place t))) })) part_rel (lit≤ tt)
      (broad_den (log_of t) (le_trans log_of_bot (lit≤ tt)) (le_trans (one (log_of t).top (log_of t).bot log_of_most) (native.Mathlib.Nat.le-mul_of_pos_right (log_of t).bot (pow_pos 1022))))
    where
      one : (a b : ℕ) → a * 10 ≤ 7 * b → a ≤ b
      one a b h = omega arith
