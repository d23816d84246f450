-- A middle that is an end leaves no double between the ends. Assumes nothing.
use Rattle.std.specs.Prelude.{◌≡◌, refl, ◌⊎◌, ℕ, zero, suc, ◌+◌, ◌-◌, ◌*◌, ◌^◌, ◌≤◌, ◌<◌, Bool, true, false, not, T, leb, Float}
use Rattle.std.proofs.Common.{sym, ap, ◌∙◌, inl, inr, le_trans, le_antisymm, le_of_lt, lt_of_le_of_lt, mul-one, mul-le-mul_right, le_of_mul-le-mul_right, lt_of_mul-lt-mul_right, not-le_of_lt, le_of_suc-le-suc, add-sub_of_le, pow-suc, arith, leb→le, lit≤, lit<, pow_pos}
use Rattle.std.proofs.Math.Path.{subst}
use Rattle.std.proofs.Math.Dec.{nleb→lt}
use Rattle.std.specs.Float.Ieee.{binary64, round}
use Rattle.std.specs.Float.Ieee.Positive.{num, den, positive}
use Rattle.numerics.specs.Frac.{◌⊑◌, ◌⊞◌, ◌⊠◌, big, small}
use Rattle.numerics.specs.Round.{val}
use Rattle.numerics.specs.Rel.{less, add_is, sub_is, mul_is}
use Rattle.numerics.specs.Common.{On, on_le, le_on, on_less}
use Rattle.numerics.specs.Fixed.{value_le_round, round_le_value}
use Rattle.numerics.specs.Double.{◌⊕◌, ◌⊖◌, ◌⊗◌}
use Rattle.numerics.specs.Middle.{half, middle}
use Rattle.numerics.specs.Spacing.{unit, unit_pos, count, counted, digits_of, Good, shifted}
use Rattle.numerics.specs.SpacingRounded.{rough, Ranged}
use Rattle.numerics.specs.SpacingGrid.{exact, OnGrid, on_grid, multiple}
use Rattle.numerics.specs.MiddleLaws.{more, half_is, ceiling, width_good, width_near, half_good, half_near, half_sum, middle_good, middle_near, middle_from, middle_to}

-- ---- the two contradictions: two multiples of P less than P apart
strictly_between : (K t P : ℕ) → K * P < t * P → t * P < suc K * P → ⊥
strictly_between K t P a b = clash K t (lt_of_mul-lt-mul_right P a) (lt_of_mul-lt-mul_right P b)
  where
    clash : (K t : ℕ) → K < t → t < suc K → ⊥
    clash K t h g = omega arith

-- ---- a narrow bracket's width is a whole number of at most 53 digits, and even
record Even (w : ℕ) : Type 0 where
  digits : ℕ
  shift : ℕ
  small : digits < 2 ^ 53
  is : w ≡ digits * 2 ^ suc shift

-- a double of the range has a shift
deep : (n : ℕ) (q j : ℕ) → unit ≤ n * 2 ^ 10 → q < 2 ^ 53 → n ≡ q * 2 ^ j → (i : ℕ) × (j ≡ suc i)
unfolding unit
deep n q zero l s e = absurd (not-le_of_lt (lt_of_le_of_lt (mul-le-mul_right (2 ^ 10) (le_of_lt (subst (λ (z : ℕ). z < 2 ^ 53) (sym (e ∙ mul-one q)) s))) (lit< tt)) l)
deep n q (suc i) l s e = (i, refl)

-- two multiples of one power of two, the smaller or the larger of at most 53 digits
even_by : (L H j a c : ℕ) → L ≡ a * 2 ^ suc j → H ≡ c * 2 ^ suc j → L < H → (a < 2 ^ 53) ⊎ (c < 2 ^ 53) → (H - L) * 2 ^ 50 ≤ L → Even (H - L)
even_by L H j a c el eh l s h =
    let P = 2 ^ suc j in
    let o : a < c = lt_of_mul-lt-mul_right P (subst (λ (z : ℕ). z < c * P) el (subst (λ (z : ℕ). L < z) eh l)) in
    let e : a + (c - a) ≡ c = add-sub_of_le (le_of_lt o) in
    let w : H - L ≡ (c - a) * P = apart L H (c - a) a c P el eh e in
    let d : c - a ≤ a = shorter (c - a) a P (pow_pos (suc j)) (subst (λ (z : ℕ). (c - a) * P * 2 ^ 50 ≤ z) el (subst (λ (z : ℕ). z * 2 ^ 50 ≤ L) w h)) in
    record { digits = c - a; shift = j; small = elim s [ inl k ↦ lt_of_le_of_lt d k | inr k ↦ lt_of_le_of_lt d (lt_of_le_of_lt (le_of_lt o) k) ]; is = w }
  where
    apart : (L H d a c P : ℕ) → L ≡ a * P → H ≡ c * P → a + d ≡ c → H - L ≡ d * P
    apart L H d a c P el eh e = let f : H ≡ (a + d) * P = eh ∙ ap (λ (z : ℕ). z * P) (sym e) in omega arith

    shorter : (d a P : ℕ) → 0 < P → d * P * 2 ^ 50 ≤ a * P → d ≤ a
    shorter d a P p h = le_of_mul-le-mul_right {k = P} (omega arith) p

even_width : (lo hi : Float) (r : Ranged lo hi) → (count hi - count lo) * 2 ^ 50 ≤ count lo → Even (count hi - count lo)
even_width lo hi r h =
    let a = digits_of lo r.low.above r.low.held in
    let b = digits_of hi r.high.above r.high.held in
    let i = deep (count lo) a.digits a.shift r.least a.small a.is in
    let k = deep (count hi) b.digits b.shift (omega (arith, r.least, r.rises)) b.small b.is in
    go a.digits i.0 b.digits k.0 a.small b.small
    (a.is ∙ ap (λ (z : ℕ). a.digits * 2 ^ z) i.1) (b.is ∙ ap (λ (z : ℕ). b.digits * 2 ^ z) k.1)
  where
    up : (i k : ℕ) → i ≤ k → suc i + (k - i) ≡ suc k
    up i k h = omega arith

    go : (a i c k : ℕ) → a < 2 ^ 53 → c < 2 ^ 53 → count lo ≡ a * 2 ^ suc i → count hi ≡ c * 2 ^ suc k → Even (count hi - count lo)
    go a i c k sa sc el eh = pick (leb i k) (leb→le i k) (nleb→lt i k)
      where
        pick : (t : Bool) → (T t → i ≤ k) → (T (not t) → k < i) → Even (count hi - count lo)
        pick true g l = even_by (count lo) (count hi) i a (c * 2 ^ (k - i)) el (eh ∙ shifted c (suc i) (k - i) (suc k) (up i k (g tt))) r.rises (inl sa) h
        pick false g l = even_by (count lo) (count hi) k (a * 2 ^ (i - k)) c (el ∙ shifted a (suc k) (i - k) (suc i) (up k i (le_of_lt (l tt)))) eh r.rises (inr sc) h

-- ---- a middle that is an end: the bracket is narrow, and half the width is exact
narrow_low : (L R H w m : ℕ) → L < H → R ≤ L → (L + m) * small ≤ R * big → 1 * w * 999999 ≤ 2 * m * 1000000 → (H - L) * 999999 ≤ w * 1000000 → (H - L) * 2 ^ 50 ≤ L
unfolding small big
narrow_low L R H w m l e a b c = finish (H - L) m L (third (H - L) w m b c) (over L R m e a)
  where
    over : (L R m : ℕ) → R ≤ L → (L + m) * 9007199254740991 ≤ R * 9007199254740992 → m * 9007199254740991 ≤ L
    over L R m e a = omega arith

    third : (W w m : ℕ) → 1 * w * 999999 ≤ 2 * m * 1000000 → W * 999999 ≤ w * 1000000 → W ≤ 3 * m
    third W w m b c = omega arith

    finish : (W m L : ℕ) → W ≤ 3 * m → m * 9007199254740991 ≤ L → W * 2 ^ 50 ≤ L
    finish W m L a b = omega arith

narrow_high : (L R H w m : ℕ) → L < H → H ≤ R → R * small ≤ (L + m) * big → 2 * m * 999999 ≤ 1 * w * 1000000 → w * 999999 ≤ (H - L) * 1000000 → (H - L) * 2 ^ 50 ≤ L
unfolding small big
narrow_high L R H w m l e a b c = finish (H - L) m L (half_of (H - L) w m b c) (over L R H m l e a)
  where
    over : (L R H m : ℕ) → L < H → H ≤ R → R * 9007199254740991 ≤ (L + m) * 9007199254740992 → (H - L) * 9007199254740991 ≤ L + m * 9007199254740992
    over L R H m l e a = omega arith

    half_of : (W w m : ℕ) → 2 * m * 999999 ≤ 1 * w * 1000000 → w * 999999 ≤ W * 1000000 → m * 100 ≤ W * 51
    half_of W w m b c = omega arith

    finish : (W m L : ℕ) → m * 100 ≤ W * 51 → W * 9007199254740991 ≤ L + m * 9007199254740992 → W * 2 ^ 50 ≤ L
    finish W m L a b = omega arith

unit_large : 2 ^ 62 ≤ unit
unfolding unit
unit_large = lit≤ tt

-- ---- an end that is the middle is a multiple of P, and so is y, less than P away from it
low_clash : (L H Z R Y K t P : ℕ) → R ≡ L → R ≡ K * P → Y ≡ t * P → 2 * Z ≤ 2 * R + P → Z + Z ≡ L + H → Z < Y → Y < H → ⊥
low_clash L H Z R Y K t P e is ty below c o u =
    strictly_between K t P
    (subst (λ (z : ℕ). z < t * P) is (subst (λ (z : ℕ). R < z) ty (lower L H Z R Y e c o u)))
    (subst (λ (z : ℕ). z < suc K * P) ty (upper L H Z R Y K P e is below c u))
  where
    lower : (L H Z R Y : ℕ) → R ≡ L → Z + Z ≡ L + H → Z < Y → Y < H → R < Y
    lower L H Z R Y e c o u = omega arith

    upper : (L H Z R Y K P : ℕ) → R ≡ L → R ≡ K * P → 2 * Z ≤ 2 * R + P → Z + Z ≡ L + H → Y < H → Y < suc K * P
    upper L H Z R Y K P e is below c u = omega arith

high_floor : (L H Z R Y K P : ℕ) → R ≡ H → R ≡ K * P → 2 * R ≤ 2 * Z + P → 2 ^ 52 * P ≤ Z → Z + Z ≡ L + H → L < Y → L < H → 2 ^ 52 * P ≤ Y
high_floor L H Z R Y zero P e is above normal c o l = absurd (none L H R P e is l)
  where
    none : (L H R P : ℕ) → R ≡ H → R ≡ 0 * P → L < H → ⊥
    none L H R P e is l = omega arith
high_floor L H Z R Y (suc J) P e is above normal c o l =
    le_trans (mul-le-mul_right P (le_of_suc-le-suc (lt_of_mul-lt-mul_right P (below L H Z R J P e is normal c l)))) (under L H Z R Y J P e is above c o)
  where
    below : (L H Z R J P : ℕ) → R ≡ H → R ≡ suc J * P → 2 ^ 52 * P ≤ Z → Z + Z ≡ L + H → L < H → 2 ^ 52 * P < suc J * P
    below L H Z R J P e is normal c l = omega arith

    under : (L H Z R Y J P : ℕ) → R ≡ H → R ≡ suc J * P → 2 * R ≤ 2 * Z + P → Z + Z ≡ L + H → L < Y → J * P ≤ Y
    under L H Z R Y J P e is above c o = omega arith

high_clash : (L H Z R Y K t P : ℕ) → R ≡ H → R ≡ K * P → Y ≡ t * P → 2 * R ≤ 2 * Z + P → Z + Z ≡ L + H → L < Y → Y < Z → ⊥
high_clash L H Z R Y zero t P e is ty above c o u = none L H Z R Y P e is c o u
  where
    none : (L H Z R Y P : ℕ) → R ≡ H → R ≡ 0 * P → Z + Z ≡ L + H → L < Y → Y < Z → ⊥
    none L H Z R Y P e is c o u = omega arith
high_clash L H Z R Y (suc J) t P e is ty above c o u =
    strictly_between J t P (subst (λ (z : ℕ). J * P < z) ty (lower L H Z R Y J P e is above c o)) (subst (λ (z : ℕ). z < suc J * P) ty (upper L H Z R Y J P e is c o u))
  where
    lower : (L H Z R Y J P : ℕ) → R ≡ H → R ≡ suc J * P → 2 * R ≤ 2 * Z + P → Z + Z ≡ L + H → L < Y → J * P < Y
    lower L H Z R Y J P e is above c o = omega arith

    upper : (L H Z R Y J P : ℕ) → R ≡ H → R ≡ suc J * P → Z + Z ≡ L + H → L < Y → Y < Z → Y < suc J * P
    upper L H Z R Y J P e is c o u = omega arith

module _ (lo hi : Float) (r : Ranged lo hi) (narrow : (count hi - count lo) * 2 ^ 50 ≤ count lo) where
  even : Even (count hi - count lo)
  even = even_width lo hi r narrow

  width_pos : 0 < count hi - count lo
  width_pos = omega (arith, r.rises)

  width_exact : count (hi ⊖ lo) ≡ count hi - count lo
  width_exact =
      let e = even in
      let q = less (val hi) (val lo) in
      let o = on_less unit (val hi) (val lo) (count hi) (count lo) (counted hi r.high.above r.high.held) (counted lo r.low.above r.low.held) in
      let order : val lo ⊑ val hi = le_on unit (val lo) (val hi) (count lo) (count hi) unit_pos (counted lo r.low.above r.low.held) (counted hi r.high.above r.high.held) (le_of_lt r.rises) in
      ap count (sub_is binary64 hi lo r.high.above r.low.above order)
      ∙ exact q (count hi - count lo) e.digits (suc e.shift) o e.is e.small (more (count hi - count lo) unit (2 ^ 15) (2 ^ 200) (ceiling lo hi r) (lit≤ tt)) width_pos

  twice : count hi - count lo ≡ 2 * (even.digits * 2 ^ even.shift)
  twice = even.is ∙ ap (λ (z : ℕ). even.digits * z) (pow-suc 2 even.shift) ∙ regroup even.digits (2 ^ even.shift)
    where
      regroup : (a p : ℕ) → a * (p * 2) ≡ 2 * (a * p)
      regroup a p = omega arith

  half_exact : count (half ⊗ (hi ⊖ lo)) ≡ even.digits * 2 ^ even.shift
  half_exact =
      let w = hi ⊖ lo in
      let n = even.digits * 2 ^ even.shift in
      let g = width_good lo hi r in
      let q = val half ⊠ val w in
      let p : T (positive half) = subst (λ (z : Float). T (positive z)) (sym half_is) tt in
      let o : On unit q n = halved (num half) (den half) (num w) (den w) n (count w) unit (ap num half_is) (ap den half_is) (width_exact ∙ twice) (counted w g.above g.held) in
      ap count (mul_is binary64 half w p g.above)
      ∙ exact q n even.digits even.shift o refl even.small (more n unit (2 ^ 15) (2 ^ 200) (omega (arith, twice, ceiling lo hi r)) (lit≤ tt)) (omega (arith, twice, width_pos))
    where
      halved : (a b x y n c u : ℕ) → a ≡ 1 → b ≡ 2 → c ≡ 2 * n → x * u ≡ c * y → a * x * u ≡ n * (b * y)
      halved a b x y n c u ea eb ec e = rw (ea, eb) (let f : x * u ≡ 2 * n * y = e ∙ ap (λ (z : ℕ). z * y) ec in omega arith)

  -- the sum that the middle rounds: exactly halfway
  centre : count lo + count (half ⊗ (hi ⊖ lo)) + (count lo + count (half ⊗ (hi ⊖ lo))) ≡ count lo + count hi
  centre = omega (arith, half_exact, twice, r.rises)

  centre_good : Good (round binary64 false (val lo ⊞ val (half ⊗ (hi ⊖ lo))).top (val lo ⊞ val (half ⊗ (hi ⊖ lo))).bot)
  unfolding middle
  centre_good = subst (λ (z : Float). Good z) (add_is binary64 lo (half ⊗ (hi ⊖ lo)) r.low.above (half_good lo hi r).above) (middle_good lo hi r)

  on : OnGrid (count lo + count (half ⊗ (hi ⊖ lo))) (count (middle lo hi))
  unfolding middle
  on =
      let h = half ⊗ (hi ⊖ lo) in
      let z = val lo ⊞ val h in
      subst (λ (v : Float). OnGrid (count lo + count h) (count v)) (sym (add_is binary64 lo h r.low.above (half_good lo hi r).above))
      (on_grid z (count lo + count h) (half_sum lo hi r) (omega (arith, unit_large, r.least)) centre_good)

  -- a double on the near side of the centre stays on its side of the middle
  near_low : (y : Float) → Good y → count y ≤ count lo + count (half ⊗ (hi ⊖ lo)) → count y ≤ count (middle lo hi)
  unfolding middle
  near_low y g h =
      let m = half ⊗ (hi ⊖ lo) in
      let z = val lo ⊞ val m in
      let e = add_is binary64 lo m r.low.above (half_good lo hi r).above in
      let x = lo ⊕ m in
      on_le unit (val y) (val x) (count y) (count x) (counted y g.above g.held) (counted x (middle_good lo hi r).above (middle_good lo hi r).held)
      (subst (λ (w : Float). val y ⊑ val w) (sym e)
      (value_le_round binary64 y g.above g.held z centre_good.above (le_on unit (val y) z (count y) (count lo + count m) unit_pos (counted y g.above g.held) (half_sum lo hi r) h)))

  near_high : (y : Float) → Good y → count lo + count (half ⊗ (hi ⊖ lo)) ≤ count y → count (middle lo hi) ≤ count y
  unfolding middle
  near_high y g h =
      let m = half ⊗ (hi ⊖ lo) in
      let z = val lo ⊞ val m in
      let e = add_is binary64 lo m r.low.above (half_good lo hi r).above in
      let x = lo ⊕ m in
      on_le unit (val x) (val y) (count x) (count y) (counted x (middle_good lo hi r).above (middle_good lo hi r).held) (counted y g.above g.held)
      (subst (λ (w : Float). val w ⊑ val y) (sym e)
      (round_le_value binary64 y g.above g.held z centre_good.above (le_on unit z (val y) (count lo + count m) (count y) unit_pos (half_sum lo hi r) (counted y g.above g.held) h)))

  -- beyond the centre, the low end being the middle: y is a multiple of the grid's unit, less than one unit above lo
  beyond_low : (y : Float) → Good y → count lo + count (half ⊗ (hi ⊖ lo)) < count y → count y < count hi → count (middle lo hi) ≡ count lo → ⊥
  beyond_low y g o u e =
      let k = on in
      let t = multiple y g k.shift (le_trans k.normal (le_of_lt o)) in
      low_clash (count lo) (count hi) (count lo + count (half ⊗ (hi ⊖ lo))) (count (middle lo hi)) (count y) k.times t.0 (2 ^ k.shift) e k.is t.1 k.below centre o u

  beyond_high : (y : Float) → Good y → count lo < count y → count y < count lo + count (half ⊗ (hi ⊖ lo)) → count (middle lo hi) ≡ count hi → ⊥
  beyond_high y g o u e =
      let k = on in
      let Z = count lo + count (half ⊗ (hi ⊖ lo)) in
      let R = count (middle lo hi) in
      let f = high_floor (count lo) (count hi) Z R (count y) k.times (2 ^ k.shift) e k.is k.above k.normal centre o r.rises in
      let t = multiple y g k.shift f in
      high_clash (count lo) (count hi) Z R (count y) k.times t.0 (2 ^ k.shift) e k.is t.1 k.above centre o u

  none_between : (y : Float) → Good y → count lo < count y → count y < count hi → (count (middle lo hi) ≤ count lo) ⊎ (count hi ≤ count (middle lo hi)) → ⊥
  none_between y g o u (inl h) = go (leb (count y) (count lo + count (half ⊗ (hi ⊖ lo)))) (leb→le (count y) (count lo + count (half ⊗ (hi ⊖ lo)))) (nleb→lt (count y) (count lo + count (half ⊗ (hi ⊖ lo))))
    where
      go : (b : Bool) → (T b → count y ≤ count lo + count (half ⊗ (hi ⊖ lo))) → (T (not b) → count lo + count (half ⊗ (hi ⊖ lo)) < count y) → ⊥
      go true p q = not-le_of_lt o (le_trans (near_low y g (p tt)) h)
      go false p q = beyond_low y g (q tt) u (le_antisymm h (middle_from lo hi r))
  none_between y g o u (inr h) = go (leb (count lo + count (half ⊗ (hi ⊖ lo))) (count y)) (leb→le (count lo + count (half ⊗ (hi ⊖ lo))) (count y)) (nleb→lt (count lo + count (half ⊗ (hi ⊖ lo))) (count y))
    where
      go : (b : Bool) → (T b → count lo + count (half ⊗ (hi ⊖ lo)) ≤ count y) → (T (not b) → count y < count lo + count (half ⊗ (hi ⊖ lo))) → ⊥
      go true p q = not-le_of_lt u (le_trans h (near_high y g (p tt)))
      go false p q = beyond_high y g o (q tt) (le_antisymm (middle_to lo hi r) h)

pub no_double_between : (lo hi : Float) → Ranged lo hi → (count (middle lo hi) ≤ count lo) ⊎ (count hi ≤ count (middle lo hi)) → (y : Float) → Good y → count lo < count y → count y < count hi → ⊥
no_double_between lo hi r (inl h) y g o u =
    let w = count (hi ⊖ lo) in
    let m = count (half ⊗ (hi ⊖ lo)) in
    let n =
    narrow_low (count lo) (count (middle lo hi)) (count hi) w m r.rises h (middle_near lo hi r).below (rough (1 * w) (2 * m) (half_near lo hi r).below) (rough (count hi - count lo) w (width_near lo hi r).below) in
    none_between lo hi r n y g o u (inl h)
no_double_between lo hi r (inr h) y g o u =
    let w = count (hi ⊖ lo) in
    let m = count (half ⊗ (hi ⊖ lo)) in
    let n =
    narrow_high (count lo) (count (middle lo hi)) (count hi) w m r.rises h (middle_near lo hi r).above (rough (2 * m) (1 * w) (half_near lo hi r).above) (rough w (count hi - count lo) (width_near lo hi r).above) in
    none_between lo hi r n y g o u (inr h)
