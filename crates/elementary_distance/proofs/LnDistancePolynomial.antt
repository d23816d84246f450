-- The polynomial of ln in binary64: `ln_ratio` at a double two roundings from s is 25 roundings from 2 s + 2 s^3 / 3 + 2 s^5 / 5 + 2 s^7 / 7. Assumes nothing.
use mathlib.Core.Path.{◌≡◌, ap, ◌∙◌}
use mathlib.Core.Logic.{◌⊎◌, inl, inr}
use Prim.Native.Nat.{ℕ, ◌+◌, ◌*◌, ◌^◌, ◌≤◌, ◌<◌}
use native.Mathlib.Nat.{le_refl, le_trans, le_of_eq, zero-mul, mul-le-mul, mul-le-mul_right, mul-le-mul_left}
use native.Mathlib.Omega.{arith}
use lib.Dec.{lit≤}
use lib.Ieee.{Float, binary64, add, mul}
use Rattle.numerics.specs.Double.{two}
use Rattle.numerics.specs.Frac.{Frac, ◌⊞◌, ◌⊠◌, nat, close_same}
use Rattle.numerics.specs.Nonneg.{Rel0, rel0_of_rel, Broad, rel0_weaken, rel0_trans, rel0_mul, rel0_add}
use Rattle.numerics.specs.Poly.{ev}
use Rattle.numerics.specs.Ring.{Poly, con, ◌⊕◌, ◌⊗◌, equal, ring₂}
use Rattle.elementary_ln.specs.Ln.{two_thirds, two_fifths, two_sevenths, ln_ratio}
use Rattle.elementary_ln.proofs.LnConstants.{third, fifth, seventh, third_rel, fifth_rel, seventh_rel, two_rel}
use Rattle.elementary_distance.proofs.LnDistanceStep.{log_part}

infixl 6 ◌+'◌
infixl 7 ◌*'◌
-- ---- the odd polynomial
abbrev odd_exact : Frac → Frac
odd_exact s = s ⊠ (nat 2 ⊞ s ⊠ s ⊠ (third ⊞ s ⊠ s ⊠ (fifth ⊞ s ⊠ s ⊠ seventh)))

-- fractions of polynomials, as the operations on fractions build them
record Quot : Type 0 where
  n : Poly
  d : Poly

abbrev ◌+'◌ : Quot → Quot → Quot
p +' q = record { n = p.n ⊗ q.d ⊕ q.n ⊗ p.d; d = p.d ⊗ q.d }

abbrev ◌*'◌ : Quot → Quot → Quot
p *' q = record { n = p.n ⊗ q.n; d = p.d ⊗ q.d }

abbrev over' : ℕ → ℕ → Quot
over' a b = record { n = con a; d = con b }

abbrev odd_poly' : Quot → Quot
odd_poly' s = s *' (over' 2 1 +' ((s *' s) *' (over' 2 3 +' ((s *' s) *' (over' 2 5 +' ((s *' s) *' over' 2 7))))))

abbrev next' : Quot → ℕ → Quot → Quot
next' s c q = over' c 1 +' (s *' q)

abbrev log_poly' : Quot → Quot
log_poly' s = next' s 0 (next' s 210 (next' s 0 (next' s 70 (next' s 0 (next' s 42 (next' s 0 (next' s 30 (over' 0 1)))))))) *' over' 1 105

-- the same fraction as `log_part`
odd_same : (s : Frac) → (odd_exact s).top * (log_part s).bot ≡ (log_part s).top * (odd_exact s).bot
unfolding ev equal
odd_same s = ring₂ (λ a b. (odd_poly' (record { n = a; d = b })).n ⊗ (log_poly' (record { n = a; d = b })).d) (λ a b. (log_poly' (record { n = a; d = b })).n ⊗ (odd_poly' (record { n = a; d = b })).d) tt s.top s.bot

-- ---- in binary64, for s up to 1/256
-- zero, or between 2 ^ -500 and 2 ^ 500
broad : (q : Frac) → (q.top ≡ 0) ⊎ (q.bot ≤ q.top * 2 ^ 500) → q.top ≤ q.bot * 2 ^ 500 → Broad q
broad q (inl z) h = inl z
broad q (inr l) h = inr (record { least = le_trans l (mul-le-mul_left q.top (lit≤ tt)); most = le_trans h (mul-le-mul_left q.bot (lit≤ tt)) })

-- between 1/8 and h
record Mid (h : ℕ) (q : Frac) : Type 0 where
  some : q.bot ≤ q.top * 8
  few : q.top ≤ q.bot * h

mid_broad : (h : ℕ) (q : Frac) → h ≤ 8 → Mid h q → Broad q
mid_broad h q l m = broad q (inr (le_trans m.some (mul-le-mul_left q.top (lit≤ tt)))) (le_trans m.few (mul-le-mul_left q.bot (le_trans l (lit≤ tt))))

-- 2 / j + z * q
mid_step : (j h : ℕ) (J : 0 < j) (z q : Frac) → j ≤ 16 → z.top ≤ z.bot → q.top ≤ q.bot * h → Mid (2 + h) (record { top = 2; bot = j; good = J } ⊞ z ⊠ q)
mid_step j h J z q l a b = record {
  some = low (z.bot * q.bot) (z.top * q.top) j l;
  few = high z.top z.bot q.top q.bot j h J a b;
}
  where
    low : (B X j : ℕ) → j ≤ 16 → j * B ≤ (2 * B + X * j) * 8
    low B X j l = omega (arith, mul-le-mul_right B l)

    high : (A B N D j h : ℕ) → 0 < j → A ≤ B → N ≤ D * h → 2 * (B * D) + A * N * j ≤ j * (B * D) * (2 + h)
    high A B N D j h P a b = omega (arith, mul-le-mul_right j (mul-le-mul a b), mul-le-mul_right (2 * (B * D)) P)

-- z * q for a z that is zero or not tiny
broad_step : (h : ℕ) (z q : Frac) → h ≤ 8 → (z.top ≡ 0) ⊎ (z.bot ≤ z.top * 2 ^ 200) → z.top ≤ z.bot → Mid h q → Broad (z ⊠ q)
broad_step h z q l c a m = broad (z ⊠ q) (go c) (high z.top z.bot q.top q.bot h l a m.few)
  where
    go : (z.top ≡ 0) ⊎ (z.bot ≤ z.top * 2 ^ 200) → ((z ⊠ q).top ≡ 0) ⊎ ((z ⊠ q).bot ≤ (z ⊠ q).top * 2 ^ 500)
    go (inl e) = inl (ap (λ (t : ℕ). t * q.top) e ∙ zero-mul q.top)
    go (inr k) = inr (low z.top z.bot q.top q.bot (2 ^ 200) (2 ^ 500) (lit≤ tt) k m.some)
      where
        low : (A B N D M L : ℕ) → 8 * M ≤ L → B ≤ A * M → D ≤ N * 8 → B * D ≤ A * N * L
        low A B N D M L l a b = le_trans (mul-le-mul a b) (le_trans (le_of_eq (turn A M N)) (mul-le-mul_left (A * N) l))
          where
            turn : (A M N : ℕ) → A * M * (N * 8) ≡ A * N * (8 * M)
            turn A M N = omega arith

    high : (A B N D h : ℕ) → h ≤ 8 → A ≤ B → N ≤ D * h → A * N ≤ B * D * 2 ^ 500
    high A B N D h l a b = le_trans (mul-le-mul a b) (le_trans (le_of_eq (turn B D h)) (mul-le-mul_left (B * D) (le_trans l (lit≤ tt))))
      where
        turn : (B D h : ℕ) → B * (D * h) ≡ B * D * h
        turn B D h = omega arith

module _ (v : Float) (s : Frac) (r : Rel0 2 v s) (least : (s.top ≡ 0) ⊎ (s.bot ≤ s.top * 2 ^ 100)) (most : s.top ≤ s.bot) where
  zz : Frac
  zz = s ⊠ s

  zz_least : (zz.top ≡ 0) ⊎ (zz.bot ≤ zz.top * 2 ^ 200)
  unfolding zz
  zz_least = go least
    where
      go : (s.top ≡ 0) ⊎ (s.bot ≤ s.top * 2 ^ 100) → (s.top * s.top ≡ 0) ⊎ (s.bot * s.bot ≤ s.top * s.top * 2 ^ 200)
      go (inl e) = inl (ap (λ (t : ℕ). t * s.top) e ∙ zero-mul s.top)
      go (inr k) = inr (le_trans (mul-le-mul k k) (le_of_eq (turn s.top (2 ^ 100))))
        where
          turn : (a m : ℕ) → a * m * (a * m) ≡ a * a * (m * m)
          turn a m = omega arith

  zz_most : zz.top ≤ zz.bot
  unfolding zz
  zz_most = mul-le-mul most most

  z_rel : Rel0 5 (mul binary64 v v) zz
  unfolding zz
  z_rel = rel0_mul 2 2 v v s s r r (lit≤ tt) (broad (s ⊠ s) (wide zz_least) (le_trans zz_most (native.Mathlib.Nat.le-mul_of_pos_right (s.bot * s.bot) (lit≤ tt))))
    where
      wide : (s.top * s.top ≡ 0) ⊎ (s.bot * s.bot ≤ s.top * s.top * 2 ^ 200) → (s.top * s.top ≡ 0) ⊎ (s.bot * s.bot ≤ s.top * s.top * 2 ^ 500)
      wide (inl e) = inl e
      wide (inr k) = inr (le_trans k (mul-le-mul_left (s.top * s.top) (lit≤ tt)))

  q5 : Frac
  q5 = fifth ⊞ zz ⊠ seventh

  q3 : Frac
  unfolding q5
  q3 = third ⊞ zz ⊠ q5

  q2 : Frac
  unfolding q3
  q2 = nat 2 ⊞ zz ⊠ q3

  m5 : Mid 3 q5
  unfolding q5
  m5 = mid_step 5 1 (lit≤ tt) zz seventh (lit≤ tt) zz_most (lit≤ tt)

  m3 : Mid 5 q3
  unfolding q3
  m3 = mid_step 3 3 (lit≤ tt) zz q5 (lit≤ tt) zz_most m5.few

  m2 : Mid 7 q2
  unfolding q2
  m2 = mid_step 1 5 (le_refl 1) zz q3 (lit≤ tt) zz_most m3.few

  r5 : Rel0 8 (add binary64 two_fifths (mul binary64 (mul binary64 v v) two_sevenths)) q5
  unfolding q5
  r5 = rel0_add 7 two_fifths (mul binary64 (mul binary64 v v) two_sevenths) fifth (zz ⊠ seventh) (rel0_weaken 1 7 two_fifths fifth (lit≤ tt) (rel0_of_rel 1 two_fifths fifth fifth_rel))
      (rel0_mul 5 1 (mul binary64 v v) two_sevenths zz seventh z_rel (rel0_of_rel 1 two_sevenths seventh seventh_rel) (lit≤ tt) (broad_step 1 zz seventh (lit≤ tt) zz_least zz_most (record { some = lit≤ tt; few = lit≤ tt })))
      (lit≤ tt) (mid_broad 3 (fifth ⊞ zz ⊠ seventh) (lit≤ tt) m5)

  r3 : Rel0 15 (add binary64 two_thirds (mul binary64 (mul binary64 v v) (add binary64 two_fifths (mul binary64 (mul binary64 v v) two_sevenths)))) q3
  unfolding q3
  r3 =
      let w = add binary64 two_fifths (mul binary64 (mul binary64 v v) two_sevenths) in
      rel0_add 14 two_thirds (mul binary64 (mul binary64 v v) w) third (zz ⊠ q5) (rel0_weaken 1 14 two_thirds third (lit≤ tt) (rel0_of_rel 1 two_thirds third third_rel))
      (rel0_mul 5 8 (mul binary64 v v) w zz q5 z_rel r5 (lit≤ tt) (broad_step 3 zz q5 (lit≤ tt) zz_least zz_most m5)) (lit≤ tt) (mid_broad 5 (third ⊞ zz ⊠ q5) (lit≤ tt) m3)

  r2 : Rel0 22 (add binary64 two (mul binary64 (mul binary64 v v) (add binary64 two_thirds (mul binary64 (mul binary64 v v) (add binary64 two_fifths (mul binary64 (mul binary64 v v) two_sevenths)))))) q2
  unfolding q2
  r2 =
      let w = add binary64 two_thirds (mul binary64 (mul binary64 v v) (add binary64 two_fifths (mul binary64 (mul binary64 v v) two_sevenths))) in
      rel0_add 21 two (mul binary64 (mul binary64 v v) w) (nat 2) (zz ⊠ q3) (rel0_weaken 1 21 two (nat 2) (lit≤ tt) (rel0_of_rel 1 two (nat 2) two_rel))
      (rel0_mul 5 15 (mul binary64 v v) w zz q3 z_rel r3 (lit≤ tt) (broad_step 5 zz q3 (lit≤ tt) zz_least zz_most m3)) (lit≤ tt) (mid_broad 7 (nat 2 ⊞ zz ⊠ q3) (lit≤ tt) m2)

  pub ratio_log : Rel0 25 (ln_ratio v) (log_part s)
  unfolding ln_ratio q2 q3 q5 zz
  ratio_log =
      rel0_trans 25 0 (ln_ratio v) (s ⊠ q2) (log_part s)
      (rel0_mul 2 22 v (add binary64 two (mul binary64 (mul binary64 v v) (add binary64 two_thirds (mul binary64 (mul binary64 v v) (add binary64 two_fifths (mul binary64 (mul binary64 v v) two_sevenths)))))) s q2 r r2 (lit≤ tt) (broad_step 7 s q2 (lit≤ tt) (wide least) most m2))
      (close_same (s ⊠ q2) (log_part s) (odd_same s))
    where
      wide : (s.top ≡ 0) ⊎ (s.bot ≤ s.top * 2 ^ 100) → (s.top ≡ 0) ⊎ (s.bot ≤ s.top * 2 ^ 200)
      wide (inl e) = inl e
      wide (inr k) = inr (le_trans k (mul-le-mul_left s.top (lit≤ tt)))
