-- A search makes at most 56 trials: 53 that halve the width, and 3 that each take a gap between doubles from what is left. Assumes nothing.
use mathlib.Core.Path.{◌≡◌, refl, subst}
use mathlib.Core.Bool.{Bool, true, false}
use mathlib.Core.List.{[]}
use Prim.Native.Nat.{ℕ, zero, suc, ◌+◌, ◌-◌, ◌*◌, ◌^◌, ◌≤◌, ◌<◌, zero-le, suc-le-suc}
use native.Mathlib.Nat.{le_trans, pow-suc}
use native.Mathlib.Omega.{arith}
use lib.Ieee.{Float}
use lib.ListN.{length}
use Rattle.std.specs.Prelude.{Ok, Err}
use Rattle.numerics.specs.Frac.{big}
use Rattle.numerics.specs.Double.{pick}
use Rattle.numerics.specs.Spacing.{unit, unit_pos, count}
use Rattle.gerg_saturation.specs.Answer.{Tried}
use Rattle.interval.specs.Interval.{middle_of, narrowed_of, on_end}
use Rattle.gerg_saturation.specs.Halvings.{between_of, onward, encloses, trials_from, trials_of}
use Rattle.interval.specs.declared.Interval.{Interval}
use Rattle.gerg_saturation.specs.declared.Verdict.TheVariants.{Accepted, Apart}
use Rattle.gerg_saturation.proofs.Laws.Halved.{Within, width, inside, outside, wide, Halved, halved}

-- ---- numbers: a is the width before a trial and c the one after it, in parts of 2 ^ -53 of u
none_left : (a u : ℕ) → 460 * u ≤ a → a < (460 + 230 * 0) * u → ⊥
none_left a u h l = omega arith

few_left : (a c u i : ℕ) → c + 230 * u ≤ a → a < (460 + 230 * suc i) * u → c < (460 + 230 * i) * u
few_left a c u i h l = omega arith

half_left : (a c u p : ℕ) → 2 * c ≤ a + 943 * u → a < (943 + 207 * (p * 2)) * u → c < (943 + 207 * p) * u
half_left a c u p h l = omega arith

start : (l h u : ℕ) → 0 < u → 230 * u ≤ l → h ≤ 350 * u → (h - l) * big < (943 + 207 * 2 ^ 53) * u
unfolding big
start l h u p a b = omega arith

module _ (v : Float → Tried) where
  -- ---- what follows the middle
  rest_none : (n : ℕ) (b : Interval) (w : Tried) → on_end b (middle_of b) ≡ true → length (onward b (middle_of b) w (λ c. trials_from v n c) []) ≤ 0
  unfolding onward
  rest_none n b (Ok (Accepted s)) e = zero-le
  rest_none n b (Ok (Apart d)) e = rw e zero-le
  rest_none n b (Err r) e = zero-le

  rest_few : (n k : ℕ) (b : Interval) (w : Tried) → ((d : Float) → length (trials_from v n (narrowed_of b (middle_of b) d)) ≤ k) → length (onward b (middle_of b) w (λ c. trials_from v n c) []) ≤ k
  unfolding onward
  rest_few n k b (Ok (Accepted s)) h = zero-le
  rest_few n k b (Ok (Apart d)) h = go (on_end b (middle_of b))
    where
      go : (q : Bool) → length (pick q [] (trials_from v n (narrowed_of b (middle_of b) d))) ≤ k
      go true = zero-le
      go false = h d
  rest_few n k b (Err r) h = zero-le

  -- ---- one halving
  no_trial : (n : ℕ) (b : Interval) → Within b.lo b.hi → between_of b (middle_of b) ≡ false → length (trials_from v (suc n) b) ≤ 0
  unfolding trials_from
  no_trial n b w e = rw e (rest_none n b (v (middle_of b)) (outside b w e))

  one_more : (n k : ℕ) (b : Interval) (w : Within b.lo b.hi) → between_of b (middle_of b) ≡ true → ((c : Interval) → Halved b c → length (trials_from v n c) ≤ k) → length (trials_from v (suc n) b) ≤ suc k
  unfolding trials_from
  one_more n k b w e h = rw e (suc-le-suc (rest_few n k b (v (middle_of b)) (λ d. h (narrowed_of b (middle_of b) d) (halved b w (inside b w e) d))))

  -- ---- by gaps
  few_trials : (n i : ℕ) (b : Interval) → Within b.lo b.hi → width b * big < (460 + 230 * i) * unit → length (trials_from v n b) ≤ i
  few_trials zero i b w h = unfold trials_from in zero-le
  few_trials (suc n) i b w h = go (between_of b (middle_of b)) refl i h (λ j c g. few_trials n j c g)
    where
      go : (q : Bool) → between_of b (middle_of b) ≡ q → (i : ℕ) → width b * big < (460 + 230 * i) * unit → ((j : ℕ) (c : Interval) → Within c.lo c.hi → width c * big < (460 + 230 * j) * unit → length (trials_from v n c) ≤ j) → length (trials_from v (suc n) b) ≤ i
      go false e i h again = le_trans (no_trial n b w e) zero-le
      go true e zero h again = absurd (none_left (width b * big) unit (wide b w (inside b w e)) h)
      go true e (suc i) h again = one_more n i b w e (λ c g. again i c g.within (few_left (width b * big) (width c * big) unit i g.less h))

  -- ---- by halves
  many_trials : (n k : ℕ) (b : Interval) → Within b.lo b.hi → width b * big < (943 + 207 * 2 ^ k) * unit → length (trials_from v n b) ≤ k + 3
  many_trials zero k b w h = unfold trials_from in zero-le
  many_trials (suc n) zero b w h = few_trials (suc n) 3 b w h
  many_trials (suc n) (suc k) b w h = go (between_of b (middle_of b)) refl (λ c g. many_trials n k c g)
    where
      go : (q : Bool) → between_of b (middle_of b) ≡ q → ((c : Interval) → Within c.lo c.hi → width c * big < (943 + 207 * 2 ^ k) * unit → length (trials_from v n c) ≤ k + 3) → length (trials_from v (suc n) b) ≤ suc k + 3
      go false e again = le_trans (no_trial n b w e) zero-le
      go true e again =
          let x =
          one_more n (k + 3) b w e
          (λ c g. again c g.within (half_left (width b * big) (width c * big) unit (2 ^ k) g.half_of (subst (λ (z : ℕ). width b * big < (943 + 207 * z) * unit) (pow-suc 2 k) h))) in
          omega (arith, x)

  pub bounded : (n : ℕ) (b : Interval) → Within b.lo b.hi → length (trials_from v n b) ≤ 56
  bounded n b w = many_trials n 53 b w (start (count b.lo) (count b.hi) unit unit_pos w.least w.most)

  -- the trials of a search: none where the ends do not enclose
  pub few_of : (n : ℕ) (b : Interval) → (encloses (v b.lo) (v b.hi) ≡ true → Within b.lo b.hi) → length (trials_of v n b) ≤ 56
  unfolding trials_of
  few_of n b w = go (encloses (v b.lo) (v b.hi)) refl
    where
      go : (q : Bool) → encloses (v b.lo) (v b.hi) ≡ q → length (pick q (trials_from v n b) []) ≤ 56
      go true e = bounded n b (w e)
      go false e = zero-le
