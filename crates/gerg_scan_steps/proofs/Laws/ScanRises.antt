-- The roots of a scan rise, whatever the samples are. Assumes nothing.
use mathlib.Core.Path.{◌≡◌, refl, sym, ap, ◌∙◌, subst}
use mathlib.Core.Bool.{Bool, true, false, ◌&&◌, true≢false}
use mathlib.Core.List.{List, [], ◌∷◌, ◌++◌}
use Prim.Native.Nat.{ℕ, suc, ◌+◌, ◌-◌, ◌≤◌, ◌<◌}
use native.Mathlib.Nat.{le_trans, le_of_lt}
use native.Mathlib.Omega.{arith}
use borrow.Author.Tests.{ne_eqb}
use lib.Dec.{T, eqb}
use lib.Ieee.{Float, nan, lt, le, of_bits}
use lib.Ieee.Positive.{positive}
use lib.ListN.{length, get_or}
use Rattle.std.specs.Prelude.{Result, Ok, Err, IfOk, MatchResult}
use Rattle.std.proofs.lemmas.Result.{IfOk-weaker, MatchResult-weaker}
use Rattle.numerics.specs.Double.{◌⊖◌, ◌⊗◌, bits, +0, pick}
use Rattle.numerics.specs.Iterate.{range}
use Rattle.numerics.specs.Spacing.{count, Good, same}
use Rattle.numerics.specs.SpacingRounded.{Ranged}
use Rattle.gerg_scan_steps.specs.Halving.{size_of, tolerance_of, crossing_of}
use Rattle.gerg_refusals.specs.declared.Refusal.{Refusal}
use Rattle.gerg_scan_steps.specs.Answers.{mapped}
use Rattle.gerg_scan_steps.specs.Left.{later_or, left_by, before, seen_left, step_left, scan_left}
use Rattle.gerg_scan_steps.specs.Sample.{Sample}
use Rattle.gerg_scan_steps.specs.Scan.{begun_at, noted_of, rootless, changed, densities, apart, grown, rooted_of, moved_of, crossed_of, seen_of, scan_step, scan_of}
use Rattle.gerg_scan_steps.specs.declared.Halving.{Halving}
use Rattle.gerg_scan_steps.specs.declared.Point.{Point}
use Rattle.gerg_scan_steps.specs.declared.Scan.{Scan}
use Rattle.gerg_scan_steps.specs.declared.Scanned.{Scanned}
use Rattle.gerg_scan_steps.proofs.Laws.Answers.{steps_keep, left_keeps, match_ok}
use Rattle.gerg_grid.proofs.Laws.Rising.{Density, Rising, rising_none, rising_more, last, last_more, strictly}
use Rattle.gerg_scan_steps.proofs.Laws.HalvingStays.{Between, crossing_between}
use Rattle.numerics.specs.ZeroDifference.{Zero, product_sign, not_under, difference_zero, zero_zero, zero_sign}

-- ---- a density is not farther than 1e-8 of itself from itself
size_zero : (z : Float) → Zero z → size_of z ≡ z
unfolding size_of
size_zero z q = rw (not_under z +0 (zero_sign z q) zero_zero)

same_not_apart : (x : Float) → T (positive x) → lt (bits 0x3e45_798e_e230_8c3a ⊗ x) (size_of (x ⊖ x)) ≡ false
same_not_apart x p =
    let z = difference_zero x p in
    rw (size_zero (x ⊖ x) z) (not_under (bits 0x3e45_798e_e230_8c3a ⊗ x) (x ⊖ x) (product_sign (bits 0x3e45_798e_e230_8c3a) x (unfold of_bits in tt) p) z)

-- ---- what a scan keeps: its roots rise, and none is above c
record Keeps (l : List Float) (c : ℕ) : Type 0 where
  rises : Rising l
  upto : 0 < length l → count (last l) ≤ c

wider : (l : List Float) (b c : ℕ) → b ≤ c → Keeps l b → Keeps l c
wider l b c h k = record { rises = k.rises; upto = λ p. le_trans (k.upto p) h }

-- a root that joins is not the last one
other : (l : List Float) (x : Float) → Rising l → Good x → apart x l ≡ true → 0 < length l → count (last l) ≡ count x → ⊥
unfolding apart
other l x r d a p e =
    let g = (r.each (length l - 1) (omega arith)).good in
    let i : last l ≡ x = same (last l) x g d e in
    let z : eqb (length l) 0 ≡ false = ne_eqb (length l) 0 (λ q. none l p q) in
    let t : lt (bits 0x3e45_798e_e230_8c3a ⊗ x) (size_of (x ⊖ last l)) ≡ true = rw z at a in
    true≢false (sym (rw i at t) ∙ same_not_apart x d.above)
  where
    none : (l : List Float) → 0 < length l → length l ≡ 0 → ⊥
    none l p q = omega arith

joins : (l : List Float) (x : Float) (b c : ℕ) → Keeps l b → Density x → b ≤ count x → count x ≤ c → apart x l ≡ true → Keeps (l ++ (x ∷ [])) c
joins l x b c k d f t a = record {
  rises = rising_more l x k.rises d (λ p. strictly (last l) x (le_trans (k.upto p) f) (other l x k.rises d.good a p));
  upto = λ p. subst (λ (z : Float). count z ≤ c) (sym (last_more l x)) t;
}

densities_more : (l : List Point) (p : Point) → densities (l ++ (p ∷ [])) ≡ densities l ++ (p.density ∷ [])
densities_more [] p = refl
densities_more (x ∷ l) p = ap (λ (z : List Float). x.density ∷ z) (densities_more l p)

-- ---- a crossing's best point joins, or the roots stay as they are
rooted_keeps : (h : Halving) (s : Scanned) (c : ℕ) → Keeps (densities s.roots.items) (count s.scan.previous) → Density h.best.density → count s.scan.previous ≤ count h.best.density → count h.best.density ≤ c → Keeps (densities (rooted_of h s).roots.items) c
unfolding rooted_of
rooted_keeps h s c k d f t = go (apart h.best.density (densities s.roots.items)) refl
  where
    go : (b : Bool) → apart h.best.density (densities s.roots.items) ≡ b → Keeps (densities (pick b (grown h.best s) s).roots.items) c
    go true e = rw (densities_more s.roots.items h.best) (joins (densities s.roots.items) h.best.density (count s.scan.previous) c k d f t e)
    go false e = wider (densities s.roots.items) (count s.scan.previous) c (le_trans f t) k

ranged_of : (a b : Float) → Density a → Density b → count a < count b → Ranged a b
ranged_of a b d e h = record { low = d.good; high = e.good; rises = h; least = d.least; most = e.most }

crossed_keeps :
    (v : Float → Sample) (target current right : Float) (s : Scanned) → Keeps (densities s.roots.items) (count s.scan.previous) → Density s.scan.previous → Density current → count s.scan.previous < count current →
    IfOk (crossed_of v target current right s) (λ r. Keeps (densities r.roots.items) (count current))
unfolding crossed_of
crossed_keeps v target current right s k p d h =
    go (le s.scan.left +0 && le +0 right) (crossing_of v (tolerance_of target) s.scan.previous current) (crossing_between v (tolerance_of target) s.scan.previous current (ranged_of s.scan.previous current p d h))
  where
    go : (t : Bool) (c : Result Halving Refusal) → IfOk c (λ h. Between s.scan.previous current h.best.density) → IfOk (pick t (mapped (λ h. rooted_of h s) c) (Ok s)) (λ r. Keeps (densities r.roots.items) (count current))
    go true (Ok g) b = rooted_keeps g s (count current) k (record { good = b.good; least = omega (arith, p.least, b.from); most = le_trans b.to d.most }) b.from b.to
    go true (Err r) b = tt
    go false c b = wider (densities s.roots.items) (count s.scan.previous) (count current) (le_of_lt h) k

-- ---- a step of the scan at the grid point i
module _ (v : Float → Sample) (target : Float) (grid : List Float) (g : Rising grid) where
  record Scanning (i : ℕ) (s : Scanned) : Type 0 where
    keeps : Keeps (densities s.roots.items) (count s.scan.previous)
    dense : Density s.scan.previous
    under : (j : ℕ) → i < j → j < length grid → count s.scan.previous < count (get_or grid j nan)

  seen : (i : ℕ) (s : Scanned) (z : Sample) → suc i < length grid → Scanning i s → IfOk (seen_of v target (get_or grid (suc i) nan) s z) (Scanning (suc i))
  unfolding seen_of moved_of noted_of
  seen i s (Err r) h k = tt
  seen i s (Ok (right, stiffness)) h k =
      go (crossed_of v target (get_or grid (suc i) nan) right (changed (noted_of (get_or grid (suc i) nan) stiffness) s))
      (crossed_keeps v target (get_or grid (suc i) nan) right (changed (noted_of (get_or grid (suc i) nan) stiffness) s) k.keeps k.dense (g.each (suc i) h) (k.under (suc i) (omega arith) h))
    where
      go : (c : Result Scanned Refusal) → IfOk c (λ r. Keeps (densities r.roots.items) (count (get_or grid (suc i) nan))) → IfOk (mapped (changed (moved_of (get_or grid (suc i) nan) right)) c) (Scanning (suc i))
      go (Ok r) q = record { keeps = q; dense = g.each (suc i) h; under = λ j a b. g.order (suc i) j a b }
      go (Err r) q = tt

  begins : (z : Sample) → 0 < length grid → IfOk (mapped rootless (begun_at (get_or grid 0 nan) z)) (Scanning 0)
  unfolding begun_at
  begins (Ok (f, stiffness)) h = record { keeps = record { rises = rising_none; upto = λ p. absurd (none p) }; dense = g.each 0 h; under = λ j a b. g.order 0 j a b }
    where
      none : 0 < 0 → ⊥
      none p = omega arith
  begins (Err r) h = tt

  -- the roots of a scan over a rising grid
  pub scan_rises : 0 < length grid → IfOk (scan_of v target grid) (λ s. Rising (densities s.roots.items))
  unfolding scan_of scan_step range
  scan_rises h =
      IfOk-weaker (scan_of v target grid) (Scanning (length grid - 1)) _ (λ s k. k.keeps.rises)
      (steps_keep Scanning (λ r. Unit {0}) (λ k. scan_step v target (get_or grid (1 + k) nan)) (length grid - 1) (mapped rootless (begun_at (get_or grid 0 nan) (v (get_or grid 0 nan)))) (begins (v (get_or grid 0 nan)) h)
      (λ k s l p. let e : 1 + k ≡ suc k = omega arith in rw e (seen k s (v (get_or grid (suc k) nan)) (omega arith) p)))

  -- ---- and those that a refused scan leaves
  seen_left_rises : (i : ℕ) (s : Scanned) (z : Sample) → suc i < length grid → Scanning i s → Rising (densities (seen_left v target (get_or grid (suc i) nan) s z).roots.items)
  unfolding seen_left noted_of
  seen_left_rises i s (Err r) h k = k.keeps.rises
  seen_left_rises i s (Ok (right, stiffness)) h k =
      go (crossed_of v target (get_or grid (suc i) nan) right (changed (noted_of (get_or grid (suc i) nan) stiffness) s))
      (crossed_keeps v target (get_or grid (suc i) nan) right (changed (noted_of (get_or grid (suc i) nan) stiffness) s) k.keeps k.dense (g.each (suc i) h) (k.under (suc i) (omega arith) h))
    where
      go : (c : Result Scanned Refusal) → IfOk c (λ r. Keeps (densities r.roots.items) (count (get_or grid (suc i) nan))) → Rising (densities (later_or (λ r. r) (changed (noted_of (get_or grid (suc i) nan) stiffness) s) c).roots.items)
      go (Ok r) q = q.rises
      go (Err r) q = k.keeps.rises

  stepped : (i : ℕ) (s : Scanned) → suc i < length grid → Scanning i s → MatchResult (scan_step v target (get_or grid (suc i) nan) s) (Scanning (suc i)) (λ r. Rising (densities (step_left v target (get_or grid (suc i) nan) s).roots.items))
  unfolding scan_step step_left
  stepped i s h k = match_ok _ (seen_of v target (get_or grid (suc i) nan) s (v (get_or grid (suc i) nan))) (seen i s (v (get_or grid (suc i) nan)) h k) (seen_left_rises i s (v (get_or grid (suc i) nan)) h k)

  pub left_rises : 0 < length grid → Rising (densities (scan_left v target grid).roots.items)
  unfolding scan_left
  left_rises h = go (begun_at (get_or grid 0 nan) (v (get_or grid 0 nan))) (begins (v (get_or grid 0 nan)) h)
    where
      turn : (j : ℕ) (r : Scanned) → j < 1 + (length grid - 1) → (1 ≤ j) × Scanning (j - 1) r →
          MatchResult (scan_step v target (get_or grid j nan) r) (λ q. (1 ≤ suc j) × Scanning (suc j - 1) q) (λ q. Rising (densities (step_left v target (get_or grid j nan) r).roots.items))
      turn j r l k =
          let e : suc (j - 1) ≡ j = omega (arith, k.0) in
          let e' : suc j - 1 ≡ j = omega arith in
          rw e' (turned j r (rw e at (stepped (j - 1) r (omega (arith, l, k.0)) k.1)))
        where
          turned : (j : ℕ) (r : Scanned) → MatchResult (scan_step v target (get_or grid j nan) r) (Scanning j) (λ q. Rising (densities (step_left v target (get_or grid j nan) r).roots.items)) →
              MatchResult (scan_step v target (get_or grid j nan) r) (λ q. (1 ≤ suc j) × Scanning j q) (λ q. Rising (densities (step_left v target (get_or grid j nan) r).roots.items))
          turned j r m = MatchResult-weaker (scan_step v target (get_or grid j nan) r) m (λ q s. (omega arith, s)) (λ q s. s)

      go :
          (b : Result Scan Refusal) → IfOk (mapped rootless b) (Scanning 0) →
          Rising (densities (later_or (λ s. left_by (λ i. scan_step v target (get_or grid i nan)) (λ i. step_left v target (get_or grid i nan)) 1 (length grid - 1) (rootless s)) (rootless (before (get_or grid 0 nan))) b).roots.items)
      go (Ok s) k =
          left_keeps (λ i. scan_step v target (get_or grid i nan)) (λ i. step_left v target (get_or grid i nan)) (λ j r. (1 ≤ j) × Scanning (j - 1) r) (λ r. Rising (densities r.roots.items)) (length grid - 1) 1 (rootless s)
          (omega arith, k) (λ j r l q. q.1.keeps.rises) turn
      go (Err r) k = rising_none
