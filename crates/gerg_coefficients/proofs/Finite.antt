-- Where the patterns of the pairs' numbers are those of finite doubles, none of causes 1 to 5 holds.
use mathlib.Core.Path.{◌≡◌, refl, ap, ◌∙◌}
use mathlib.Core.Bool.{Bool, true, false, not, ◌&&◌}
use mathlib.Core.List.{List}
use Prim.Native.Nat.{ℕ, zero, suc, ◌+◌, ◌-◌, ◌*◌, ◌/◌, ◌%◌, ◌^◌, ◌≤◌, ◌<◌}
use borrow.Author.Count.{below_more}
use borrow.Author.Tests.{ne_eqb, le-leb, lt-ltb}
use native.Mathlib.Omega.{arith}
use lib.ListN.{get_or}
use lib.Ieee.{Float, nan, binary64, odd, of_fields, of_bits}
use lib.Ieee.Scale.{finite}
use Rattle.numerics.specs.Tests.{and_true}
use Rattle.gerg_file.specs.Kinds as Kinds
use Rattle.gerg_file.specs.Bytes.{word, double_at}
use Rattle.gerg_file.specs.Counts.{sum}
use Rattle.gerg_file.specs.declared.Layout.{Layout}
use Rattle.gerg_coefficients.specs.Load.{pairs, doubles}
use Rattle.gerg_coefficients.specs.Filling.{FiniteAt, FinitePairs}
use Rattle.std.proofs.Common.{Ok}
use Rattle.gerg_tables.specs.Check.{first, nonfinite, number_fault}
use Rattle.gerg_tables.proofs.Faults.{no_fault}
use Rattle.gerg_coefficients.proofs.Numbers.{pair_number}

-- ---- a pattern whose exponent is not all ones
finite_odd : (d : ℕ) (s : Bool) (q k l : ℕ) → finite (odd d s q k l) ≡ true
unfolding odd
finite_odd d s zero k l = refl
finite_odd d s (suc q) k l = refl

finite_fields : (s : Bool) (x t : ℕ) → x < 2047 → finite (of_fields binary64 s x t) ≡ true
unfolding of_fields
finite_fields s zero t h = finite_odd 53 s t 0 1074
finite_fields s (suc x) t h = rw (ne_eqb (suc x) 2047 (λ e. omega arith)) (finite_odd 53 s (2 ^ 52 + t) x 1074)

pub finite_pattern : (w : ℕ) → w % 0x8000_0000_0000_0000 < 0x7ff0_0000_0000_0000 → finite (of_bits binary64 w) ≡ true
unfolding of_bits
finite_pattern w h = finite_fields _ (w % 0x8000_0000_0000_0000 / 2 ^ 52) _ (omega arith)

pub finite_double : (s : List ℕ) (at w : ℕ) → w ≡ word s at → w % 0x8000_0000_0000_0000 < 0x7ff0_0000_0000_0000 → finite (double_at s at) ≡ true
unfolding double_at
finite_double s at w e h = rw e at (finite_pattern w h)

-- ---- one number more, one record more
pub finite_on : (s : List ℕ) (at k : ℕ) → FiniteAt s at k → finite (double_at s (at + 8 * k)) ≡ true → FiniteAt s at (k + 1)
finite_on s at k before here = below_more (λ (j : ℕ). finite (double_at s (at + 8 * j)) ≡ true) k before here

pub finite_turn : (P : ℕ → Type 0) (k : ℕ) (a b : Bool) → (a ≡ true → (j : ℕ) → j < k → P j) → (b ≡ true → P k)
    → (a && b) ≡ true → (j : ℕ) → j < k + 1 → P j
finite_turn P k a b before here e = below_more P k (before (and_true a b e).0) (here (and_true a b e).1)

module _ (s : List ℕ) (l : Layout) (all : (i : ℕ) → i < 21 → FinitePairs s l.pairs i) where
  pair_is : (q i j : ℕ) → q < 5 → i ≤ j → j < 21
      → get_or (doubles s l) (1281 + 105 * i + 5 * j + q) nan
      ≡ double_at s (l.pairs + (Kinds.pair).size * (sum (λ h. 20 - h) i + i) + (Kinds.pair).doubles + (Kinds.pair).size * (j - i) + 8 * q)
  unfolding pairs
  pair_is q i j a b c =
      ap (λ (p : ℕ). get_or (doubles s l) p nan) (let p : 1281 + 105 * i + 5 * j + q ≡ 1281 + (105 * i + (5 * j + q)) = omega arith in p)
      ∙ pair_number s l i j q (omega arith) c a
      ∙ rw (le-leb i j b, lt-ltb j 21 c)
      (ap (double_at s)
      (let p : l.pairs + ((Kinds.pair).doubles + (Kinds.pair).size * (sum (λ h. 20 - h) i + j)) + 8 * q
      ≡ l.pairs + (Kinds.pair).size * (sum (λ h. 20 - h) i + i) + (Kinds.pair).doubles + (Kinds.pair).size * (j - i) + 8 * q = omega arith in p))

  pair_finite : (q i j : ℕ) → q < 5 → i ≤ j → j < 21 → nonfinite (doubles s l) q i j ≡ false
  pair_finite q i j a b c =
      ap (λ (x : Float). not (finite x)) (pair_is q i j a b c) ∙ ap not (all i (omega arith) (j - i) (omega arith) q a)

  pub no_number_fault : first (number_fault (doubles s l)) 5 0 ≡ Ok tt
  no_number_fault = no_fault (doubles s l) pair_finite
