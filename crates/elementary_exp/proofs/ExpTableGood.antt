-- Each entry of the exponential's table is e ^ (j * L) to 2 roundings, L the step: by one computed test over the table. Assumes nothing.
use Rattle.std.proofs.Common.{ℕ, ◌*◌, ◌<◌, ◌≤◌, Bool, ◌&&◌, T, leb, leb→le}
use lib.Ieee.{Float, of_bits}
use lib.Ieee.Fits.{and_l, and_r}
use lib.Ieee.Positive.{num, den, positive}
use Rattle.numerics.specs.Double.{bits}
use Rattle.numerics.specs.Frac.{Frac, ◌⊑◌, ◌⊠◌, big, small}
use Rattle.numerics.specs.Round.{val}
use Rattle.numerics.specs.Series.{sum_top, sum_bot, S, U, above_by, below_by}
use Rattle.numerics.specs.Law.{times}
use Rattle.numerics.specs.Tail.{rho, rho⁻}
use Rattle.numerics.specs.Bound.{Bound}
use Rattle.numerics.specs.Table.{each, each_entry}
use Rattle.elementary_exp.proofs.ExpConstants.{step}
use Rattle.elementary_exp.specs.ExpTable.{two_to_sixty_fourths}
use Rattle.elementary_exp.proofs.ExpEntries.{table_entry, entries}

-- t is e ^ (j * step) to 2 roundings, and from 1 to 2
pub record Entry (j : ℕ) (t : Float) : Type 0 where
  pub pos : T (positive t)
  pub low : den t ≤ num t
  pub high : num t ≤ 2 * den t
  pub good : Bound 2 (times j step) (val t)

le_test : Frac → Frac → Bool
le_test p q = leb (p.top * q.bot) (q.top * p.bot)

le_tested : (p q : Frac) → T (le_test p q) → p ⊑ q
unfolding le_test
le_tested p q t = leb→le (p.top * q.bot) (q.top * p.bot) t

entry_test : ℕ → Float → Bool
unfolding le_test
entry_test j t =
    positive t && (leb (den t) (num t) && (leb (num t) (2 * den t) && (leb (2 * (j * step.top)) (step.bot * 20) && (le_test (U 18 (times j step)) (val t ⊠ rho 2) && le_test (val t ⊠ rho⁻ 2) (S 18 (times j step))))))

entry_tested : (j : ℕ) (t : Float) → T (entry_test j t) → Entry j t
unfolding entry_test
entry_tested j t h =
    let x = times j step in
    let a = positive t in
    let b = leb (den t) (num t) in
    let c = leb (num t) (2 * den t) in
    let d = leb (2 * (j * step.top)) (step.bot * 20) in
    let e = le_test (U 18 x) (val t ⊠ rho 2) in
    let f = le_test (val t ⊠ rho⁻ 2) (S 18 x) in
    let h₁ = and_r a (b && (c && (d && (e && f)))) h in
    let h₂ = and_r b (c && (d && (e && f))) h₁ in
    let h₃ = and_r c (d && (e && f)) h₂ in
    let h₄ = and_r d (e && f) h₃ in
    record {
      pos = and_l a (b && (c && (d && (e && f)))) h;
      low = leb→le (den t) (num t) (and_l b (c && (d && (e && f))) h₁);
      high = leb→le (num t) (2 * den t) (and_l c (d && (e && f)) h₂);
      good = record {
        above = above_by 18 x (val t ⊠ rho 2) (leb→le (2 * (j * step.top)) (step.bot * 20) (and_l d (e && f) h₃)) (le_tested (U 18 x) (val t ⊠ rho 2) (and_l e f h₄));
        below = below_by 18 x (val t ⊠ rho⁻ 2) (le_tested (val t ⊠ rho⁻ 2) (S 18 x) (and_r e f h₄));
      };
    }

-- ---- the whole table
pattern_test : ℕ → ℕ → Bool
unfolding entry_test
pattern_test j p = entry_test j (bits p)

passes : T (each pattern_test 0 two_to_sixty_fourths)
unfolding each pattern_test two_to_sixty_fourths of_bits sum_top sum_bot small big
passes = tt

pub entry_good : (j : ℕ) → j < 64 → Entry j (table_entry j)
unfolding pattern_test table_entry
entry_good j h = entry_tested j (table_entry j) (each_entry pattern_test two_to_sixty_fourths j passes (rw entries h))
