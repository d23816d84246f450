-- The table of ln: e to entry i is 1 + i / 128 to one rounding, and the entry is from 0 to 0.69 with few digits. One computed test serves all entries.
-- Assumes nothing.
use mathlib.Core.Path.{◌≡◌, refl}
use mathlib.Core.Bool.{Bool, ◌&&◌}
use Prim.Native.Nat.{ℕ, ◌+◌, ◌*◌, ◌^◌, ◌≤◌, ◌<◌}
use lib.Dec.{T, leb, leb→le, lit≤}
use lib.ListN.{length}
use lib.Ieee.{Float, binary64, of_bits}
use lib.Ieee.Fits.{and_l, and_r}
use lib.Ieee.Positive.{num, den}
use Rattle.numerics.specs.Frac.{Frac, ◌⊑◌, ◌⊠◌, big, small}
use Rattle.numerics.specs.Series.{sum_top, sum_bot, S, U, Above, Below, above_by}
use Rattle.numerics.specs.Round.{val}
use Rattle.numerics.specs.Tail.{rho, rho⁻}
use Rattle.numerics.specs.Nonneg.{nonneg}
use Rattle.numerics.specs.Table.{each, each_entry}
use Rattle.elementary_ln.specs.LnTable.{log_table}
use Rattle.elementary_ln.specs.Ln.{log_node}

pub record LogEntry (v : Float) (c : Frac) : Type 0 where
  pub sign : T (nonneg v)
  pub short : den v ≤ 2 ^ 60
  pub most : num v * 100 ≤ 69 * den v
  pub above : Above (val v) (c ⊠ rho 1)
  pub below : Below (val v) (c ⊠ rho⁻ 1)

-- p ⊑ q, as a test
abbrev leq : Frac → Frac → Bool
leq p q = leb (p.top * q.bot) (q.top * p.bot)

leq→⊑ : (p q : Frac) → T (leq p q) → p ⊑ q
leq→⊑ p q t = leb→le (p.top * q.bot) (q.top * p.bot) t

-- the sum of the series up to x^24 and its tail tell
unfoldable entry_test : Float → Frac → Bool
unfolding sum_top sum_bot
entry_test v c =
    nonneg v
    && (leb (den v) (2 ^ 60) && (leb (num v * 100) (69 * den v) && (leb (2 * num v) (den v * 26) && (leq (U 24 (val v)) (c ⊠ rho 1) && leq (c ⊠ rho⁻ 1) (S 24 (val v))))))

entry_tested : (v : Float) (c : Frac) → T (entry_test v c) → LogEntry v c
unfolding entry_test
entry_tested v c t =
    let e5 = leq (c ⊠ rho⁻ 1) (S 24 (val v)) in
    let e4 = leq (U 24 (val v)) (c ⊠ rho 1) && e5 in
    let e3 = leb (2 * num v) (den v * 26) && e4 in
    let e2 = leb (num v * 100) (69 * den v) && e3 in
    let e1 = leb (den v) (2 ^ 60) && e2 in
    let t1 = and_r (nonneg v) e1 t in
    let t2 = and_r (leb (den v) (2 ^ 60)) e2 t1 in
    let t3 = and_r (leb (num v * 100) (69 * den v)) e3 t2 in
    let t4 = and_r (leb (2 * num v) (den v * 26)) e4 t3 in
    record {
      sign = and_l (nonneg v) e1 t;
      short = leb→le (den v) (2 ^ 60) (and_l (leb (den v) (2 ^ 60)) e2 t1);
      most = leb→le (num v * 100) (69 * den v) (and_l (leb (num v * 100) (69 * den v)) e3 t2);
      above = above_by 24 (val v) (c ⊠ rho 1) (leb→le (2 * num v) (den v * 26) (and_l (leb (2 * num v) (den v * 26)) e4 t3)) (leq→⊑ (U 24 (val v)) (c ⊠ rho 1) (and_l (leq (U 24 (val v)) (c ⊠ rho 1)) e5 t4));
      below = (24, leq→⊑ (c ⊠ rho⁻ 1) (S 24 (val v)) (and_r (leq (U 24 (val v)) (c ⊠ rho 1)) e5 t4));
    }

-- 1 + i / 128
abbrev pub node : ℕ → Frac
node i = record { top = 128 + i; bot = 128; good = lit≤ tt }

node_test : ℕ → ℕ → Bool
unfolding entry_test of_bits
node_test i b = entry_test (of_bits binary64 b) (node i)

table_ok : T (each node_test 0 log_table)
unfolding each node_test log_table small big
table_ok = tt

table_size : length log_table ≡ 128
unfolding log_table
table_size = refl

-- entry i is ln (1 + i / 128)
pub entry_log : (i : ℕ) → i < 128 → LogEntry (log_node i) (node i)
unfolding node_test log_node
entry_log i h = entry_tested (log_node i) (node i) (each_entry node_test log_table i table_ok (rw table_size h))
