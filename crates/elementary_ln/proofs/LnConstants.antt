-- The constants of ln: ln 2, and the coefficients of its polynomial, each the double next to what it stands for. Assumes nothing.
use mathlib.Core.Path.{refl}
use mathlib.Core.Bool.{false}
use Prim.Native.Nat.{ℕ, ◌-◌, ◌^◌}
use lib.Dec.{lit≤}
use lib.Pow.{pow_pos}
use lib.Ieee.{of_bits}
use lib.Ieee.Exact.{HasValue}
use Rattle.numerics.specs.Double.{two}
use Rattle.numerics.specs.Frac.{Frac, nat, big, small}
use Rattle.numerics.specs.Round.{Rel}
use Rattle.numerics.specs.Series.{sum_top, sum_bot, Above, Below, above_by, below_by}
use Rattle.numerics.specs.Coefs.{close_test, close_tested}
use Rattle.elementary_ln.specs.Ln as steps
use Rattle.elementary_ln.specs.Ln.{bias, two_thirds, two_fifths, two_sevenths}

-- ---- ln 2 to 84 binary places: e to it is 2 from below, to one part in 2^85
abbrev pub log_two : Frac
log_two = record { top = 13407416373952019861118523; bot = 2 ^ 84; good = lit≤ tt }

-- the double that the steps use
pub ln2_rel : Rel 1 steps.ln2 log_two
ln2_rel = unfold close_test of_bits small big in close_tested 1 steps.ln2 log_two tt

-- just below 2
abbrev pub two⁻ : Frac
two⁻ = record { top = 2 ^ 85 - 1; bot = 2 ^ 84; good = pow_pos 84 }

pub ln2_above : Above log_two (nat 2)
unfolding sum_top sum_bot
ln2_above = above_by 30 log_two (nat 2) (lit≤ tt) (lit≤ tt)

pub ln2_below : Below log_two two⁻
unfolding sum_top sum_bot
ln2_below = below_by 30 log_two two⁻ (lit≤ tt)

-- ---- the exponent e = k + 1087 of the steps: at k = 0, its bound, and the double of it
abbrev pub zero_exponent : ℕ
zero_exponent = 1087

abbrev pub most_exponent : ℕ
most_exponent = 2110

pub bias_val : HasValue bias false zero_exponent 1
unfolding of_bits
bias_val = (refl, refl)

-- ---- 2/3, 2/5, 2/7 and 2
abbrev pub third : Frac
third = record { top = 2; bot = 3; good = lit≤ tt }

abbrev pub fifth : Frac
fifth = record { top = 2; bot = 5; good = lit≤ tt }

abbrev pub seventh : Frac
seventh = record { top = 2; bot = 7; good = lit≤ tt }

pub third_rel : Rel 1 two_thirds third
third_rel = unfold close_test of_bits small big in close_tested 1 two_thirds third tt

pub fifth_rel : Rel 1 two_fifths fifth
fifth_rel = unfold close_test of_bits small big in close_tested 1 two_fifths fifth tt

pub seventh_rel : Rel 1 two_sevenths seventh
seventh_rel = unfold close_test of_bits small big in close_tested 1 two_sevenths seventh tt

pub two_rel : Rel 1 two (nat 2)
two_rel = unfold close_test of_bits small big in close_tested 1 two (nat 2) tt
