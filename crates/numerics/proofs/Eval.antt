-- Enclosures that antt computes. For a fraction x and a number n of terms, `lower n x` and `upper n x` are a bound of e ^ x below and one above (`enclosed`), at either sign;
-- `S n a` and `U n a` are the same for a ≥ 0 (`enclosed_nonneg`). Then ln 2 to 110 binary places (`ln2_within`), and e to the lower end of that, computed (`e_ln2_low`);
-- and e ^ L for L the binary64 value nearest to ln 2, to 100 places. Assumes nothing.
use Rattle.std.proofs.Common.{ap, add-sub_of_le, arith, lit≤, pow_pos}
use Rattle.std.specs.Prelude.{ℕ, suc, ◌+◌, ◌-◌, ◌*◌, ◌^◌, ◌≤◌}
use Rattle.numerics.specs.Frac.{Frac, nat, ⊑_refl}
use Rattle.numerics.specs.Series.{sum_top, sum_bot, S, U, Above, Below, above_by, below_by}
use Rattle.numerics.specs.Limit.{Far}
use Rattle.numerics.specs.Exponential.{Signed, plus_of, minus_of, raised, lowered, powers, sums, Enough, AboveExp, BelowExp, LnWithin}
use Rattle.numerics.proofs.ExpBoundLaws.{G, L, t, on, above_plain, below_plain, monus}
use Rattle.numerics.proofs.ExpBoundSums.{most_arg, least_arg}
use Rattle.numerics.proofs.Distance.{most_plus, least_plus, ln_within}

-- ---- the evaluator
pub enclosed_nonneg : (n : ℕ) (a : Frac) → Far n a → Below a (S n a) × Above a (U n a)
enclosed_nonneg n a h = (below_by n a (S n a) (⊑_refl (S n a)), above_by n a (U n a) h (⊑_refl (U n a)))

abbrev pub lower : ℕ → Signed → Frac
lower n x = on n x (G n x - (L n x + t n x))

abbrev pub upper : ℕ → Signed → Frac
upper n x = on n x (G n x + t n x - L n x)

pub enclosed : (n : ℕ) (x : Signed) → Enough n x → L n x + t n x ≤ G n x → BelowExp x (lower n x) × AboveExp x (upper n x)
enclosed n x e h = (
  (n, (e, below_plain n x (lower n x) (omega (arith, ap (λ (z : ℕ). z * sum_bot (suc n) x.bot) (add-sub_of_le h))))),
  (n, (e, above_plain n x (upper n x) (monus (G n x + t n x) (L n x) (sum_bot (suc n) x.bot)))),
)

-- 0.36787944117144 < e ^ -1 < 0.36787944117145, by 17 terms of the series at -1
pub e_minus_one : BelowExp (minus_of (nat 1)) (record { top = 36787944117144; bot = 10 ^ 14; good = lit≤ tt }) × AboveExp (minus_of (nat 1)) (record { top = 36787944117145; bot = 10 ^ 14; good = lit≤ tt })
unfolding sums powers sum_bot
e_minus_one = ((17, (lit≤ tt, lit≤ tt)), (17, (lit≤ tt, lit≤ tt)))

-- ---- ln 2
abbrev pub ln2_low : Frac
ln2_low = record { top = 899756482030919243385101862961404; bot = 2 ^ 110; good = pow_pos 110 }

abbrev pub ln2_high : Frac
ln2_high = record { top = 899756482030919243385101862961405; bot = 2 ^ 110; good = pow_pos 110 }

-- e ^ ln2_low ≤ 2 ≤ e ^ ln2_high
pub ln2_low_above : Above ln2_low (nat 2)
unfolding sum_top sum_bot
ln2_low_above = above_by 32 ln2_low (nat 2) (lit≤ tt) (lit≤ tt)

pub ln2_high_below : Below ln2_high (nat 2)
unfolding sum_top sum_bot
ln2_high_below = below_by 32 ln2_high (nat 2) (lit≤ tt)

pub ln2_within : LnWithin (record { top = 1; bot = 2 ^ 110; good = pow_pos 110 }) (nat 2) (plus_of ln2_low)
ln2_within =
    let d : Frac = record { top = 1; bot = 2 ^ 110; good = pow_pos 110 } in
    ln_within d (nat 2) (plus_of ln2_low) (most_arg (lowered (plus_of ln2_low) d) (plus_of ln2_low) (nat 2) (lit≤ tt) (most_plus ln2_low (nat 2) ln2_low_above))
    (least_arg (plus_of ln2_high) (raised (plus_of ln2_low) d) (nat 2) (lit≤ tt) (least_plus ln2_high (nat 2) ln2_high_below))

-- e ^ ln2_low is 2 to 110 binary places, from above and from below
pub e_ln2_low : Below ln2_low (record { top = 2 ^ 111 - 2; bot = 2 ^ 110; good = pow_pos 110 }) × Above ln2_low (record { top = 2 ^ 111 - 1; bot = 2 ^ 110; good = pow_pos 110 })
unfolding sum_top sum_bot
e_ln2_low = (below_by 32 ln2_low (record { top = 2 ^ 111 - 2; bot = 2 ^ 110; good = pow_pos 110 }) (lit≤ tt), above_by 32 ln2_low (record { top = 2 ^ 111 - 1; bot = 2 ^ 110; good = pow_pos 110 }) (lit≤ tt) (lit≤ tt))

-- ---- the binary64 value nearest to ln 2
abbrev pub ln2_double : Frac
ln2_double = record { top = 6243314768165359; bot = 2 ^ 53; good = pow_pos 53 }

abbrev pub two_hi : Frac
two_hi = record { top = 2535301200456458744198584700160; bot = 2 ^ 100; good = pow_pos 100 }

abbrev pub two_lo : Frac
two_lo = record { top = 2535301200456458744198584700159; bot = 2 ^ 100; good = pow_pos 100 }

pub e_ln2_above : Above ln2_double two_hi
unfolding sum_top sum_bot
e_ln2_above = above_by 30 ln2_double two_hi (lit≤ tt) (lit≤ tt)

pub e_ln2_below : Below ln2_double two_lo
unfolding sum_top sum_bot
e_ln2_below = below_by 30 ln2_double two_lo (lit≤ tt)
