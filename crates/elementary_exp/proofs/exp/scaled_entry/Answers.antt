-- `elementary_exp::exp::scaled_entry` meets its contract: the field is below 2047, so the pattern is no NaN's.
use Rattle.std.proofs.Common.{◌≡◌, ℕ, ◌+◌, ◌*◌, ◌%◌, ◌<◌, ◌≤◌, not, T, refl, ap, ◌∙◌, arith, le-ltb}
use lib.Ieee.{binary64, nan_bits, of_bits}
use lib.Ieee.Bits.{nan_bits_above}
use Rattle.elementary_exp.specs.ExpTable.{entry_pattern}
use Rattle.elementary_exp.specs.Exp.{scaled_entry}
use Rattle.elementary_exp.proofs.ExpEntries.{scaled_number}
use Rattle.elementary_exp.proofs.exp.scaled_entry.Goals as goal

-- the shifted n loses nothing that the sum's wrapping would not
summed : (b p e n : ℕ) → p ≡ e → b ≡ (p + n * 0x10_0000_0000_0000 % 0x1_0000_0000_0000_0000) % 0x1_0000_0000_0000_0000 → b ≡ (e + n * 0x10_0000_0000_0000) % 0x1_0000_0000_0000_0000
summed b p e n h k = rw (k, h) (omega arith)

-- a pattern below that of infinity is no NaN's
number : (b q : ℕ) → b ≡ q → q < 0x7ff0_0000_0000_0000 → T (not (nan_bits binary64 b))
number b q e h = rw (e, nan_bits_above binary64 q ∙ le-ltb _ _ (small q h)) tt
  where
    small : (q : ℕ) → q < 0x7ff0_0000_0000_0000 → q % 0x8000_0000_0000_0000 ≤ 0x7ff0_0000_0000_0000
    small q h = omega arith

pub float_from_bits-result : goal.float_from_bits-result
float_from_bits-result c =
    let r = c.requires in
    number _ _ (summed _ c.entry_pattern.result (entry_pattern c.args.j) c.args.n c.entry_pattern.ensures refl)
    (scaled_number c.args.j c.args.n r.j_bound r.lt_n r.n_bound)

pub returns : goal.returns
unfolding scaled_entry
returns c =
    ap (of_bits binary64) (summed _ c.entry_pattern.result (entry_pattern c.args.j) c.args.n c.entry_pattern.ensures refl)
