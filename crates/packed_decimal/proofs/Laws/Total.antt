-- Laws of a total: what a loop over the parts asks, and that it never falls. Assumes nothing.
use mathlib.Core.Path.{◌≡◌, refl, subst}
use mathlib.Core.Bool.{true, false, not}
use mathlib.Core.List.{List}
use Prim.Native.Nat.{ℕ, zero, suc, ◌+◌, ◌-◌, ◌≤◌, ◌<◌}
use native.Mathlib.Nat.{le_refl}
use native.Mathlib.Omega.{arith}
use borrow.Author.Tests.{eq-eqb, ne_eqb, eqb-true, not-false}
use lib.Dec.{eqb}
use lib.ListN.{length, get_or}
use Rattle.numerics.specs.Iterate.{iter}
use Rattle.packed_decimal.specs.Records.{total_of, bad_total}

-- the total of the first k parts
abbrev pub first : List ℕ → ℕ → ℕ
first parts k = iter (λ j total. total + get_or parts j 0) k 0

first_grows : (parts : List ℕ) (k d : ℕ) → first parts k ≤ first parts (d + k)
unfolding iter
first_grows parts k zero = let e : 0 + k ≡ k = omega arith in rw e (le_refl (first parts k))
first_grows parts k (suc d) =
    let e : suc d + k ≡ suc (d + k) = omega arith in
    let h = first_grows parts k d in
    rw e (omega arith)

pub first_next : (parts : List ℕ) (k : ℕ) → first parts (suc k) ≡ first parts k + get_or parts k 0
unfolding iter
first_next parts k = refl

-- a front's total is at most a longer one's,
pub first_rises : (parts : List ℕ) (k n : ℕ) → k ≤ n → first parts k ≤ first parts n
first_rises parts k n h = let e : n - k + k ≡ n = omega arith in subst (λ (m : ℕ). first parts k ≤ first parts m) e (first_grows parts k (n - k))

pub first_at_most : (parts : List ℕ) (k : ℕ) → k ≤ length parts → first parts k ≤ total_of parts
unfolding total_of
first_at_most parts k h = first_rises parts k (length parts) h

-- and no part is above the total
pub part_at_most : (parts : List ℕ) (k : ℕ) → k < length parts → get_or parts k 0 ≤ total_of parts
part_at_most parts k h = omega (arith, first_next parts k, first_at_most parts (suc k) h)

-- the answers of a loop that stops past 1,000,000: with the total of all parts,
pub total_told : (parts : List ℕ) (total k : ℕ) → total ≡ first parts k → k ≡ length parts → not (eqb total 1_000_000) ≡ bad_total parts
unfolding bad_total total_of
total_told parts total k e h = rw (e, h)

-- and with that of a front which is past it already
pub total_past : (parts : List ℕ) (total k : ℕ) → total ≡ first parts k → k ≤ length parts → 1_000_000 < total → true ≡ bad_total parts
unfolding bad_total
total_past parts total k e h l =
    let g = first_at_most parts k h in
    rw (ne_eqb (total_of parts) 1_000_000 (λ (q : total_of parts ≡ 1_000_000). omega arith))

-- 29's test both ways
pub total_sound : (parts : List ℕ) → bad_total parts ≡ false → total_of parts ≡ 1_000_000
unfolding bad_total
total_sound parts e = eqb-true (total_of parts) 1_000_000 (not-false (eqb (total_of parts) 1_000_000) e)

pub sound_total : (parts : List ℕ) → total_of parts ≡ 1_000_000 → bad_total parts ≡ false
unfolding bad_total
sound_total parts e = rw (eq-eqb (total_of parts) 1_000_000 e)
