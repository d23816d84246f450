-- Fractions that are millionths of whole parts, the parts one million together, pass row 4: each is finite and not negative, and they add up to 1. Assumes nothing.
use mathlib.Core.Path.{◌≡◌, refl, sym, ◌∙◌, subst}
use mathlib.Core.Logic.{inl, inr}
use mathlib.Core.Bool.{true, false}
use mathlib.Core.List.{List}
use Prim.Native.Nat.{ℕ, zero, suc, ◌+◌, ◌*◌, ◌^◌, ◌≤◌, ◌<◌}
use native.Mathlib.Nat.{mul-pos, mul-le-mul_left, mul-le-mul_right, le_of_mul-le-mul_right, eq-zero-or-pos, one-le-pow}
use native.Mathlib.Omega.{arith}
use borrow.Author.Tests.{le-ltb, eq-eqb}
use lib.Count.{count_trailing_zeros}
use lib.Dec.{ltb, eqb, lit≤}
use lib.IntN.{ℤ, pos}
use lib.Ieee.{Float, nan, fin, binary64, up, down, round, units, odd, size, span, climb, lt, of_bits}
use lib.Ieee.Positive.{num, den}
use lib.Ieee.Scale.{finite}
use lib.ListN.{length, get_or}
use Rattle.numerics.specs.Double.{◌⊕◌, +0}
use Rattle.numerics.specs.Fill.{tabulate, length_tabulate, get_d_tabulate}
use Rattle.numerics.specs.Frac.{◌⊞◌, big, small, small_pos, Close, close_same}
use Rattle.numerics.specs.Iterate.{iter}
use Rattle.numerics.specs.Nonneg.{Rel0, Fine, Broad, round_rel0, rel0_add, rel0_trans, rel0_weaken}
use Rattle.numerics.specs.Sign.{of_nonneg}
use Rattle.numerics.specs.Tests.{or_false}
use Rattle.numerics.specs.Zero.{zero_is}
use Rattle.gerg_model.specs.MixtureCheck.{first_place, bad_number, bad_fraction, sum_of, adds_up, check_of}
use Rattle.std.proofs.Common.{Ok}
use Rattle.packed_decimal.specs.Record.{millionths, fraction_of}
use Rattle.packed_decimal.specs.Records.{total_of}
use Rattle.chromatograph.specs.Lists.{bad_place, bad_list}
use Rattle.chromatograph.proofs.Laws.Known.{known}
use Rattle.gerg_model.proofs.Laws.First.{first_is}
use Rattle.packed_decimal.proofs.Laws.Total.{first, first_next, first_rises, part_at_most}
use Rattle.chromatograph.proofs.Laws.Within.{near_one}

-- ---- one fraction
-- a million and its square against the ends of the range
at_least : (p n M : ℕ) → 0 < p → n ≤ M → n ≤ p * M
at_least p n M P h = omega (arith, mul-le-mul_right M P)

at_most : (p n M : ℕ) → 0 < M → p ≤ n → p ≤ n * M
at_most p n M P h = omega (arith, mul-le-mul_left n P)

fine : (p : ℕ) → p ≤ 1_000_000 → Fine (millionths p)
fine p h = elim (eq-zero-or-pos p) [ inl z ↦ inl z | inr P ↦ inr (record { least = at_least p 1_000_000 (2 ^ 1022) P (lit≤ tt); most = at_most p 1_000_000 (2 ^ 1023) (lit≤ tt) h }) ]

fraction_rel : (p : ℕ) → p ≤ 1_000_000 → Rel0 1 (fraction_of p) (millionths p)
unfolding fraction_of
fraction_rel p h = round_rel0 (millionths p) (fine p h)

not_below : (m : ℕ) (e : ℤ) → lt (fin false m e) (fin false 0 (pos 0)) ≡ false
unfolding lt
not_below m e = le-ltb (m * up e * 1) (0 * 1 * down e) (omega arith)

fraction_good : (p : ℕ) → p ≤ 1_000_000 → (finite (fraction_of p) ≡ true) × (lt (fraction_of p) +0 ≡ false)
fraction_good p h = of_nonneg (λ (v : Float). (finite v ≡ true) × (lt v +0 ≡ false)) (λ m e. (refl, rw zero_is (not_below m e))) (fraction_of p) (fraction_rel p h).sign

-- ---- the fractions added up: after k of them, k + 1 roundings at most from the parts added up
-- the sum begins at a rounding too, so that one law serves every turn
zero_rounds : +0 ≡ round binary64 false 0 1_000_000
unfolding of_bits round units odd size span climb count_trailing_zeros
zero_rounds = refl

broad : (a b : ℕ) → a + b ≤ 1_000_000 → Broad (millionths a ⊞ millionths b)
broad a b h = elim (eq-zero-or-pos (a * 1_000_000 + b * 1_000_000)) [
  | inl z ↦ inl z
  | inr P ↦ inr (record {
    least = at_least (a * 1_000_000 + b * 1_000_000) (1_000_000 * 1_000_000) (2 ^ 1021) P (lit≤ tt);
    most = at_most (a * 1_000_000 + b * 1_000_000) (1_000_000 * 1_000_000) (2 ^ 1022) (lit≤ tt) (omega arith);
  })
]

one_more : (k a b : ℕ) (x : Float) → k ≤ 900 → a + b ≤ 1_000_000 → Rel0 (suc k) x (millionths a) → Rel0 (suc (suc k)) (x ⊕ fraction_of b) (millionths (a + b))
one_more k a b x K h r =
    let s : Rel0 (1 + suc k) (x ⊕ fraction_of b) (millionths a ⊞ millionths b) = rel0_add (suc k) x (fraction_of b) (millionths a) (millionths b) r (rel0_weaken 1 (suc k) (fraction_of b) (millionths b) (omega arith) (fraction_rel b (omega arith))) (omega arith) (broad a b h) in
    let same : Close 0 (millionths a ⊞ millionths b) (millionths (a + b)) = close_same (millionths a ⊞ millionths b) (millionths (a + b)) (omega arith) in
    rel0_weaken (1 + suc k + 0) (suc (suc k)) (x ⊕ fraction_of b) (millionths (a + b)) (omega arith) (rel0_trans (1 + suc k) 0 (x ⊕ fraction_of b) (millionths a ⊞ millionths b) (millionths (a + b)) s same)

abbrev fractions : List ℕ → List Float
fractions parts = tabulate (λ k. fraction_of (get_or parts k 0)) (length parts)

module _ (parts : List ℕ) (few : length parts ≤ 21) (whole : total_of parts ≡ 1_000_000) where
  whole_is : first parts (length parts) ≡ 1_000_000
  unfolding total_of
  whole_is = whole

  added : (k : ℕ) → k ≤ length parts → Rel0 (suc k) (iter (λ k sum. sum ⊕ get_or (fractions parts) k nan) k +0) (millionths (first parts k))
  unfolding iter
  added zero h = subst (λ (v : Float). Rel0 1 v (millionths 0)) (sym zero_rounds) (round_rel0 (millionths 0) (inl refl))
  added (suc k) h =
      rw (get_d_tabulate (λ k. fraction_of (get_or parts k 0)) (length parts) k nan h)
      (one_more k (first parts k) (get_or parts k 0) (iter (λ k sum. sum ⊕ get_or (fractions parts) k nan) k +0) (omega arith) (omega (arith, first_next parts k, first_rises parts (suc k) (length parts) h, whole_is)) (added k (omega arith)))

  sum_rel : Rel0 22 (sum_of (fractions parts)) (millionths 1_000_000)
  unfolding sum_of
  sum_rel =
      rw (length_tabulate (λ k. fraction_of (get_or parts k 0)) (length parts))
      (rel0_weaken (suc (length parts)) 22 (iter (λ k sum. sum ⊕ get_or (fractions parts) k nan) (length parts) +0) (millionths 1_000_000) (omega arith)
      (subst (λ (n : ℕ). Rel0 (suc (length parts)) (iter (λ k sum. sum ⊕ get_or (fractions parts) k nan) (length parts) +0) (millionths n)) whole_is (added (length parts) (omega arith))))

-- ---- 22 roundings change a number by less than one part in 2 ^ 40
few_roundings : 2 ^ 40 * big ^ 22 ≤ (2 ^ 40 + 1) * small ^ 22
unfolding big small
few_roundings = lit≤ tt

shrink : (x y c s b u : ℕ) → 0 < c → 0 < s → u * b ≤ (u + 1) * s → c * x * s ≤ c * y * b → x * u ≤ y * (u + 1)
shrink x y c s b u C S h k = le_of_mul-le-mul_right {k = c * s} (omega (arith, mul-le-mul_right u k, mul-le-mul_right (c * y) h)) (mul-pos C S)

adds_up_lem : (parts : List ℕ) → length parts ≤ 21 → total_of parts ≡ 1_000_000 → adds_up (tabulate (λ k. fraction_of (get_or parts k 0)) (length parts)) ≡ true
unfolding adds_up
adds_up_lem parts few whole =
    let r = sum_rel parts few whole in
    let s = sum_of (fractions parts) in
    let S : 0 < small ^ 22 = one-le-pow 22 small small_pos in
    near_one s r.sign
    (shrink (num s) (den s) 1_000_000 (small ^ 22) (big ^ 22) (2 ^ 40) (lit≤ tt) S few_roundings (left (num s) (den s) (small ^ 22) (big ^ 22) r.near.le))
    (shrink (den s) (num s) 1_000_000 (small ^ 22) (big ^ 22) (2 ^ 40) (lit≤ tt) S few_roundings (right (num s) (den s) (small ^ 22) (big ^ 22) r.near.ge))
  where
    left : (x y s b : ℕ) → x * 1_000_000 * s ≤ 1_000_000 * y * b → 1_000_000 * x * s ≤ 1_000_000 * y * b
    left x y s b h = omega arith

    right : (x y s b : ℕ) → 1_000_000 * y * s ≤ x * 1_000_000 * b → 1_000_000 * y * s ≤ 1_000_000 * x * b
    right x y s b h = omega arith

-- ---- row 4
good_fraction : (parts : List ℕ) → total_of parts ≡ 1_000_000 → (k : ℕ) → k < length parts → bad_fraction (fractions parts) k ≡ false
unfolding bad_fraction
good_fraction parts whole k h =
    let g = fraction_good (get_or parts k 0) (omega (arith, part_at_most parts k h)) in
    rw (get_d_tabulate (λ k. fraction_of (get_or parts k 0)) (length parts) k nan h, g.0) g.1

-- a list that row 3 passes, and parts that 29 passes: rows 3 and 4 pass their fractions
pub mixture_sound : (list parts : List ℕ) → length parts ≡ length list → bad_list list ≡ false → total_of parts ≡ 1_000_000 → check_of list (tabulate (λ k. fraction_of (get_or parts k 0)) (length parts)) ≡ Ok tt
unfolding check_of bad_list bad_place
mixture_sound list parts paired known_list whole =
    let t = or_false (eqb (length list) 0) (ltb (first_place (bad_number list) (length list) 0) (length list)) known_list in
    let few : length parts ≤ 21 = omega (arith, (known list known_list).few) in
    let fs = fractions parts in
    let long : length fs ≡ length parts = length_tabulate (λ k. fraction_of (get_or parts k 0)) (length parts) in
    let place = first_is (bad_fraction fs) (length fs) (length fs) (omega arith) (λ d l. good_fraction parts whole d (omega arith)) (λ l. absurd (omega arith)) in
    rw (t.0, t.1, eq-eqb (length fs) (length list) (long ∙ paired), le-ltb (first_place (bad_fraction fs) (length fs) 0) (length fs) (omega arith), adds_up_lem parts few whole)
