-- The distance of exp from the exact exponential: 29 roundings, by the steps that fix its bits. Assumes nothing.
use mathlib.Core.Path.{◌≡◌, refl, sym, subst}
use Prim.Native.Nat.{ℕ, ◌+◌, ◌*◌, ◌^◌, ◌≤◌, ◌<◌}
use native.Mathlib.Nat.{one-le-pow}
use native.Mathlib.Omega.{arith}
use mathlib.Core.Bool.{Bool, true, false, not, ◌&&◌, ◌||◌, beq}
use lib.IntN.{ℤ}
use lib.Dec.{T, ltb, eqb, ltb→lt, eqb→eq, eqb_refl, lit≤}
use lib.Ieee.{Float, nan, inf, fin, up, down, neg, le, lt, eq, ne, of_bits}
use lib.Ieee.Fits.{and_l, and_r}
use lib.Ieee.Positive.{positive}
use Rattle.numerics.specs.Double.{one, pick}
use Rattle.numerics.specs.Frac.{Frac, ◌⊑◌, ◌⊠◌, nat, ◌⊞◌, big, small, big_pos, part}
use Rattle.numerics.specs.Round.{val}
use Rattle.numerics.specs.Rel.{num_pos}
use Rattle.numerics.specs.Series.{sum_top, sum_bot, S, above_more}
use Rattle.numerics.specs.Exp.{inv}
use Rattle.numerics.specs.Tail.{rho, tiny_above, rho⁻}
use Rattle.numerics.proofs.Distance.{within_factor, within_factor_neg}
use Rattle.numerics.specs.Bound.{Bound, bound_weaken}
use Rattle.elementary_exp.specs.Exp.{most, least, within_of, exp_of}
use Rattle.elementary_exp.specs.Range.{InRange}
use Rattle.elementary_exp.proofs.ExpTests.{in_range}
use Rattle.elementary_distance.proofs.ExpBound.{answer_near, plus_bound_at, minus_bound_at}
use Rattle.elementary_distance.specs.Distances.{WithinOfExp, ExpDistance, exp_bits}

-- ---- 29 roundings are less than 2 ^ -expBits
room : rho 29 ⊑ nat 1 ⊞ part exp_bits
unfolding small big
room = lit≤ tt

rho_pos : 0 < big ^ 29
rho_pos = one-le-pow 29 big big_pos

rho_one : small ^ 29 ≤ big ^ 29
rho_one = native.Mathlib.Nat.pow-le-pow_left Rattle.numerics.specs.Frac.small_le 29

plus_near : (m : ℕ) (e : ℤ) (v : Float) → T (positive v) → Bound 29 (val (fin false m e)) (val v) → WithinOfExp exp_bits (fin false m e) v
plus_near m e v p b = record { pos = p; near = within_factor (part exp_bits) (val (fin false m e)) (rho 29) rho_pos rho_one room (val v) b.above b.below }

minus_near : (m : ℕ) (e : ℤ) (v : Float) (p : T (positive v)) → Bound 29 (val (fin true m e)) (inv (val v) (num_pos v p)) → WithinOfExp exp_bits (fin true m e) v
minus_near m e v p b = record {
  pos = p;
  near = within_factor_neg (part exp_bits) (val (fin true m e)) (rho 29) rho_pos rho_one room (inv (val v) (num_pos v p)) (val v) (omega arith) (omega arith) b.above b.below;
}

-- ---- smaller than 2 ^ -54: e ^ x is 1 to one rounding
tiny : (a : Frac) → a.top * 2 ^ 54 < a.bot → Bound 29 a (nat 1)
tiny a h = bound_weaken 1 29 a (nat 1) (lit≤ tt) (record {
  above = above_more a (record { top = a.bot + 2 * a.top; bot = a.bot; good = a.good }) (nat 1 ⊠ rho 1) (rounded a.top a.bot h) (tiny_above a (omega arith));
  below = (0, lower);
})
  where
    rounded : (t b : ℕ) → t * 2 ^ 54 < b → (b + 2 * t) * (1 * small ^ 1) ≤ 1 * big ^ 1 * b
    rounded t b h = unfold small big in omega arith

    lower : nat 1 ⊠ rho⁻ 1 ⊑ S 0 a
    lower = unfold sum_top sum_bot in unfold small big in lit≤ tt

tiny_plus : (m : ℕ) (e : ℤ) → m * up e * 2 ^ 54 < 1 * down e → WithinOfExp exp_bits (fin false m e) one
unfolding of_bits
tiny_plus m e h = let t = tiny (val (fin false m e)) (omega arith) in plus_near m e one tt (record { above = t.above; below = t.below })

tiny_minus : (m : ℕ) (e : ℤ) → m * up e * 2 ^ 54 < 1 * down e → WithinOfExp exp_bits (fin true m e) one
unfolding of_bits
tiny_minus m e h = let t = tiny (val (fin true m e)) (omega arith) in minus_near m e one tt (record { above = t.above; below = t.below })

tiny_near : (x : Float) → T (le (neg most) x) → T (le x most) → (lt (neg least) x && lt x least) ≡ true → WithinOfExp exp_bits x one
unfolding le lt eq neg of_bits
tiny_near nan a b c = absurd a
tiny_near (inf false) a b c = absurd b
tiny_near (inf true) a b c = absurd a
tiny_near (fin false m e) a b c = tiny_plus m e (ltb→lt (m * up e * 2 ^ 54) (1 * down e) (and_r (ltb 0 (1 * down e + m * up e * 2 ^ 54)) (ltb (m * up e * 2 ^ 54) (1 * down e)) (subst T (sym c) tt)))
tiny_near (fin true m e) a b c = tiny_minus m e (ltb→lt (m * up e * 2 ^ 54) (1 * down e) (and_l (ltb (m * up e * 2 ^ 54) (1 * down e)) (ltb 0 (m * up e * 2 ^ 54 + 1 * down e)) (subst T (sym c) tt)))

-- ---- the tests of the range
not_more : (a b : ℕ) (same : Bool) → (T same → a ≡ b) → T (ltb a b || (same && true)) → ltb b a ≡ false
not_more a b same e t = go (ltb a b) (ltb b a) (ltb→lt a b) (ltb→lt b a) t
  where
    less : a < b → b < a → ⊥
    less h k = omega arith

    level : a ≡ b → b < a → ⊥
    level h k = omega arith

    go : (p q : Bool) → (T p → a < b) → (T q → b < a) → T (p || (same && true)) → q ≡ false
    go p false h k t = refl
    go true true h k t = absurd (less (h tt) (k tt))
    go false true h k t = absurd (level (e (and_l same true t)) (k tt))

itself : (s : Bool) (m : ℕ) (e : ℤ) → ne (fin s m e) (fin s m e) ≡ false
unfolding ne eq
itself s m e = go s (eqb (m * up e * down e) (m * up e * down e)) (eqb_refl (m * up e * down e))
  where
    go : (s b : Bool) → T b → not (b && (beq s s || eqb (m * up e * down e) 0)) ≡ false
    go false true t = refl
    go true true t = refl
    go s false t = absurd t

same : (x : Float) → T (le (neg most) x) → T (le x most) → (ne x x ≡ false) × (lt most x ≡ false) × (lt x (neg most) ≡ false)
unfolding le lt eq neg of_bits
same nan a b = absurd a
same (inf false) a b = absurd b
same (inf true) a b = absurd a
same (fin false m e) a b = (itself false m e, not_more (m * up e * 1) (700 * down e) (eqb (m * up e * 1) (700 * down e)) (eqb→eq (m * up e * 1) (700 * down e)) b, refl)
same (fin true m e) a b = (itself true m e, refl, not_more (m * up e * 1) (700 * down e) (eqb (700 * down e) (m * up e * 1)) (λ t. sym (eqb→eq (700 * down e) (m * up e * 1) t)) a)

-- ---- the steps
steps_near : (x : Float) → InRange x → WithinOfExp exp_bits x (within_of x)
steps_near nan r = absurd r.number
steps_near (inf s) r = absurd r.number
steps_near (fin false m e) r = plus_near m e (within_of (fin false m e)) (answer_near (fin false m e) r).pos (plus_bound_at m e r)
steps_near (fin true m e) r = minus_near m e (within_of (fin true m e)) (answer_near (fin true m e) r).pos (minus_bound_at m e r)

-- from -700 to 700
pub exp_distance : ExpDistance exp_bits
unfolding exp_of
exp_distance x a b =
    let s = same x a b in
    rw (s.0, s.1, s.2) (go (lt (neg least) x && lt x least) refl)
  where
    go : (t : Bool) → (lt (neg least) x && lt x least) ≡ t → WithinOfExp exp_bits x (pick t one (within_of x))
    go true e = tiny_near x a b e
    go false e = let s = same x a b in steps_near x (in_range x s.0 s.1 s.2 e)
