-- Differences and products of whole numbers in binary64 that are exact, of either sign. Assumes nothing.
use Rattle.std.specs.Prelude.{◌≡◌, ℕ, ◌-◌, ◌*◌, ◌^◌, ◌≤◌, ◌<◌, Bool, true, false, ℤ, Float}
use Rattle.std.proofs.Common.{sym, ap, ap₂, ◌∙◌, subst, le_trans, mul-pos, mul-one, mul_comm, mul-le-mul_right, mul-lt-mul_of_pos_right, arith, true≢false}
use Rattle.std.proofs.Math.Nat.{mul-sub}
use Rattle.std.specs.Float.{nan, inf, fin, Format, binary64}
use Rattle.std.specs.Float.Ieee.{up, down, round, sum, add, sub, mul, neg}
use Rattle.std.specs.Float.Ieee.Fits.{down_pos}
use Rattle.std.specs.Float.Ieee.Exact.{HasValue}
use Rattle.std.specs.Float.Ieee.Back.{round_whole}
use Rattle.std.specs.Float.Ieee.Scale.{round_same}
use Rattle.numerics.specs.EitherSign.{taken, left}

-- a - b where b ≤ a, and its sign turned where a < b
abbrev pub Differs : Float → ℕ → ℕ → Type 0
Differs v a b = (b ≤ a → HasValue v false (a - b) 1) × (a < b → HasValue v true (b - a) 1)

over : (a b c x y : ℕ) → x ≡ a * c → y ≡ b * c → (x - y) * 1 ≡ (a - b) * c
over a b c x y e f = mul-one (x - y) ∙ rw (e, f) (ap₂ ◌-◌ (mul_comm a c) (mul_comm b c) ∙ sym (mul-sub c a b) ∙ mul_comm c (a - b))

pub sub_whole : (x y : Float) (a b : ℕ) → a ≤ 2 ^ 53 → b ≤ 2 ^ 53 → HasValue x false a 1 → HasValue y false b 1 → Differs (sub binary64 x y) a b
unfolding sub add neg sum
sub_whole nan y a b A B h k = absurd h
sub_whole (inf s) y a b A B h k = absurd h
sub_whole (fin true m e) y a b A B h k = absurd (true≢false h.0)
sub_whole (fin false m e) nan a b A B h k = absurd k
sub_whole (fin false m e) (inf s) a b A B h k = absurd k
sub_whole (fin false m e) (fin true n d) a b A B h k = absurd (true≢false k.0)
sub_whole (fin false m e) (fin false n d) a b A B h k =
    let c = down e * down d in
    let C : 0 < c = mul-pos (down_pos e) (down_pos d) in
    let x = m * up e * down d in
    let y = n * up d * down e in
    let ex : x ≡ a * c = omega (arith, ap (λ (z : ℕ). z * down d) h.1) in
    let ey : y ≡ b * c = omega (arith, ap (λ (z : ℕ). z * down e) k.1) in (
      (λ (l : b ≤ a).
          subst (λ (v : Float). HasValue v false (a - b) 1)
          (sym (left Float x y (round binary64 true (y - x) c) (round binary64 false (x - y) c) (rw (ex, ey) (mul-le-mul_right c l)) ∙ round_same binary64 false (x - y) c (a - b) 1 C (lib.Dec.lit≤ tt) (over a b c x y ex ey)))
          (round_whole binary64 false (a - b) (le_trans {m = a} (omega arith) A))),
      (λ (l : a < b).
          subst (λ (v : Float). HasValue v true (b - a) 1)
          (sym (taken Float x y (round binary64 true (y - x) c) (round binary64 false (x - y) c) (rw (ex, ey) (mul-lt-mul_of_pos_right l C)) ∙ round_same binary64 true (y - x) c (b - a) 1 C (lib.Dec.lit≤ tt) (over b a c y x ey ex)))
          (round_whole binary64 true (b - a) (le_trans {m = b} (omega arith) B))),
    )

-- a whole number times a constant above zero is one rounding
pub mul_whole : (f : Format) (x : Float) (s : Bool) (k n : ℕ) (d : ℤ) → HasValue x s k 1 → mul f x (fin false n d) ≡ round f s (k * (n * up d)) (down d)
unfolding mul
mul_whole f nan s k n d h = absurd h
mul_whole f (inf t) s k n d h = absurd h
mul_whole f (fin t m e) s k n d h = subst (λ (u : Bool). mul f (fin t m e) (fin false n d) ≡ round f u (k * (n * up d)) (down d)) h.0 (go t)
  where
    same : m * up e * (n * up d) * down d ≡ k * (n * up d) * (down e * down d)
    same = omega (arith, ap (λ (z : ℕ). z * (n * up d) * down d) h.1)

    go : (t : Bool) → mul f (fin t m e) (fin false n d) ≡ round f t (k * (n * up d)) (down d)
    go false = round_same f false (m * up e * (n * up d)) (down e * down d) (k * (n * up d)) (down d) (mul-pos (down_pos e) (down_pos d)) (down_pos d) same
    go true = round_same f true (m * up e * (n * up d)) (down e * down d) (k * (n * up d)) (down d) (mul-pos (down_pos e) (down_pos d)) (down_pos d) same
