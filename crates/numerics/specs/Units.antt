-- Every finite double is a whole number of units of the smallest, 2 ^ -1074 (`whole_units`). Assumes nothing.
use Rattle.std.specs.Prelude.{◌≡◌, refl, ℕ, zero, suc, ◌-◌, ◌*◌, ◌^◌, ◌≤◌, T, pos, negsuc, Float}
use Rattle.std.proofs.Common.{sym, ap, ◌∙◌, mul_assoc, mul-one, zero-mul, sub-add_cancel, pow-add}
use Rattle.std.specs.Float.{nan, inf, fin, binary64}
use Rattle.std.specs.Float.Ieee.{up, down, fits}
use Rattle.std.specs.Float.Ieee.Exact.{HasValue}
use Rattle.std.specs.Float.Ieee.Scale.{finite}
use Rattle.numerics.specs.Sign.{negative}
use Rattle.numerics.specs.Held.{held, pow_back}

pub whole_units : (z : Float) → T (fits binary64 z) → T (finite z) → (u : ℕ) × HasValue z (negative z) u (2 ^ 1074)
whole_units nan f p = absurd p
whole_units (inf s) f p = absurd p
whole_units (fin s zero e) f p = (0, (refl, ap (λ (k : ℕ). k * 2 ^ 1074) (zero-mul (up e)) ∙ zero-mul (2 ^ 1074) ∙ sym (zero-mul (down e))))
whole_units (fin s (suc m) (pos k)) f p = (suc m * 2 ^ k * 2 ^ 1074, (refl, sym (mul-one (suc m * 2 ^ k * 2 ^ 1074))))
whole_units (fin s (suc m) (negsuc k)) f p =
    let low : 2 ^ suc k ≤ 2 ^ 1074 = (held binary64 s m (negsuc k) f).1 in
    let split : 2 ^ 1074 ≡ 2 ^ (1074 - suc k) * 2 ^ suc k = ap (λ (v : ℕ). 2 ^ v) (sym (sub-add_cancel (pow_back (suc k) 1074 low))) ∙ pow-add 2 (1074 - suc k) (suc k) in
    (suc m * 2 ^ (1074 - suc k), (refl, ap (λ (v : ℕ). v * 2 ^ 1074) (mul-one (suc m)) ∙ ap (λ (v : ℕ). suc m * v) split ∙ sym (mul_assoc (suc m) (2 ^ (1074 - suc k)) (2 ^ suc k))))
