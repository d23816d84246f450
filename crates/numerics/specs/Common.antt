-- Fractions over one denominator: `On Q p n` says that p is n / Q. An order of sums of fractions becomes one of whole numbers, which `omega` proves. Assumes nothing.
use Rattle.std.specs.Prelude.{◌≡◌, ℕ, ◌+◌, ◌-◌, ◌*◌, ◌^◌, ◌≤◌, ◌<◌}
use Rattle.std.proofs.Common.{sym, ap, ap₂, ◌∙◌, mul-pos, mul_comm, mul-le-mul_right, le_of_mul-le-mul_right, one-mul, pow-suc, arith}
use Rattle.std.proofs.Math.Nat.{mul-sub, pow-zero}
use Rattle.numerics.specs.Frac.{Frac, ◌⊑◌, ◌⊞◌, big, small, Under}
use Rattle.numerics.specs.Law.{times}
use Rattle.numerics.specs.Rel.{less}

abbrev pub On : ℕ → Frac → ℕ → Type 0
On Q p n = p.top * Q ≡ n * p.bot

pub on_le : (Q : ℕ) (p q : Frac) (n m : ℕ) → On Q p n → On Q q m → p ⊑ q → n ≤ m
on_le Q p q n m a b h =
    le_of_mul-le-mul_right {k = p.bot * q.bot} (omega (arith, mul-le-mul_right Q h, ap (λ (z : ℕ). z * q.bot) a, ap (λ (z : ℕ). z * p.bot) b)) (mul-pos p.good q.good)

pub le_on : (Q : ℕ) (p q : Frac) (n m : ℕ) → 0 < Q → On Q p n → On Q q m → n ≤ m → p ⊑ q
le_on Q p q n m P a b h =
    le_of_mul-le-mul_right {k = Q} (omega (arith, mul-le-mul_right (p.bot * q.bot) h, ap (λ (z : ℕ). z * q.bot) a, ap (λ (z : ℕ). z * p.bot) b)) P

pub on_add : (Q : ℕ) (p q : Frac) (n m : ℕ) → On Q p n → On Q q m → On Q (p ⊞ q) (n + m)
on_add Q p q n m a b = omega (arith, ap (λ (z : ℕ). z * q.bot) a, ap (λ (z : ℕ). z * p.bot) b)

pub on_times : (Q k : ℕ) (p : Frac) (n : ℕ) → On Q p n → On Q (times k p) (k * n)
on_times Q k p n a = omega (arith, ap (λ (z : ℕ). k * z) a)

pub sub_mul : (x y q : ℕ) → (x - y) * q ≡ x * q - y * q
sub_mul x y q = mul_comm (x - y) q ∙ mul-sub q x y ∙ ap₂ ◌-◌ (mul_comm q x) (mul_comm q y)

pub on_less : (Q : ℕ) (p q : Frac) (n m : ℕ) → On Q p n → On Q q m → On Q (less p q) (n - m)
on_less Q p q n m a b =
    let x : p.top * q.bot * Q ≡ n * (p.bot * q.bot) = omega (arith, ap (λ (z : ℕ). z * q.bot) a) in
    let y : q.top * p.bot * Q ≡ m * (p.bot * q.bot) = omega (arith, ap (λ (z : ℕ). z * p.bot) b) in
    sub_mul (p.top * q.bot) (q.top * p.bot) Q ∙ ap₂ ◌-◌ x y ∙ sym (sub_mul n m (p.bot * q.bot))

pow_one : (n : ℕ) → n ^ 1 ≡ n
pow_one n = pow-suc n 0 ∙ ap (λ (z : ℕ). z * n) (pow-zero n) ∙ one-mul n

-- one rounding
pub on_under : (Q : ℕ) (p q : Frac) (n m : ℕ) → On Q p n → On Q q m → Under 1 p q → n * small ≤ m * big
on_under Q p q n m a b h =
    let k : p.top * q.bot * small ≤ q.top * p.bot * big = rw (pow_one small, pow_one big) at h in
    le_of_mul-le-mul_right {k = p.bot * q.bot} (omega (arith, mul-le-mul_right Q k, ap (λ (z : ℕ). z * q.bot * small) a, ap (λ (z : ℕ). z * p.bot * big) b)) (mul-pos p.good q.good)
