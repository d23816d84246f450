-- Slack in roundings for what the exponential's reduction leaves: the cut tail of the series (`tail_under`), the powers of a fraction just below 2 (`power_slack`),
-- and a small error in the exponent (`tiny_above`). `rho e` is the factor of e roundings as a fraction. Assumes nothing.
use Rattle.std.specs.Prelude.{◌≡◌, refl}
use Rattle.std.proofs.Common.{sym, ap, ◌∙◌, subst, le_refl, one-mul, mul-le-mul_right, mul-le-mul_left, le_of_mul-le-mul_right, pow-suc, add-sub_of_le, pow-add}
use Prim.Native.Nat.{ℕ, zero, suc, ◌+◌, ◌-◌, ◌*◌, ◌^◌, ◌≤◌, ◌<◌}
use Rattle.std.proofs.Math.Nat.{pow-succ', pow-zero, one-le-pow, pow-le-pow_left}
use native.Mathlib.Omega.{arith}
use Rattle.numerics.specs.Frac.{Frac, ◌⊑◌, ◌⊠◌, nat, big, small, small_pos, big_pos, Under}
use Rattle.numerics.specs.Series.{sum_top, sum_bot, sum_bot_pos, S, U, Above, S-mono, above_by, term_mono}
use Rattle.numerics.specs.Law.{power}

abbrev pub rho : ℕ → Frac
rho e = record { top = big ^ e; bot = small ^ e; good = one-le-pow e small small_pos }

-- 1 / rho e
abbrev pub rho⁻ : ℕ → Frac
rho⁻ e = record { top = small ^ e; bot = big ^ e; good = one-le-pow e big big_pos }

pub under_rho : (e : ℕ) (p q : Frac) → Under e p q → p ⊑ q ⊠ rho e
under_rho e p q h = omega arith

pub rho_under : (e : ℕ) (p q : Frac) → p ⊑ q ⊠ rho e → Under e p q
rho_under e p q h = omega arith

pub rho_mul : (i j : ℕ) → rho i ⊠ rho j ⊑ rho (i + j)
rho_mul i j = rw (pow-add small i j, pow-add big i j) (le_refl (big ^ i * big ^ j * (small ^ i * small ^ j)))

-- ---- the tail: where 1 + 2 * c ^ (n + 1) / (n + 1)! is at most rho e, the upper sum at any x up to c is within e roundings of the sum
pub S-one : (n : ℕ) (x : Frac) → sum_bot n x.bot ≤ sum_top n x.top x.bot
S-one n x = go (S-mono 0 n x Prim.Native.Nat.zero-le)
  where
    go : S 0 x ⊑ S n x → sum_bot n x.bot ≤ sum_top n x.top x.bot
    go h = unfold sum_top sum_bot in omega arith

pub tail_under : (n e : ℕ) (x c : Frac) → x ⊑ c → (sum_bot (suc n) c.bot + 2 * c.top ^ suc n) * small ^ e ≤ sum_bot (suc n) c.bot * big ^ e → Under e (U n x) (S n x)
unfolding sum_bot
tail_under n e x c h t =
    cut (sum_top n x.top x.bot) (sum_bot n x.bot) (x.bot * suc n) (x.top ^ suc n) (sum_bot (suc n) c.bot) (c.top ^ suc n) (small ^ e) (big ^ e)
    (sum_bot_pos (suc n) c.bot c.good) (S-one n x) (term_mono (suc n) x.top x.bot c.top c.bot h) t
  where
    cut : (E D k A B C s b : ℕ) → 0 < B → D ≤ E → A * B ≤ C * (D * k) → (B + 2 * C) * s ≤ B * b → (E * k + 2 * A) * D * s ≤ E * (D * k) * b
    cut E D k A B C s b P d h t = le_of_mul-le-mul_right {k = B} (omega (arith, mul-le-mul_right (2 * s * D) h, mul-le-mul_right (D * k * E) t, mul-le-mul_right (C * D * k * s * 2) d)) P

-- ---- powers
pub power_top : (k : ℕ) (p : Frac) → (power k p).top ≡ p.top ^ k
unfolding power
power_top zero p = sym (pow-zero p.top)
power_top (suc k) p = ap (λ (z : ℕ). p.top * z) (power_top k p) ∙ sym (pow-succ' p.top k)

pub power_bot : (k : ℕ) (p : Frac) → (power k p).bot ≡ p.bot ^ k
unfolding power
power_bot zero p = sym (pow-zero p.bot)
power_bot (suc k) p = ap (λ (z : ℕ). p.bot * z) (power_bot k p) ∙ sym (pow-succ' p.bot k)

one_pow : (k : ℕ) → 1 ^ k ≡ 1
one_pow zero = refl
one_pow (suc k) = pow-succ' 1 k ∙ one-mul (1 ^ k) ∙ one_pow k

-- (A / B) ^ k, with B ≤ A, is at most s as long as (A / B) ^ N is and k ≤ N
pub pow_slack : (A B s b N k : ℕ) → 0 < B → B ≤ A → k ≤ N → A ^ N * s ≤ B ^ N * b → A ^ k * s ≤ B ^ k * b
pow_slack A B s b N k P h l t = go (N - k) (add-sub_of_le l)
  where
    go : (d : ℕ) → k + d ≡ N → A ^ k * s ≤ B ^ k * b
    go d e =
        let u : A ^ (k + d) * s ≤ B ^ (k + d) * b = subst (λ (z : ℕ). A ^ z * s ≤ B ^ z * b) (sym e) t in
        let w : A ^ k * A ^ d * s ≤ B ^ k * B ^ d * b = rw (pow-add A k d, pow-add B k d) at u in
        le_of_mul-le-mul_right {k = B ^ d} (omega (arith, w, mul-le-mul_left (A ^ k * s) (pow-le-pow_left h d))) (one-le-pow d B P)

-- a fraction `lo` with 2 / (2 - lo) large: its powers up to N stay within e roundings of those of 2
pub power_slack : (e N k : ℕ) (lo : Frac) → 0 < lo.top → lo.top ≤ 2 * lo.bot → k ≤ N → (2 * lo.bot) ^ N * small ^ e ≤ lo.top ^ N * big ^ e → nat (2 ^ k) ⊑ power k lo ⊠ rho e
power_slack e N k lo P h l t =
    let u : (2 * lo.bot) ^ k * small ^ e ≤ lo.top ^ k * big ^ e = pow_slack (2 * lo.bot) lo.top (small ^ e) (big ^ e) N k P h l t in
    rw (power_top k lo, power_bot k lo) (omega (arith, rw (mul_pow 2 lo.bot k) at u))
  where
    mul_pow : (a b k : ℕ) → (a * b) ^ k ≡ a ^ k * b ^ k
    mul_pow a b zero = rw (pow-zero (a * b), pow-zero a, pow-zero b)
    mul_pow a b (suc k) = rw (pow-suc (a * b) k, pow-suc a k, pow-suc b k, mul_pow a b k) (omega arith)

pub power_two : (k : ℕ) → ((power k (nat 2)).top ≡ 2 ^ k) × ((power k (nat 2)).bot ≡ 1)
power_two k = (power_top k (nat 2), power_bot k (nat 2) ∙ one_pow k)

-- ---- a small error in the exponent: e ^ δ ≤ 1 + 2 * δ for δ at most 1
pub tiny_above : (δ : Frac) → δ.top ≤ δ.bot → Above δ (record { top = δ.bot + 2 * δ.top; bot = δ.bot; good = δ.good })
unfolding sum_top sum_bot
tiny_above δ h = above_by 0 δ (record { top = δ.bot + 2 * δ.top; bot = δ.bot; good = δ.good }) (omega arith) (rw (pow-suc δ.top 0, pow-zero δ.top) (omega arith))
