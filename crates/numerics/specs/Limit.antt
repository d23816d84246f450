-- The tail's bound cut n a = 2 a ^ (n + 1) / (n + 1)! comes under every fraction (`tail_small`), so an order that holds up to a multiple of each cut n a holds (`limit`). Assumes nothing.
use Prim.Native.Nat.{ℕ, zero, suc, ◌+◌, ◌*◌, ◌^◌, ◌≤◌, ◌<◌}
use Rattle.std.proofs.Common.{le_trans, mul-le-mul_right, mul-le-mul_left, le_of_mul-le-mul_right, pow-suc, add-suc, add-zero, leb→le, arith}
use Rattle.std.specs.Prelude.{Bool, true, false, not, T, leb}
use Rattle.std.proofs.Math.Dec.{nleb→lt}
use Rattle.numerics.specs.Frac.{Frac, ◌⊑◌, ◌⊞◌, ◌⊠◌}
use Rattle.numerics.specs.Series.{sum_bot, sum_bot_pos}

abbrev pub cut : ℕ → Frac → Frac
cut n a = record { top = 2 * a.top ^ suc n; bot = sum_bot (suc n) a.bot; good = sum_bot_pos (suc n) a.bot a.good }

-- n is far enough out for the bound to hold at a
abbrev pub Far : ℕ → Frac → Type 0
Far n a = 2 * a.top ≤ a.bot * suc (suc n)

pub far_more : (n j : ℕ) (a : Frac) → Far n a → Far (n + j) a
far_more n j a h = le_trans h (mul-le-mul_left a.bot (omega arith))

pub far_first : (a : Frac) → Far (2 * a.top) a
far_first a = go a.top a.bot a.good
  where
    go : (t b : ℕ) → 0 < b → 2 * t ≤ b * suc (suc (2 * t))
    go t b B = omega (arith, mul-le-mul_right (suc (suc (2 * t))) B)

-- cut (n + j) is at most cut n / (j + 1)
fall : (n j : ℕ) (a : Frac) → Far n a → a.top ^ suc (n + j) * suc j * sum_bot (suc n) a.bot ≤ a.top ^ suc n * sum_bot (suc (n + j)) a.bot
fall n zero a h = rw add-zero (omega arith)
fall n (suc j) a h =
    let ih = fall n j a h in
    rw (add-suc n j) (step n j a (far_more n j a h) ih)
  where
    turn : (t0 B0 t B a k j : ℕ) → 2 * a ≤ k → t * suc j * B0 ≤ t0 * B → t * a * suc (suc j) * B0 ≤ t0 * (B * k)
    turn t0 B0 t B a k j h l =
        let x : t * suc j * B0 * k ≤ t0 * B * k = mul-le-mul_right k l in
        let y : 2 * a * (t * suc j * B0) ≤ k * (t * suc j * B0) = mul-le-mul_right (t * suc j * B0) h in
        omega (arith, x, y)

    step : (n j : ℕ) (a : Frac) → Far (n + j) a → a.top ^ suc (n + j) * suc j * sum_bot (suc n) a.bot ≤ a.top ^ suc n * sum_bot (suc (n + j)) a.bot
        → a.top ^ suc (suc (n + j)) * suc (suc j) * sum_bot (suc n) a.bot ≤ a.top ^ suc n * sum_bot (suc (suc (n + j))) a.bot
    step n j a h ih = unfold sum_bot in rw (pow-suc a.top (suc (n + j))) (turn (a.top ^ suc n) (sum_bot (suc n) a.bot) (a.top ^ suc (n + j)) (sum_bot (suc (n + j)) a.bot) a.top (a.bot * suc (suc (n + j))) j h ih)

pub tail_anti : (n j : ℕ) (a : Frac) → Far n a → cut (n + j) a ⊑ cut n a
tail_anti n j a h = less (a.top ^ suc (n + j)) (sum_bot (suc n) a.bot) (a.top ^ suc n) (sum_bot (suc (n + j)) a.bot) j (fall n j a h)
  where
    less : (t B0 t0 B j : ℕ) → t * suc j * B0 ≤ t0 * B → 2 * t * B0 ≤ 2 * t0 * B
    less t B0 t0 B j h = omega arith

-- so cut l * N is at most 1 for some l
pub tail_small : (a : Frac) (N : ℕ) → (l : ℕ) × (Far l a × ((cut l a).top * N ≤ (cut l a).bot))
tail_small a N =
    let n = 2 * a.top in
    let t0 = 2 * a.top ^ suc n in
    let j = N * suc t0 in
    (n + j, (far_more n j a (far_first a), few (a.top ^ suc n) (sum_bot (suc n) a.bot) (a.top ^ suc (n + j)) (sum_bot (suc (n + j)) a.bot) N (sum_bot_pos (suc n) a.bot a.good) (fall n j a (far_first a))))
  where
    few : (t0 B0 t B N : ℕ) → 0 < B0 → t * suc (N * suc (2 * t0)) * B0 ≤ t0 * B → 2 * t * N ≤ B
    few t0 B0 t B N P h =
        let x : t * suc (N * suc (2 * t0)) * 1 ≤ t0 * B = le_trans (mul-le-mul_left (t * suc (N * suc (2 * t0))) P) h in
        le_of_mul-le-mul_right {k = suc (2 * t0)} (omega (arith, x)) (omega arith)

pub archimedes : (X Y C : ℕ) → ((N : ℕ) → N * X ≤ N * Y + C) → X ≤ Y
archimedes X Y C h = go (leb X Y) (leb→le X Y) (nleb→lt X Y)
  where
    go : (b : Bool) → (T b → X ≤ Y) → (T (not b) → Y < X) → X ≤ Y
    go true p q = p tt
    go false p q = omega (arith, h (suc C), mul-le-mul_left (suc C) (q tt))

pub limit : (a x y c : Frac) → ((l : ℕ) → Far l a → x ⊑ y ⊞ c ⊠ cut l a) → x ⊑ y
limit a x y c h =
    le_of_mul-le-mul_right {k = c.bot} (omega (arith, archimedes (x.top * y.bot * c.bot) (y.top * x.bot * c.bot) (c.top * y.bot * x.bot) each)) c.good
  where
    clear : (N xt xb yt yb ct cb t B : ℕ) → 0 < B → t * N ≤ B → xt * (yb * (cb * B)) ≤ (yt * (cb * B) + ct * t * yb) * xb → N * (xt * yb * cb) ≤ N * (yt * xb * cb) + ct * yb * xb
    clear N xt xb yt yb ct cb t B P s l = le_of_mul-le-mul_right {k = B} (omega (arith, mul-le-mul_left N l, mul-le-mul_left (ct * yb * xb) s)) P

    each : (N : ℕ) → N * (x.top * y.bot * c.bot) ≤ N * (y.top * x.bot * c.bot) + c.top * y.bot * x.bot
    each N = let s = tail_small a N in clear N x.top x.bot y.top y.bot c.top c.bot (cut s.0 a).top (cut s.0 a).bot (cut s.0 a).good s.1.1 (h s.0 s.1.0)
