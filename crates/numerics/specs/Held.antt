-- What it says of a value that a format holds it (`fits`): so many digits, a whole number of the format's smallest value, below its overflow. Assumes nothing.
use Rattle.std.specs.Prelude.{Bool, true, false, not, ◌&&◌, ℕ, suc, ◌*◌, ◌%◌, ◌^◌, ◌≤◌, ◌<◌, T, ltb, leb, eqb, ℤ, Float}
use Rattle.std.proofs.Common.{not-le_of_lt, ltb→lt, leb→le}
use Rattle.std.proofs.Math.Dec.{nleb→lt}
use Rattle.std.proofs.Math.Pow.{pow-lt}
use Rattle.std.specs.Float.{fin, Format}
use Rattle.std.specs.Float.Ieee.{prec, emax, low, up, down, fits}
use Rattle.std.specs.Float.Ieee.Fits.{and_l, and_r}
use Rattle.numerics.specs.Double.{pick}

pub held : (f : Format) (s : Bool) (m : ℕ) (e : ℤ) → T (fits f (fin s (suc m) e)) → (suc m < 2 ^ prec f) × (down e ≤ 2 ^ low f) × (suc m * up e < 2 ^ suc (emax f) * down e)
unfolding fits
held f s m e t =
    let odd = eqb (suc m % 2) 1 in
    let digits = ltb (suc m) (2 ^ prec f) in
    let place = leb (down e) (2 ^ low f) in
    let size = ltb (suc m * up e) (2 ^ suc (emax f) * down e) in
    let first : T (odd && digits && place) = and_l (odd && digits && place) size t in (
      ltb→lt (suc m) (2 ^ prec f) (and_r odd digits (and_l (odd && digits) place first)),
      leb→le (down e) (2 ^ low f) (and_r (odd && digits) place first),
      ltb→lt (suc m * up e) (2 ^ suc (emax f) * down e) (and_r (odd && digits && place) size t),
    )

-- powers of two are in order only where their exponents are
pub pow_back : (i j : ℕ) → 2 ^ i ≤ 2 ^ j → i ≤ j
pow_back i j h = go (leb i j) (leb→le i j) (nleb→lt i j)
  where
    go : (b : Bool) → (T b → i ≤ j) → (T (not b) → j < i) → i ≤ j
    go true l g = l tt
    go false l g = absurd (not-le_of_lt (pow-lt (g tt)) h)

-- of two values that a format holds it holds the one that a test picks
pub pick_held : (f : Format) (b : Bool) (x y : Float) → T (fits f x) → T (fits f y) → T (fits f (pick b x y))
pick_held f true x y p q = p
pick_held f false x y p q = q
