-- The coefficients 1 / 0! to 1 / 16! as binary64 has them, each one rounding of the fraction: by a computed test. Assumes nothing.
use Rattle.std.specs.Prelude.{List, [], ◌∷◌, ℕ, suc, ◌*◌, ◌^◌, Bool, true, ◌&&◌, T, leb, Float}
use Rattle.std.proofs.Common.{leb→le}
use Rattle.std.specs.Float.{binary64}
use Rattle.std.specs.Float.Ieee.{of_bits}
use Rattle.std.specs.Float.Ieee.Fits.{and_l, and_r}
use Rattle.std.specs.Float.Ieee.Positive.{num, den, positive}
use Rattle.numerics.specs.Frac.{Frac, big, small}
use Rattle.numerics.specs.Round.{Rel}
use Rattle.numerics.specs.Horner.{fact, one_over, Coefs}

-- v is above zero and e roundings from q: a test that computes
unfoldable pub close_test : ℕ → Float → Frac → Bool
close_test e v q = positive v && (leb (num v * q.bot * small ^ e) (q.top * den v * big ^ e) && leb (q.top * den v * small ^ e) (num v * q.bot * big ^ e))

pub close_tested : (e : ℕ) (v : Float) (q : Frac) → T (close_test e v q) → Rel e v q
unfolding close_test
close_tested e v q t =
    let a = positive v in
    let b = leb (num v * q.bot * small ^ e) (q.top * den v * big ^ e) in
    let c = leb (q.top * den v * small ^ e) (num v * q.bot * big ^ e) in
    record {
      pos = and_l a (b && c) t;
      near = record {
        le = leb→le (num v * q.bot * small ^ e) (q.top * den v * big ^ e) (and_l b c (and_r a (b && c) t));
        ge = leb→le (q.top * den v * small ^ e) (num v * q.bot * big ^ e) (and_r b c (and_r a (b && c) t));
      };
    }

unfoldable pub coefs_test : ℕ → List Float → Bool
unfolding close_test
coefs_test k [] = true
coefs_test k (c ∷ cs) = close_test 1 c (one_over k) && coefs_test (suc k) cs

pub coefs_tested : (k : ℕ) (cs : List Float) → T (coefs_test k cs) → Coefs k cs
unfolding coefs_test
coefs_tested k [] t = tt
coefs_tested k (c ∷ cs) t =
    (close_tested 1 c (one_over k) (and_l (close_test 1 c (one_over k)) (coefs_test (suc k) cs) t), coefs_tested (suc k) cs (and_r (close_test 1 c (one_over k)) (coefs_test (suc k) cs) t))

abbrev pub first : Float
first = of_bits binary64 0x3ff0000000000000

abbrev pub rest : List Float
rest = of_bits binary64 0x3ff0000000000000 ∷ of_bits binary64 0x3fe0000000000000 ∷ of_bits binary64 0x3fc5555555555555 ∷ of_bits binary64 0x3fa5555555555555 ∷ of_bits binary64 0x3f81111111111111 ∷ of_bits binary64 0x3f56c16c16c16c17 ∷ of_bits binary64 0x3f2a01a01a01a01a ∷ of_bits binary64 0x3efa01a01a01a01a ∷ of_bits binary64 0x3ec71de3a556c734 ∷ of_bits binary64 0x3e927e4fb7789f5c ∷ of_bits binary64 0x3e5ae64567f544e4 ∷ of_bits binary64 0x3e21eed8eff8d898 ∷ of_bits binary64 0x3de6124613a86d09 ∷ of_bits binary64 0x3da93974a8c07c9d ∷ of_bits binary64 0x3d6ae7f3e733b81f ∷ of_bits binary64 0x3d2ae7f3e733b81f ∷ []

pub first_good : Rel 1 first (one_over 0)
unfolding close_test of_bits fact big small
first_good = close_tested 1 first (one_over 0) tt

pub rest_good : Coefs 1 rest
unfolding coefs_test of_bits fact big small
rest_good = coefs_tested 1 rest tt
