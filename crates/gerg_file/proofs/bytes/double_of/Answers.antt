use mathlib.Core.Path.{◌≡◌, refl, sym, subst, ◌∙◌}
use mathlib.Core.Bool.{Bool, true, not}
use lib.Dec.{T}
use lib.Ieee.{Float, nan, inf, fin, binary64, is_nan, of_bits, div}
use lib.Ieee.Bits.{nan_bits_is, nan_bits_above}
use borrow.Author.Tests.{le-ltb, lt-ltb}
use Rattle.gerg_file.proofs.bytes.double_of.Goals as goal

is_nan_lem : (x : Float) → is_nan x ≡ true → x ≡ nan
unfolding is_nan
is_nan_lem nan e = refl
is_nan_lem (inf s) e = cc
is_nan_lem (fin s m k) e = cc

pub float_from_bits-result : goal.float_from_bits-result
float_from_bits-result c =
    subst (λ (b : Bool). T (not b)) (sym (nan_bits_above binary64 c.args.w ∙ le-ltb _ _ c.if-w-gt9218868437227405312.false)) tt

pub returns-then-w-gt9218868437227405312 : goal.returns-then-w-gt9218868437227405312
unfolding div of_bits
returns-then-w-gt9218868437227405312 c =
    let w = c.args.w in
    sym (is_nan_lem (of_bits binary64 w) (sym (nan_bits_is binary64 w) ∙ nan_bits_above binary64 w ∙ lt-ltb _ _ c.if-w-gt9218868437227405312.true))
