-- Laws of tests: what `not`, `&&` and `||` of them say, and orders of doubles. Assumes nothing.
use Rattle.std.specs.Prelude.{◌≡◌, refl, ◌⊎◌, Bool, true, false, ◌&&◌, ◌||◌, T, Float}
use Rattle.std.proofs.Common.{sym, subst, inl, inr, true≢false}
use Rattle.std.proofs.lemmas.Bool.{false≢true}
use Rattle.std.specs.Float.Ieee.{lt, le, eq}
use Rattle.numerics.specs.Double.{pick}
use Rattle.std.specs.Float.Ieee.Fits.{and_i}
pub use Rattle.std.proofs.lemmas.Bool.{not-false}
pub use Rattle.std.specs.Float.Ieee.Bits.{is_true}

pub holds : (b : Bool) → b ≡ true → T b
holds b e = subst T (sym e) tt

-- a test that holds and fails
pub clash : {A : Type 0} {b : Bool} → T b → b ≡ false → A
clash {A} {b} t e = absurd (subst T e t)

-- ---- a choice
pub picked_first : {A : Type 0} (b : Bool) (x y : A) → b ≡ true → pick b x y ≡ x
picked_first b x y e = rw e

pub picked_second : {A : Type 0} (b : Bool) (x y : A) → b ≡ false → pick b x y ≡ y
picked_second b x y e = rw e

-- ---- one of two
pub or_false : (a b : Bool) → (a || b) ≡ false → (a ≡ false) × (b ≡ false)
or_false true b e = absurd (true≢false e)
or_false false b e = (refl, e)

pub or_left : (a b : Bool) → T a → T (a || b)
or_left a b t = rw (is_true a t) tt

pub or_right : (a b : Bool) → T b → T (a || b)
or_right a b t = rw (is_true b t) (holds (a || true) (whatever a))
  where
    whatever : (c : Bool) → (c || true) ≡ true
    whatever true = refl
    whatever false = refl

pub or_split : (a b : Bool) → (a || b) ≡ true → T a ⊎ T b
or_split a b e = go a refl
  where
    go : (c : Bool) → a ≡ c → T a ⊎ T b
    go true h = inl (holds a h)
    go false h = inr (holds b (rw h at e))

-- ---- both
pub and_true : (a b : Bool) → (a && b) ≡ true → (a ≡ true) × (b ≡ true)
and_true true b e = (refl, e)
and_true false b e = absurd (false≢true e)

pub both_true : (a b : Bool) → T a → T b → (a && b) ≡ true
both_true a b s t = is_true (a && b) (and_i a b s t)

-- ---- doubles
pub lt→le : (x y : Float) → T (lt x y) → T (le x y)
unfolding le
lt→le x y h = or_left (lt x y) (eq x y) h
