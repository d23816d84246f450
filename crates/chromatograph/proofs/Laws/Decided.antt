-- An answer of four tests, one after the other: what holds of each way holds of the answer. Two numbers of the table are no two names of one. Assumes nothing.
use mathlib.Core.Path.{◌≡◌, refl}
use mathlib.Core.Bool.{Bool, true, false}
use Prim.Native.Nat.{ℕ}
use borrow.Author.Tests.{eqb-false}
use lib.Dec.{eqb}
use Rattle.numerics.specs.Double.{pick}

pub decided : {A : Type 0} (P : A → Type 0) (a b c d : Bool) (v w x y z : A) → (a ≡ true → P v) → (a ≡ false → b ≡ true → P w) → (a ≡ false → b ≡ false → c ≡ true → P x)
    → (a ≡ false → b ≡ false → c ≡ false → d ≡ true → P y) → (a ≡ false → b ≡ false → c ≡ false → d ≡ false → P z) → P (pick a v (pick b w (pick c x (pick d y z))))
decided P true b c d v w x y z p q r s t = p refl
decided P false true c d v w x y z p q r s t = q refl refl
decided P false false true d v w x y z p q r s t = r refl refl refl
decided P false false false true v w x y z p q r s t = s refl refl refl refl
decided P false false false false v w x y z p q r s t = t refl refl refl refl

pub unlike : {A : Type 0} {m n : ℕ} → eqb m n ≡ false → m ≡ n → A
unlike {A} {m} {n} e h = absurd (eqb-false m n e h)
