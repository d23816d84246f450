-- The bytes that a file begins with, compared as a slice: past the file's end `byte` is 0, which no byte of the revision is.
use mathlib.Core.Path.{◌≡◌, refl, sym, ap, ◌∙◌}
use mathlib.Core.Bool.{Bool, true, false, ◌&&◌}
use mathlib.Core.List.{List, [], ◌∷◌}
use Prim.Native.Nat.{ℕ, suc, ◌+◌}
use native.Mathlib.Omega.{arith}
use borrow.Author.Tests.{eq-eqb, ne_eqb, eqb-true, ltb-true}
use lib.Dec.{eqb, ltb}
use lib.ListN.{length, take}
use lib.Pointwise.{pointwise}
use Rattle.numerics.specs.Tests.{and_true}
use Rattle.gerg_file.specs.Bytes.{byte}
use Rattle.gerg_file.specs.File.{same_at, revision}

no_zero : List ℕ → Bool
no_zero [] = true
no_zero (b ∷ bs) = ltb 0 b && no_zero bs

swapped : (a b : ℕ) (t : Bool) → eqb a b ≡ t → t ≡ eqb b a
swapped a b true e = let q = eqb-true a b e in rw (eq-eqb b a (omega arith))
swapped a b false e = rw (ne_eqb b a (λ q. let z = eq-eqb a b (omega arith) in let f : ◌≡◌ {A = ℕ} 0 1 = cc in omega arith))

moved : (x : ℕ) (s : List ℕ) (at : ℕ) (bs : List ℕ) → same_at (x ∷ s) (suc at) bs ≡ same_at s at bs
unfolding same_at
moved x s at [] = refl
moved x s at (b ∷ bs) =
    ap (λ (t : Bool). eqb (byte s at) b && t)
    (ap (λ (j : ℕ). same_at (x ∷ s) j bs) (let q : suc at + 1 ≡ suc (at + 1) = omega arith in q) ∙ moved x s (at + 1) bs)

prefix_is : (s bs : List ℕ) → no_zero bs ≡ true → pointwise eqb bs (take (length bs) s) ≡ same_at s 0 bs
unfolding same_at no_zero
prefix_is s [] n = refl
prefix_is [] (b ∷ bs) n =
    let h = ltb-true 0 b (and_true (ltb 0 b) (no_zero bs) n).0 in
    let e = ne_eqb 0 b (λ q. omega arith) in
    rw e
prefix_is (x ∷ s) (b ∷ bs) n =
    let t = prefix_is s bs (and_true (ltb 0 b) (no_zero bs) n).1 in
    let e = swapped b x (eqb b x) refl in
    let m = moved x s 0 bs in
    rw (e, m, t)

pub revision_is : (s : List ℕ) {t : Bool} → t ≡ pointwise eqb (1 ∷ revision) (take 41 s) → (eqb (byte s 0) 1 && same_at s 1 revision) ≡ t
unfolding same_at no_zero
revision_is s e = sym (prefix_is s (1 ∷ revision) refl) ∙ sym e
