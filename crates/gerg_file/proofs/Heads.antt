-- A record's kind and two leading numbers, compared as one number.
use mathlib.Core.Path.{◌≡◌, refl}
use mathlib.Core.Bool.{Bool, true, false, ◌&&◌}
use Prim.Native.Nat.{ℕ, suc, ◌+◌, ◌*◌, ◌≤◌, ◌<◌}
use native.Mathlib.Nat.{mul-suc, mul-le-mul_left}
use native.Mathlib.Omega.{arith}
use borrow.Author.Tests.{eq-eqb, eqb-true}
use lib.Dec.{eqb}

not_all : (l x y z : Bool) → (x ≡ true → y ≡ true → z ≡ true → ⊥) → (l && x && y && z) ≡ false
not_all false x y z h = refl
not_all true false y z h = refl
not_all true true false z h = refl
not_all true true true false h = refl
not_all true true true true h = absurd (h refl refl refl)

digits : (a k m n : ℕ) → a < 256 → k < 256 → a + 256 * m ≡ k + 256 * n → (a ≡ k) × (m ≡ n)
digits a k m n ha hk e =
    let x : m ≤ n = omega arith in
    let y : n ≤ m = omega arith in
    (omega arith, omega arith)

module _ (l : Bool) (a b c kind lead number : ℕ) (ha : a < 256) (hb : b < 256) (hk : kind < 256) (hl : lead < 256) where
  pub met : l ≡ true → a + 256 * b + 65536 * c ≡ kind + 256 * lead + 65536 * number → (l && eqb a kind && eqb b lead && eqb c number) ≡ true
  met t e =
      let x = digits a kind (b + 256 * c) (lead + 256 * number) ha hk (omega arith) in
      let y = digits b lead c number hb hl x.1 in
      rw (t, eq-eqb a kind x.0, eq-eqb b lead y.0, eq-eqb c number y.1)

  pub unmet : (a + 256 * b + 65536 * c ≡ kind + 256 * lead + 65536 * number → ⊥) → (l && eqb a kind && eqb b lead && eqb c number) ≡ false
  unmet h =
      not_all l (eqb a kind) (eqb b lead) (eqb c number)
      (λ p q r.
      let x = eqb-true a kind p in
      let y = eqb-true b lead q in
      let z = eqb-true c number r in
      h (omega arith))

-- record k of `count` ends where there is room for all
pub room : (at size k count n : ℕ) → k < count → at + size * count ≤ n → at + size * k + size ≤ n
room at size k count n h l = let g : suc k ≤ count = omega arith in omega (arith, mul-le-mul_left size g, mul-suc size k)
