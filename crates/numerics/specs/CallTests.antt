-- From what a call ensures and how its result was tested, the value of the test in a definition. Assumes nothing.
use Rattle.std.specs.Prelude.{◌≡◌, Bool, true, false, ℕ, ◌≤◌, ◌<◌, eqb, leb}
use Rattle.std.proofs.Common.{sym, ◌∙◌, eq-eqb, ne_eqb, le-leb}
use Rattle.std.proofs.lemmas.Bool.{lt-leb}

pub flag : {r t b : Bool} → r ≡ t → r ≡ b → t ≡ b
flag e h = sym e ∙ h

pub same : {r a k : ℕ} → r ≡ a → r ≡ k → eqb a k ≡ true
same {a = a} {k = k} e h = eq-eqb a k (sym e ∙ h)

pub other : {r a k : ℕ} → r ≡ a → (r ≡ k → ⊥) → eqb a k ≡ false
other {a = a} {k = k} e h = ne_eqb a k (λ q. h (e ∙ q))

pub within : {r a k : ℕ} → r ≡ a → r ≤ k → leb a k ≡ true
within {a = a} {k = k} e h = le-leb a k (rw e at h)

pub over : {r a k : ℕ} → r ≡ a → k < r → leb a k ≡ false
over {a = a} {k = k} e h = lt-leb a k (rw e at h)

pub agree : {r q a b : ℕ} → r ≡ a → q ≡ b → r ≡ q → eqb a b ≡ true
agree {a = a} {b = b} e f h = eq-eqb a b (sym e ∙ h ∙ f)

pub differ : {r q a b : ℕ} → r ≡ a → q ≡ b → (r ≡ q → ⊥) → eqb a b ≡ false
differ {a = a} {b = b} e f h = ne_eqb a b (λ p. h (e ∙ p ∙ sym f))
