-- What a counting loop's proof asks of `iter` and `range`, which `Loop` defines. Assumes nothing.
use Rattle.std.specs.Prelude.{◌≡◌, refl, ℕ, ◌+◌, ◌-◌, ◌≤◌}
use Rattle.std.proofs.Common.{sym, ap, ◌∙◌, add-one, arith}
unfoldable pub use Rattle.numerics.specs.Loop.{iter, range}

-- where a loop begins
pub iter_zero : {A : Type 0} (step : ℕ → A → A) (a : A) → iter step 0 a ≡ a
unfolding iter
iter_zero step a = refl

-- one turn more
pub iter_next : {A : Type 0} (step : ℕ → A → A) (k : ℕ) (a : A) → iter step (k + 1) a ≡ step k (iter step k a)
unfolding iter
iter_next step k a = rw (add-one k)

-- What a loop's proof asks, with the invariant `a ≡ iter step k a₀`: where it begins,
pub iter_begins : {A : Type 0} (step : ℕ → A → A) (a : A) → a ≡ iter step 0 a
iter_begins step a = sym (iter_zero step a)

-- after a turn, which made a' of a,
pub iter_turn : {A : Type 0} (step : ℕ → A → A) (k : ℕ) (a₀ : A) {a a' : A} → a ≡ iter step k a₀ → a' ≡ step k a → a' ≡ iter step (k + 1) a₀
iter_turn step k a₀ inv e = e ∙ ap (step k) inv ∙ sym (iter_next step k a₀)

-- and where it ends
pub iter_done : {A : Type 0} (step : ℕ → A → A) (k n : ℕ) (a₀ : A) {a : A} → a ≡ iter step k a₀ → k ≡ n → a ≡ iter step n a₀
iter_done step k n a₀ inv e = inv ∙ ap (λ (m : ℕ). iter step m a₀) e

-- the same of a loop from lo to hi
pub range_begins : {A : Type 0} (step : ℕ → A → A) (lo : ℕ) (a : A) → a ≡ range step lo lo a
unfolding range
range_begins step lo a = let e : lo - lo ≡ 0 = omega arith in rw e (iter_begins _ a)

pub range_turn : {A : Type 0} (step : ℕ → A → A) (lo j : ℕ) (a₀ : A) {a a' : A} → lo ≤ j → a ≡ range step lo j a₀ → a' ≡ step j a → a' ≡ range step lo (j + 1) a₀
unfolding range
range_turn step lo j a₀ {a} {a'} h inv e =
    let left : j + 1 - lo ≡ j - lo + 1 = omega arith in
    let here : j ≡ lo + (j - lo) = omega arith in
    rw left (iter_turn (λ k. step (lo + k)) (j - lo) a₀ inv (e ∙ ap (λ (k : ℕ). step k a) here))

pub range_done : {A : Type 0} (step : ℕ → A → A) (lo j hi : ℕ) (a₀ : A) {a : A} → a ≡ range step lo j a₀ → j ≡ hi → a ≡ range step lo hi a₀
range_done step lo j hi a₀ inv e = inv ∙ ap (λ (m : ℕ). range step lo m a₀) e
