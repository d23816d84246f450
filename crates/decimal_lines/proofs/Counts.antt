-- The lines of counts, one number after the other, and stored so.
use Rattle.std.proofs.Common.{◌≡◌, ◌≢◌, refl, sym, ap, ◌∙◌, arith, ℕ, suc, ◌+◌, ◌-◌, ◌≤◌, List, [], ◌++◌, length, length-append}
use mathlib.Core.List.{append-nil}
use borrow.Author.Tests.{eq-eqb, ne_eqb}
use Rattle.std.proofs.lemmas.List.Edits.{sets}
use Rattle.numerics.specs.Fill.{sets_append}
use Rattle.decimal_lines.specs.Line.{line_from, count_line, count_lines}

next_line : (counts : ℕ → ℕ) (number : ℕ) → 1 ≤ number → count_lines counts (number - 1) ++ count_line number (counts number) ≡ count_lines counts (number + 1 - 1)
unfolding count_lines
next_line counts number h =
    let p : suc (number - 1) ≡ number = omega arith in
    let q : number + 1 - 1 ≡ suc (number - 1) = omega arith in
    ap (λ k. count_lines counts (number - 1) ++ count_line k (counts k)) (sym p) ∙ ap (count_lines counts) (sym q)

-- a number with a count, and one with none
pub count_some : (number count : ℕ) → count ≢ 0 → count_line number count ≡ line_from number count
unfolding count_line
count_some number count h = rw (ne_eqb count 0 h)

pub count_none : (number count : ℕ) → count ≡ 0 → count_line number count ≡ []
unfolding count_line
count_none number count e = rw (eq-eqb count 0 e)

pub line_on : (counts : ℕ → ℕ) (number : ℕ) → 1 ≤ number → counts number ≢ 0
    → count_lines counts (number - 1) ++ line_from number (counts number) ≡ count_lines counts (number + 1 - 1)
line_on counts number h n =
    ap (λ l. count_lines counts (number - 1) ++ l) (sym (count_some number (counts number) n)) ∙ next_line counts number h

pub no_line_on : (counts : ℕ → ℕ) (number : ℕ) → 1 ≤ number → counts number ≡ 0 → count_lines counts (number - 1) ≡ count_lines counts (number + 1 - 1)
no_line_on counts number h e =
    sym (append-nil (count_lines counts (number - 1))) ∙ ap (λ l. count_lines counts (number - 1) ++ l) (sym (count_none number (counts number) e))
    ∙ next_line counts number h

-- ---- the numbers 1 to n, stored from `at` on
module _ (counts : ℕ → ℕ) (at : ℕ) (l : List ℕ) where
  abbrev pub Stored : ℕ → List ℕ → ℕ → Type 0
  Stored n o next = (o ≡ sets l at (count_lines counts n)) × (next ≡ at + length (count_lines counts n))

  pub none_stored : Stored 0 l at
  unfolding count_lines
  none_stored = (refl, omega arith)

  -- a line stored past those before it, or none
  pub line_stored_on : (number : ℕ) (o o' : List ℕ) (next next' : ℕ) → 1 ≤ number → Stored (number - 1) o next → o' ≡ sets o next (count_line number (counts number))
      → next' ≡ next + length (count_line number (counts number)) → Stored (number + 1 - 1) o' next'
  line_stored_on number o o' next next' h s e m =
      let a = count_lines counts (number - 1) in
      let b = count_line number (counts number) in
      let c = next_line counts number h in (
        e ∙ ap (λ (x : List ℕ). sets x next b) s.0 ∙ ap (λ (k : ℕ). sets (sets l at a) k b) s.1 ∙ sets_append a b l at ∙ ap (sets l at) c,
        rw (sym c) (omega (arith, s.1, m, length-append a b)),
      )
