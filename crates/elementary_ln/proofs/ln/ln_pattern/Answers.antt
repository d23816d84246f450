-- `elementary_ln::ln::ln_pattern` meets its contract: the highest set bit bounds the shift. Assumes nothing.
use mathlib.Core.Path.{◌≡◌, ap, ◌∙◌}
use Prim.Native.Nat.{ℕ, ◌*◌, ◌-◌, ◌%◌, ◌^◌}
use lib.Count.{count_leading_zeros}
use borrow.Author.Tests.{lt-ltb, le-ltb}
use native.Mathlib.Omega.{arith}
use Rattle.elementary_ln.specs.Ln.{ln_parts, ln_pattern}
use Rattle.numerics.specs.Patterns.{highest_bit}
use Rattle.elementary_ln.proofs.ln.ln_pattern.Goals as goal

pub overflow_sub-n : goal.overflow_sub-n
overflow_sub-n c = let h = highest_bit _ c.requires.b_nonzero (omega arith) in omega arith

pub overflow_sub-n-then-b-lt4503599627370496 : goal.overflow_sub-n-then-b-lt4503599627370496
overflow_sub-n-then-b-lt4503599627370496 c = let h = highest_bit _ c.requires.b_nonzero (omega arith) in omega arith

pub ln_parts-requires : goal.ln_parts-requires
ln_parts-requires c = let h = highest_bit _ c.requires.b_nonzero (omega arith) in omega arith

pub returns-then-b-lt4503599627370496 : goal.returns-then-b-lt4503599627370496
unfolding ln_pattern
returns-then-b-lt4503599627370496 c =
    let b = c.args.b in
    let z = count_leading_zeros 64 b in
    let h = highest_bit b c.requires.b_nonzero (omega arith) in
    let e : b * 2 ^ (z - 11) % 2 ^ 64 ≡ b * 2 ^ (z - 11) = omega arith in
    c.ln_parts.ensures ∙ ap (λ (e : ℕ). ln_parts e (b * 2 ^ (z - 11) % 2 ^ 64 - 2 ^ 52)) c.from.ensures ∙ ap (λ (n : ℕ). ln_parts (76 - z) (n - 2 ^ 52)) e ∙ rw (lt-ltb b (2 ^ 52) c.if-b-lt4503599627370496.true)

pub returns : goal.returns
unfolding ln_pattern
returns c = c.ln_parts-2.ensures ∙ rw (le-ltb c.args.b (2 ^ 52) c.if-b-lt4503599627370496.false)
